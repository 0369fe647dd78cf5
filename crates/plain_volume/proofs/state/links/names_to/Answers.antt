use Rattle.std.proofs.Common.{◌∙◌, length, nat_eq, ap, arith}
use Rattle.posix_profile.specs.Names.{names_to}
use Rattle.plain_volume.specs.PlainState.{object_of}
use Rattle.plain_volume.proofs.Counts.{count_left, names_count}
use Rattle.plain_volume.proofs.state.links.names_to.Goals as goal

pub loop-child-init : goal.loop-child-init
loop-child-init c =
    let start = c.into_iter-child-iterator.ensures.into_iter_gives ∙ c.values-child-items.ensures.rest in
    let long = ap length c.into_iter-child-iterator.ensures.into_iter_gives in
    let left = ap (count_left (nat_eq c.args.number)) start in
    let all = names_count c.in-Directory.entries c.args.number c.in-Directory.moment c.values-child-items.ensures.ordered in
    let is = ap (λ x. length (names_to c.args.number (object_of x))) c.in-Directory.is in
    record { small = omega (arith, long, c.values-child-items.ensures.len, c.values-child-items.ensures.fits); reported = omega (arith, left, all, is) }
