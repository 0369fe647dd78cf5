use Rattle.std.proofs.Common.{◌∙◌, ℕ, Bool, length, sym, ap, arith}
use Rattle.std.specs.FinMap as map
use Rattle.posix_profile.specs.State.{is_directory}
use Rattle.plain_volume.specs.PlainState.{objects_in}
use Rattle.name_map.specs.laws.NameEntries.{values_entries}
use Rattle.plain_volume.proofs.Counts.{count_left, count_left_is}
use Rattle.plain_volume.proofs.state.links.subdirectories.Goals as goal

pub loop-child-init : goal.loop-child-init
loop-child-init c =
    let p : ℕ → Bool = λ child. is_directory (map.get (objects_in c.args.objects.now) child) in
    let start = c.into_iter-child-iterator.ensures.into_iter_gives ∙ c.values-child-items.ensures.rest in
    let long = ap length c.into_iter-child-iterator.ensures.into_iter_gives in
    let left = ap (count_left p) (start ∙ sym (values_entries c.args.entries.now c.values-child-items.ensures.ordered)) ∙ count_left_is p _ in
    record { small = omega (arith, long, c.values-child-items.ensures.len, c.values-child-items.ensures.fits); reported = omega (arith, left) }
