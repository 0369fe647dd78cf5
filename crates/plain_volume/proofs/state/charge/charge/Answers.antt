use Rattle.std.proofs.Common.{◌∙◌, sum_by, ap, arith}
use Rattle.posix_profile.specs.Charge.{cost}
use Rattle.std.specs.Map.Iter.{deref}
use Rattle.plain_volume.specs.PlainState.{object_of}
use Rattle.volume_terms.specs.VolumeSizes.{sizes_of}
use Rattle.plain_volume.specs.laws.PlainState.{charge_values, all_gone}
use Rattle.plain_volume.proofs.state.charge.charge.Goals as goal

pub loop-object-init : goal.loop-object-init
loop-object-init c =
    let values = ap (sum_by (λ x. cost (sizes_of c.args.sizes) (object_of x))) (c.into_iter-object-iterator.ensures.into_iter_gives ∙ c.values-object-items.ensures.rest) in
    let all = charge_values (sizes_of c.args.sizes) c.args.objects.now c.values-object-items.ensures.ordered in
    record { small = omega arith; reported = omega (arith, values, all) }

pub returns : goal.returns
returns c =
    let none = all_gone deref c.loop-object.object-iterator c.next.new.self c.next.result c.in-None.is c.next.ensures.steps in
    let left = ap (sum_by (λ x. cost (sizes_of c.args.sizes) (object_of x))) none in
    omega (arith, left, c.loop-object.invariant.reported, c.loop-object.invariant.small)
