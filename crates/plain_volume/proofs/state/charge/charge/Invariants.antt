use Rattle.std.proofs.Common.{◌≡◌, ◌≤◌, ◌-◌, ◌^◌, min, ◌+◌, sum_by}
use Rattle.posix_profile.specs.Charge.{cost, charge}
use Rattle.plain_volume.specs.PlainState.{object_of, objects_in}
use Rattle.volume_terms.specs.VolumeSizes.{sizes_of}
use Rattle.plain_volume.proofs.state.charge.charge.Given as goal

-- the units so far and those of the objects that are left are those of all
abbrev pub invariant-loop-object : goal.invariant-loop-object
invariant-loop-object l = record {
  small : l.total ≤ 2 ^ 64 - 1;
  reported : min (l.total + sum_by (λ x. cost (sizes_of l.sizes) (object_of x)) l.object-iterator) (2 ^ 64 - 1) ≡ min (charge (sizes_of l.fn.sizes) (objects_in l.fn.objects)) (2 ^ 64 - 1);
}
