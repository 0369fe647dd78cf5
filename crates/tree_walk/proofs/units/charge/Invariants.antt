use Rattle.std.proofs.Common.{◌≡◌, ◌-◌, ◌^◌, min, take}
use Rattle.std.specs.Prelude.{sum_by}
use Rattle.volume_terms.specs.VolumeSizes.{sizes_of}
use Rattle.tree_walk.specs.Trees.{objects_listed}
use Rattle.tree_walk.specs.Units.{reported_cost}
use Rattle.tree_walk.proofs.units.charge.Given as goal

abbrev pub invariant-loop-place : goal.invariant-loop-place
invariant-loop-place l = l.units ≡ min (sum_by (reported_cost (sizes_of l.sizes) l.tree) (take l.place (objects_listed l.tree))) (2 ^ 64 - 1)
