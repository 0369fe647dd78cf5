use Rattle.std.proofs.Common.{◌≡◌}
use Rattle.std.specs.FinMap as map
use Rattle.pages.specs.Maps.{PageMap}
use Rattle.posix_profile.specs.State.{Objects}
use Rattle.object_store.specs.Built.{sizes_built, Builds}
use Rattle.tree_walk.specs.Trees.{objects_listed}
use Rattle.tree_walk.specs.Building.{IsShown}
use Rattle.tree_walk.proofs.Bare.{HasBare}
use Rattle.tree_walk.proofs.tree_objects.insert_objects.Given as goal

abbrev pub invariant-loop-place : goal.invariant-loop-place
invariant-loop-place l = record {
  size : sizes_built l.builder ≡ sizes_built l.fn.builder;
  builds : (m : PageMap) (objects : Objects) → IsShown (sizes_built l.fn.builder) m l.tree objects → Builds l.fn.builder map.empty
      → (part : Objects) × HasBare objects (objects_listed l.tree) l.place part × Builds l.builder part;
}
