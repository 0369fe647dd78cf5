use Rattle.std.proofs.Common.{◌≡◌}
use Rattle.pages.specs.Maps.{PageMap}
use Rattle.posix_profile.specs.State.{Objects}
use Rattle.object_store.specs.Built.{sizes_built, Builds}
use Rattle.tree_walk.specs.Building.{IsShown, IsNameless}
use Rattle.tree_walk.proofs.Naming.{HasNamed}
use Rattle.tree_walk.proofs.Reported.{slots_of, page_size}
use Rattle.tree_walk.proofs.tree_names.insert_names.Given as goal

abbrev pub invariant-loop-place : goal.invariant-loop-place
invariant-loop-place l = record {
  size : sizes_built l.builder ≡ sizes_built l.fn.builder;
  builds : (m : PageMap) (objects part : Objects) (shown : IsShown (sizes_built l.fn.builder) m l.tree objects) → IsNameless objects part → Builds l.fn.builder part
      → (now : Objects)
      × HasNamed objects (slots_of (sizes_built l.fn.builder) (page_size (sizes_built l.fn.builder) shown.sizes) m l.tree objects shown.tree_of shown.shows).0 l.place now
      × Builds l.builder now;
}
