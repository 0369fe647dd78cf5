-- What the pages hold, a mount shows: the objects that names keep, with the spare blocks that the root's header says.
use Rattle.std.specs.Prelude.{◌+◌, ◌≤◌, ℕ, Some}
use Rattle.std.specs.Cmp.{nat_cmp_total}
use Rattle.std.specs.FinMap as map
use Rattle.std.proofs.Common.{refl}
use Rattle.nand_model.specs.declared.geometry.Geometry.{Geometry}
use Rattle.flash_tree.specs.Mount.{sizes_of, IsVolume}
use Rattle.flash_tree.specs.Tree.{ReadsAs, Shows}
use Rattle.volume_terms.specs.Sizes.{Sizes, root_number}
use Rattle.posix_profile.specs.State.{Object, File, Dir, Objects}
use Rattle.posix_profile.specs.WellFormed.{IsForest, IsTree}
use Rattle.posix_profile.specs.laws.Map.{retain_cases}
use Rattle.posix_profile.specs.laws.Prune.{prune_well_formed, no_handles, well_formed_tree}
use Rattle.object_store.specs.Stores.{settled}
use Rattle.pages.specs.Maps.{PageMap, has}
use Rattle.paged_objects.specs.Holding.{HoldsObject, HoldsObjects}
use Rattle.paged_objects.specs.laws.Holding.{held}

module _ (z : Sizes) (m : PageMap) (objects : Objects) (holds : HoldsObjects z m objects) (forest : IsForest z objects) where
  -- the objects that names keep are a tree
  settled_tree : IsTree z (settled objects)
  settled_tree = well_formed_tree z (settled objects) (prune_well_formed z (record { objects = objects; handles = map.empty }) forest (no_handles objects))

  reads_as : (o : ℕ) (x : Object) → HoldsObject z m o (Some x) → ReadsAs z (has m) o x
  reads_as o (File moment bytes) h = h.reads
  reads_as o (Dir moment entries) h = h.reads

  -- the pages show them
  pub shows_settled : Shows z (has m) (settled objects)
  shows_settled = record {
    tree = settled_tree;
    each = λ o x is. reads_as o x (held z m objects holds o (Some x) (retain_cases nat_cmp_total map.nat_cmp-IsAntisymmetric objects _ o x is).1);
  }

-- and are a volume of these sizes
pub holds_volume : (g : Geometry) (spare : ℕ) (m : PageMap) (objects : Objects) → HoldsObjects (sizes_of g spare) m objects → IsForest (sizes_of g spare) objects → spare + 4 ≤ g.blocks → IsVolume g (has m) spare
holds_volume g spare m objects holds forest room =
    let root = held (sizes_of g spare) m objects holds root_number (Some (Dir forest.root.0 forest.root.1)) forest.root.2 in
    record { fields = root.reads.fields; has = root.reads.has; kind = root.reads.kind; spare_is = root.spare refl; room = room }
