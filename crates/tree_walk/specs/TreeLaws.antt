-- What follows for a tree that was gone through, and for the objects that it shows, as statements.
use Rattle.std.specs.Prelude.{◌≡◌, ◌↔◌, ℕ, true}
use Rattle.flash_tree.specs.Tree.{Shows}
use Rattle.name_index.specs.declared.index.NameIndex.{NameIndex}
use Rattle.pages.specs.Maps.{PageMap, has}
use Rattle.posix_profile.specs.State.{Objects}
use Rattle.volume_terms.specs.Sizes.{Sizes, IsSizes}
use Rattle.tree_walk.specs.Covering.{CoversObjects}
use Rattle.tree_walk.specs.Hashes.{CoversTree}
use Rattle.tree_walk.specs.Looked.{looked_pages}
use Rattle.tree_walk.specs.Trees.{IsTreeThrough, ReportsHeads, IsLookedUp, keeps_key, objects_listed, page_size, tree_pages}
use Rattle.tree_walk.specs.declared.tree.Tree.{Tree}

-- the keys that a tree looks up, by its headers, are those that are looked up to see its objects
abbrev pub TreesLookUpTheirKeys : Type 0
TreesLookUpTheirKeys =
    (z : Sizes) (m : PageMap) (tree : Tree) → z.page_bytes ≡ page_size tree → ReportsHeads z (has m) tree
    → (o c : ℕ) → (keeps_key tree o c ≡ true) ↔ IsLookedUp z (has m) (objects_listed tree) o c

-- an index that has the hashes of a tree's names has those of the objects that are shown
abbrev pub IndexesCoverObjects : Type 0
IndexesCoverObjects =
    (z : Sizes) (m : PageMap) (tree : Tree) (objects : Objects) (index : NameIndex) → IsSizes z → IsTreeThrough z (has m) tree → Shows z (has m) objects
    → CoversTree index z m tree → CoversObjects index z m objects

-- the headers and the slots of a tree take as many pages as are looked up to see the objects that are shown
abbrev pub TreePagesAreLookedUp : Type 0
TreePagesAreLookedUp =
    (z : Sizes) (m : PageMap) (tree : Tree) (objects : Objects) → IsSizes z → IsTreeThrough z (has m) tree → Shows z (has m) objects
    → tree_pages z tree ≡ looked_pages z objects
