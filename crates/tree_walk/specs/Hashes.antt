-- The hashes of the names of directories that were gone through.
use Rattle.std.specs.Prelude.{◌≡◌, ◌<◌, ℕ, List, Some, slice_get}
use Rattle.std.specs.Ordering.{nat_cmp}
use Rattle.std.specs.BTreeMap.{BTreeMap, get}
use Rattle.page_tags.specs.declared.header.ObjectKind.TheVariants as kinds
use Rattle.name_index.specs.Names.{Holds}
use Rattle.name_index.specs.Covering.{HasHashes}
use Rattle.name_index.specs.declared.index.NameIndex.{NameIndex}
use Rattle.pages.specs.Maps.{PageMap}
use Rattle.volume_terms.specs.Sizes.{Sizes}
use Rattle.tree_walk.specs.declared.head.Head.{Head}
use Rattle.tree_walk.specs.declared.tree.Tree.{Tree}

-- what an index holds the other holds too
abbrev pub Keeps : NameIndex → NameIndex → Type 0
Keeps old new = (d h s : ℕ) → Holds old d h s → Holds new d h s

-- each of the first hashes is held with the slot that is its place
abbrev pub HoldsEach : NameIndex → ℕ → ℕ → List ℕ → Type 0
HoldsEach index directory count hashes = (s h : ℕ) → s < count → slice_get hashes s ≡ Some h → Holds index directory h s

-- of a directory with this header the index has the hashes of all names
abbrev pub CoversHead : NameIndex → Sizes → PageMap → ℕ → Head → Type 0
CoversHead index z m o head = head.kind ≡ kinds.Directory → HasHashes index z m o head.length

-- and of each directory among those whose headers are known
abbrev pub CoversHeads : NameIndex → Sizes → PageMap → BTreeMap ℕ Head → Type 0
CoversHeads index z m heads = (o : ℕ) (head : Head) → get nat_cmp heads o ≡ Some head → CoversHead index z m o head

-- of each directory of the tree the index has the hash of each slot's name
abbrev pub CoversTree : NameIndex → Sizes → PageMap → Tree → Type 0
CoversTree index z m tree = CoversHeads index z m tree.heads
