-- What is reported of one object of the tree.
use Rattle.std.specs.Prelude.{◌≡◌, ◌≤◌, ℕ, ◌+◌, true}
use Rattle.std.specs.BTreeMap.{BTreeMap, get}
use Rattle.std.specs.Int.{div_ceil}
use Rattle.std.specs.Option.{option_map_or}
use Rattle.std.specs.Ordering.{nat_cmp}
use Rattle.page_tags.specs.declared.header.ObjectKind.{ObjectKind}
use Rattle.page_tags.specs.declared.header.ObjectKind.TheVariants as kinds
use Rattle.flash_tree.specs.Tree.{NewestMap}
use Rattle.flash_tree.specs.Mount.{Leads, Finds}
use Rattle.pages.specs.Maps.{PageMap}
use Rattle.pages.specs.State.{PagesState}
use Rattle.volume_terms.specs.Sizes.{Sizes, page_slots}
use Rattle.tree_walk.specs.Heads.{SaysHead}
use Rattle.tree_walk.specs.declared.head.Head.{Head}
use Rattle.tree_walk.specs.declared.object.Visited.{Visited}

-- a sound store with pages of this size
pub record IsSeen (z : Sizes) (p : PagesState) : Type 0 where
  pub sound : p.sound ≡ true
  pub size : z.page_bytes ≡ p.page_bytes

-- this holds, by the sizes of a volume, of the pages of such a store
abbrev pub OfSeen : PagesState → (Sizes → PageMap → Type 0) → Type 0
OfSeen p A = (z : Sizes) → IsSeen z p → A z p.present

-- how many pages the slots of an object of this length take
abbrev pub slot_pages : Sizes → ObjectKind → ℕ → ℕ
slot_pages z kinds.File len = 0
slot_pages z kinds.Directory len = div_ceil len (page_slots z)

-- at most the header of an object and the pages of its slots were looked up
abbrev pub IssuesForHead : Sizes → PagesState → PagesState → Head → Type 0
IssuesForHead z old new head = new.issued ≤ old.issued + 1 + slot_pages z head.kind head.length

-- how many pages the header of an object and its slots take
abbrev pub head_pages : Sizes → Head → ℕ
head_pages z head = 1 + slot_pages z head.kind head.length

-- and those of the object of this number, whose header may be reported
abbrev pub reported_pages : Sizes → BTreeMap ℕ Head → ℕ → ℕ
reported_pages z heads o = option_map_or (head_pages z) (get nat_cmp heads o) 0

-- the object is there whole: what its header says, and the objects that it names
pub record IsVisited (z : Sizes) (m : NewestMap) (o : ℕ) (visit : Visited) : Type 0 where
  pub head : SaysHead z m o visit.head
  pub leads : Finds z m o (Leads visit.named.items)
