-- The newest of the pages of one kind, as a scan finds them. A kind is given by which pages, with their tags, are of it.
use Rattle.std.specs.Prelude.{◌≡◌, ◌<◌, ◌^◌, ℕ, List, Contains}
use Rattle.std.specs.List.{AllPairs}
use Rattle.nand_model.specs.declared.geometry.Geometry.{Geometry}
use Rattle.flash_tree.specs.Newest.{Spot, IsAfter}
use Rattle.mount_scan.specs.Copies.{copy_at, spot_of_copy}
use Rattle.mount_scan.specs.Keys.{HaveOneKey, HaveOtherKeys}
use Rattle.mount_scan.specs.declared.page_copy.PageCopy.{PageCopy}
use Rattle.chunk_index.specs.Newest.{LieWithin, LieInPages, LieLow}

-- the copies are of places in blocks below b, of so many pages each, and of chunks that a tree may look up
pub record LieBelow (pages b : ℕ) (list : List PageCopy) : Type 0 where
  pub placed : (x : PageCopy) → Contains list x → (x.block < b) × (x.page < pages)
  pub low : (x : PageCopy) → Contains list x → x.chunk < 2 ^ 32

-- the copies may be indexed: they are of places of a device of these sizes, and of chunks that a tree may look up, each key once
pub record MayBeIndexed (g : Geometry) (list : List PageCopy) : Type 0 where
  pub within : LieWithin g.blocks list
  pub pages : LieInPages g.pages list
  pub low : LieLow list
  pub once : AllPairs HaveOtherKeys list

-- the list has a copy of a page of the same key that this page does not come after
pub record IsCovered (list : List PageCopy) (s : Spot) : Type 0 where
  pub copy : PageCopy
  pub has : Contains list copy
  pub key : HaveOneKey copy (copy_at s)
  pub last : IsAfter s (spot_of_copy copy) → ⊥

-- Only copies of pages of the kind, by which each page of the kind in a block below b, of a chunk that a tree may look up, is covered.
pub record HasLatestBelow (kind : Spot → Type 0) (b : ℕ) (list : List PageCopy) : Type 0 where
  pub only : (x : PageCopy) → Contains list x → (s : Spot) × kind s × (copy_at s ≡ x)
  pub some : (s : Spot) → s.block < b → s.tag.chunk < 2 ^ 32 → kind s → IsCovered list s

-- the page is of the kind, and no page of the kind and its key comes after it
pub record IsNewestOf (kind : Spot → Type 0) (s : Spot) : Type 0 where
  pub is : kind s
  pub last : (t : Spot) → kind t → HaveOneKey (copy_at t) (copy_at s) → IsAfter t s → ⊥

-- exactly the copies of the newest pages of the kind, of all keys of chunks that a tree may look up
pub record AreNewestOf (kind : Spot → Type 0) (list : List PageCopy) : Type 0 where
  pub only : (x : PageCopy) → Contains list x → (s : Spot) × IsNewestOf kind s × (copy_at s ≡ x)
  pub each : (s : Spot) → s.tag.chunk < 2 ^ 32 → IsNewestOf kind s → Contains list (copy_at s)
