-- A device that is mounted.
-- From: this project.
use Rattle.std.specs.Prelude.{◌≡◌, ◌≤◌, ℕ, ◌+◌, true, Some}
use Rattle.volume_terms.specs.Sizes.{Sizes}
use Rattle.nand_model.specs.Flash.{Flash}
use Rattle.nand_model.specs.Calls.{Device}
use Rattle.flash_tree.specs.Newest.{Spot, IsNewest, HasNewest, Numbers}
use Rattle.flash_tree.specs.Mount.{sizes_of}
use Rattle.block_state.specs.Committed.{uncommitted_count}
use Rattle.block_state.specs.Table.{Table}
use Rattle.chunk_index.specs.declared.form.CommittedPage.{CommittedPage}
use Rattle.chunk_index.specs.declared.index.Index.{Index}
use Rattle.chunk_index.specs.Maps.{CommittedMap, committed_pages}
use Rattle.page_store.specs.Opened.{committed_at}
use Rattle.paged_objects.specs.Holding.{HoldsObjects}
use Rattle.page_store.specs.Shown.{committed_data}
use Rattle.pages.specs.Maps.{PageMap, has}
use Rattle.pages.specs.Stores.{bad_on}
use Rattle.posix_profile.specs.State.{Objects}
use Rattle.name_index.specs.declared.index.NameIndex.{NameIndex}
use Rattle.tree_walk.specs.Hashes.{CoversTree}
use Rattle.tree_walk.specs.Trees.{keeps_key}
use Rattle.tree_walk.specs.declared.tree.Tree.{Tree}
use Rattle.flash_tree.specs.Tree.{Shows, InFootprint}
use Rattle.mounting.specs.NewestMaps.{IsNewestMap}
use Rattle.mounting.specs.Marked.{marked}
use Rattle.mounting.specs.Tables.{IsPruned}
use Rattle.mounting.specs.Trees.{IsGoneThrough}

-- the tree of the newest pages of a device was gone through wholly
pub record IsTreeOn (device : Device) (spare : ℕ) (tree : Tree) : Type 0 where
  pub pages : PageMap
  pub newest : IsNewestMap device.flash pages
  pub through : IsGoneThrough device.geometry (has pages) spare tree

-- By each map of the newest pages the index has the hashes of the names of the tree.
abbrev pub CoversNewest : NameIndex → Device → (spare : ℕ) → Tree → Type 0
CoversNewest names device spare tree = (pages : PageMap) → IsNewestMap device.flash pages → CoversTree names (sizes_of device.geometry spare) pages tree

-- The pages of a tree are committed, and nothing else; and on an honest device the tree is that of its newest pages.
pub record IsTreeRead (device : Device) (t : Table) (x : Index) (n : Numbers) (spare : ℕ) (tree : Tree) : Type 0 where
  pub tables : IsPruned (keeps_key tree) device t x n
  pub tree_on : device.honest ≡ true → IsTreeOn device spare tree

-- blocks enough are bad or without a committed page, unless more are bad than there are to spare
abbrev pub HasRoomOn : Device → Table → (spare : ℕ) → Type 0
HasRoomOn device t spare = bad_on device ≤ spare → 1 + spare ≤ uncommitted_count (marked device.flash t) + bad_on device

-- Exactly the keys that are looked up to see these objects are committed, each at the place and in the version of its newest page.
pub record KeepsPlaces (flash : Flash) (z : Sizes) (objects : Objects) (committed : CommittedMap) : Type 0 where
  pub all : (o c : ℕ) (s : Spot) → InFootprint z (HasNewest flash) objects o c → IsNewest flash o c s → committed o c ≡ Some (committed_at s)
  pub only : (o c : ℕ) (p : CommittedPage) → committed o c ≡ Some p → InFootprint z (HasNewest flash) objects o c

-- These objects are the tree that the newest pages show, and the pages that are committed are theirs and no others, each at its place. What is
-- reported of the tree is reported of pages that show them.
pub record IsTreeShown (device : Device) (x : Index) (spare : ℕ) (tree : Tree) (objects : Objects) : Type 0 where
  pub on : IsTreeOn device spare tree
  pub shows : Shows (sizes_of device.geometry spare) (has on.pages) objects
  pub holds : HoldsObjects (sizes_of device.geometry spare) (committed_data x device.flash) objects
  pub places : KeepsPlaces device.flash (sizes_of device.geometry spare) objects (committed_pages x)
