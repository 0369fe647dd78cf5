-- What holds of the tree that the newest pages of a flash show, as statements.
use Rattle.std.specs.Prelude.{◌≡◌, ◌↔◌, ◌<◌, ◌≤◌, ◌+◌, ℕ, Bool, true, false, None, Some, List, [], ◌∷◌}
use Rattle.nand_model.specs.Flash.{Flash, IsWithin, IsSized}
use Rattle.nand_model.specs.declared.geometry.Geometry.{Geometry}
use Rattle.volume_terms.specs.Sizes.{Sizes, capacity, root_number}
use Rattle.posix_profile.specs.State.{Objects}
use Rattle.posix_profile.specs.Charge.{charge}
use Rattle.paged_objects.specs.Holding.{HoldsObjects}
use Rattle.flash_tree.specs.Newest.{Spot, IsNewest, HasNewest}
use Rattle.flash_tree.specs.Tree.{Shows, InFootprint}
use Rattle.flash_tree.specs.Mount.{Wrong, IsDamaged, Wrongly, Wholly, GoesThrough, sizes_of, IsVolume, HasWrongRoot, NamesTwice, IsWrong, IsTreeOf, Answers}
use Rattle.pages.specs.Maps.{PageMap, has}
use Rattle.block_state.specs.Table.{Table}
use Rattle.block_state.specs.Committed.{uncommitted_count, bad_count}
use Rattle.chunk_index.specs.declared.form.CommittedPage.{CommittedPage}
use Rattle.chunk_index.specs.declared.index.Index.{Index}
use Rattle.chunk_index.specs.Free.{HasMarks}
use Rattle.chunk_index.specs.Maps.{CommittedMap, committed_pages, CountsAgree, Retains}
use Rattle.flash_tree.specs.declared.place.Key.{Key}
use Rattle.tree_walk.specs.Broken.{Breaks, IsFirstBroken}
use Rattle.tree_walk.specs.Trees.{IsLookedUp, IsWrongTree}
use Rattle.tree_walk.specs.declared.broken.Broken.{Broken}
use Rattle.tree_walk.specs.declared.broken.Rule.{Rule}
use Rattle.mounting.specs.NewestMaps.{IsNewestMap}
use Rattle.mounting.specs.CommittedTrees.{LieNewest, KeepsAll, KeepsOnlyTree}
use Rattle.mounting.specs.Footprints.{KeepsFootprint, IsFootprint}

-- a wrong header of the root in the newest pages is the answer of the flash
abbrev pub WrongRootsAreAnswered : Type 0
WrongRootsAreAnswered =
    (g : Geometry) (flash : Flash) (m : PageMap) (wrong : Wrong) → IsNewestMap flash m → HasWrongRoot g (has m) wrong → Answers g flash (IsWrong wrong)

-- so is a wrong object of the tree
abbrev pub WrongObjectsAreAnswered : Type 0
WrongObjectsAreAnswered =
    (g : Geometry) (flash : Flash) (m : PageMap) (spare : ℕ) (wrong : Wrong) → IsNewestMap flash m → IsVolume g (has m) spare
    → GoesThrough (sizes_of g spare) (has m) (root_number ∷ []) 0 (Wrongly wrong) → Answers g flash (IsWrong wrong)

-- so are two names that lead to one directory
abbrev pub DoubleNamesAreAnswered : Type 0
DoubleNamesAreAnswered =
    (g : Geometry) (flash : Flash) (m : PageMap) (spare : ℕ) (list : List ℕ) → IsNewestMap flash m → IsVolume g (has m) spare
    → GoesThrough (sizes_of g spare) (has m) (root_number ∷ []) 0 (Wholly list) → NamesTwice (sizes_of g spare) (has m) list → Answers g flash (IsWrong IsDamaged)

-- so is what is wrong of a tree as a whole
abbrev pub WrongTreesAreAnswered : Type 0
WrongTreesAreAnswered =
    (g : Geometry) (flash : Flash) (m : PageMap) (spare : ℕ) (wrong : Wrong) → IsNewestMap flash m → IsVolume g (has m) spare
    → IsWrongTree (sizes_of g spare) (has m) wrong → Answers g flash (IsWrong wrong)

-- a rule that the newest pages break the flash breaks
abbrev pub RulesAreBrokenAlike : Type 0
RulesAreBrokenAlike =
    (g : Geometry) (flash : Flash) (m : PageMap) (spare : ℕ) (key : Key) (rule : Rule) → IsNewestMap flash m
    → Breaks (sizes_of g spare) (has m) key rule → Breaks (sizes_of g spare) (HasNewest flash) key rule

-- and the first that they break is the first that the flash breaks
abbrev pub FirstBrokenAlike : Type 0
FirstBrokenAlike =
    (g : Geometry) (flash : Flash) (m : PageMap) (spare : ℕ) (broken : Broken) → IsNewestMap flash m
    → IsFirstBroken (sizes_of g spare) (has m) broken → IsFirstBroken (sizes_of g spare) (HasNewest flash) broken

-- the flash is that of a volume where its newest pages are
abbrev pub VolumesAreAlike : Type 0
VolumesAreAlike =
    (g : Geometry) (flash : Flash) (m : PageMap) (spare : ℕ) → IsNewestMap flash m → IsVolume g (has m) spare → IsVolume g (HasNewest flash) spare

-- where all objects were gone through, and no directory is named twice, the newest pages and the flash show one tree
abbrev pub WholeListsShow : Type 0
WholeListsShow =
    (g : Geometry) (flash : Flash) (m : PageMap) (spare : ℕ) (list : List ℕ) → IsWithin g.pages g.blocks flash → IsSized g.bytes flash
    → IsNewestMap flash m → IsVolume g (has m) spare → GoesThrough (sizes_of g spare) (has m) (root_number ∷ []) 0 (Wholly list)
    → (NamesTwice (sizes_of g spare) (has m) list → ⊥)
    → (objects : Objects) × Shows (sizes_of g spare) (has m) objects × Shows (sizes_of g spare) (HasNewest flash) objects

-- the pages that are looked up to see a tree hold its objects by themselves
abbrev pub FootprintsHold : Type 0
FootprintsHold =
    (g : Geometry) (spare : ℕ) (m part : PageMap) (objects : Objects) → IsVolume g (has m) spare → Shows (sizes_of g spare) (has m) objects
    → IsFootprint (sizes_of g spare) m objects part → HoldsObjects (sizes_of g spare) part objects

-- of a tree that does not fit the answer is that something is amiss
abbrev pub FullTreesAreAnswered : Type 0
FullTreesAreAnswered =
    (g : Geometry) (flash : Flash) (m : PageMap) (spare : ℕ) (objects : Objects) → IsNewestMap flash m → IsVolume g (has m) spare
    → Shows (sizes_of g spare) (has m) objects → capacity (sizes_of g spare) < charge (sizes_of g spare) objects → Answers g flash (IsWrong IsDamaged)

-- so it is where too few blocks are bad or without a committed page
abbrev pub ScarceTreesAreAnswered : Type 0
ScarceTreesAreAnswered =
    (g : Geometry) (flash : Flash) (m : PageMap) (spare : ℕ) (objects : Objects) (x : Index) (t : Table) → IsNewestMap flash m → IsVolume g (has m) spare
    → Shows (sizes_of g spare) (has m) objects → t.geometry ≡ g → CountsAgree t x → HasMarks flash t → KeepsOnlyTree flash (sizes_of g spare) m objects (committed_pages x)
    → bad_count t ≤ spare → uncommitted_count t + bad_count t < 1 + spare → Answers g flash (IsWrong IsDamaged)

-- else the answer is the tree
abbrev pub RoomyTreesAreAnswered : Type 0
RoomyTreesAreAnswered =
    (g : Geometry) (flash : Flash) (m : PageMap) (spare : ℕ) (objects : Objects) (x : Index) (t : Table) → IsNewestMap flash m → IsVolume g (has m) spare
    → Shows (sizes_of g spare) (has m) objects → t.geometry ≡ g → CountsAgree t x → HasMarks flash t → KeepsOnlyTree flash (sizes_of g spare) m objects (committed_pages x)
    → charge (sizes_of g spare) objects ≤ capacity (sizes_of g spare) → (bad_count t ≤ spare → 1 + spare ≤ uncommitted_count t + bad_count t)
    → Answers g flash (IsTreeOf spare objects)

-- where all objects were gone through, the keys that are looked up to see those of the list are those of the tree that is shown
abbrev pub TreesLookUpFootprints : Type 0
TreesLookUpFootprints =
    (z : Sizes) (m : PageMap) (objects : Objects) (list : List ℕ) → 32 ≤ z.page_bytes → z.page_bytes ≤ 4096 → Shows z (has m) objects
    → GoesThrough z (has m) (root_number ∷ []) 0 (Wholly list) → (o c : ℕ) → IsLookedUp z (has m) list o c ↔ InFootprint z (has m) objects o c

-- and a test that keeps the one keeps the other
abbrev pub TestsKeepFootprints : Type 0
TestsKeepFootprints =
    (z : Sizes) (m : PageMap) (objects : Objects) (list : List ℕ) (keeps : ℕ → ℕ → Bool) → 32 ≤ z.page_bytes → z.page_bytes ≤ 4096 → Shows z (has m) objects
    → GoesThrough z (has m) (root_number ∷ []) 0 (Wholly list) → ((o c : ℕ) → (keeps o c ≡ true) ↔ IsLookedUp z (has m) list o c) → KeepsFootprint z m objects keeps

-- what a test that keeps what a tree looks up leaves of a map are the pages of the tree
abbrev pub PartsAreFootprints : Type 0
PartsAreFootprints =
    (z : Sizes) (m part : PageMap) (objects : Objects) (keeps : ℕ → ℕ → Bool) → KeepsFootprint z m objects keeps
    → ((o c : ℕ) → keeps o c ≡ true → part o c ≡ m o c) → ((o c : ℕ) → keeps o c ≡ false → part o c ≡ None) → IsFootprint z m objects part

-- what it leaves of the places of the newest pages of all keys are the places of the tree, and no others
abbrev pub PlacesAreOfTheTree : Type 0
PlacesAreOfTheTree =
    (flash : Flash) (z : Sizes) (m : PageMap) (objects : Objects) (keeps : ℕ → ℕ → Bool) (committed : CommittedMap) → KeepsFootprint z m objects keeps → LieNewest flash committed
    → ((o c : ℕ) (s : Spot) → keeps o c ≡ true → IsNewest flash o c s → (p : CommittedPage) × (committed o c ≡ Some p)) → ((o c : ℕ) → keeps o c ≡ false → committed o c ≡ None)
    → KeepsOnlyTree flash z m objects committed

-- and so of an index that keeps the newest pages
abbrev pub IndexesAreOfTheTree : Type 0
IndexesAreOfTheTree =
    (flash : Flash) (z : Sizes) (m : PageMap) (objects : Objects) (keeps : ℕ → ℕ → Bool) (old new : Index) → KeepsFootprint z m objects keeps
    → Retains keeps old new → LieNewest flash (committed_pages old) → KeepsAll flash (committed_pages old) → KeepsOnlyTree flash z m objects (committed_pages new)
