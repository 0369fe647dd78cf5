-- The tree that a device shows, and what a mount answers of it.
use Rattle.std.specs.Prelude.{◌≡◌, ◌↔◌, ◌<◌, ◌≤◌, ◌^◌, ℕ, ◌+◌, Bool, true, false, List, [], ◌∷◌, Option, Some, None}
use Rattle.std.specs.Option.{option_and_then}
use Rattle.std.proofs.Common.{refl, sym, ◌∙◌, ap, inl, inr, arith}
use Rattle.std.proofs.lemmas.Bool.{cases_lt}
use Rattle.nand_model.specs.Flash.{Flash, Written, IsWithin, IsSized}
use Rattle.nand_model.specs.Calls.{Device}
use Rattle.nand_model.specs.declared.geometry.Geometry.{Geometry}
use Rattle.page_tags.specs.Tags.{tag_bytes}
use Rattle.page_tags.specs.Headers.{header_bytes}
use Rattle.volume_terms.specs.Sizes.{Sizes, capacity, root_number}
use Rattle.posix_profile.specs.State.{Objects}
use Rattle.posix_profile.specs.Charge.{charge}
use Rattle.flash_tree.specs.Newest.{Spot, IsNewest, HasNewest, Numbers}
use Rattle.flash_tree.specs.Tree.{Shows, InFootprint}
use Rattle.flash_tree.specs.Mount.{Wholly, GoesThrough, NamesTwice, Answers, IsWrong, IsDamaged, IsTreeOf, sizes_of, IsVolume, bad_blocks}
use Rattle.block_state.specs.Committed.{bad_count, uncommitted_count}
use Rattle.block_state.specs.Table.{Table}
use Rattle.chunk_index.specs.Free.{HasMarks}
use Rattle.pages.specs.laws.Low.{looked_low}
use Rattle.chunk_index.specs.Maps.{CommittedMap, committed_pages, CountsAgree}
use Rattle.chunk_index.specs.declared.form.CommittedPage.{CommittedPage}
use Rattle.chunk_index.specs.declared.index.Index.{Index}
use Rattle.flash_log.specs.Consistency.{AreCommitted, IsCommittedAt}
use Rattle.paged_objects.specs.Holding.{HoldsObjects}
use Rattle.page_store.specs.Shown.{data_of, data_at, committed_data}
use Rattle.pages.specs.Maps.{PageMap, has}
use Rattle.pages.specs.Stores.{bad_on, Carries}
use Rattle.page_store.specs.Opened.{committed_at}
use Rattle.tree_walk.specs.Trees.{IsLookedUp, ReportsHeads, keeps_key, objects_listed, page_size}
use Rattle.tree_walk.specs.declared.tree.Tree.{Tree}
use Rattle.mounting.specs.Footprints.{KeepsFootprint, IsFootprint}
use Rattle.mounting.specs.CommittedTrees.{LieNewest, KeepsOnlyTree}
use Rattle.mounting.specs.NewestMaps.{IsNewestMap}
use Rattle.mounting.specs.Marked.{marked}
use Rattle.mounting.specs.Mounted.{IsTreeOn, IsTreeShown, HasRoomOn, KeepsPlaces}
use Rattle.mounting.specs.Tables.{IsPruned}

-- the laws that are used
pub record TreeLaws : Type 0 where
  pub shown : (g : Geometry) (flash : Flash) (m : PageMap) (spare : ℕ) (list : List ℕ) → IsWithin g.pages g.blocks flash → IsSized g.bytes flash
      → IsNewestMap flash m → IsVolume g (has m) spare → GoesThrough (sizes_of g spare) (has m) (root_number ∷ []) 0 (Wholly list)
      → (NamesTwice (sizes_of g spare) (has m) list → ⊥)
      → (objects : Objects) × Shows (sizes_of g spare) (has m) objects × Shows (sizes_of g spare) (HasNewest flash) objects
  pub holds : (g : Geometry) (spare : ℕ) (m part : PageMap) (objects : Objects) → IsVolume g (has m) spare → Shows (sizes_of g spare) (has m) objects
      → IsFootprint (sizes_of g spare) m objects part → HoldsObjects (sizes_of g spare) part objects
  pub full : (g : Geometry) (flash : Flash) (m : PageMap) (spare : ℕ) (objects : Objects) → IsNewestMap flash m → IsVolume g (has m) spare
      → Shows (sizes_of g spare) (has m) objects → capacity (sizes_of g spare) < charge (sizes_of g spare) objects → Answers g flash (IsWrong IsDamaged)
  pub scarce : (g : Geometry) (flash : Flash) (m : PageMap) (spare : ℕ) (objects : Objects) (x : Index) (t : Table) → IsNewestMap flash m → IsVolume g (has m) spare
      → Shows (sizes_of g spare) (has m) objects → t.geometry ≡ g → CountsAgree t x → HasMarks flash t → KeepsOnlyTree flash (sizes_of g spare) m objects (committed_pages x)
      → bad_count t ≤ spare → uncommitted_count t + bad_count t < 1 + spare → Answers g flash (IsWrong IsDamaged)
  pub room : (g : Geometry) (flash : Flash) (m : PageMap) (spare : ℕ) (objects : Objects) (x : Index) (t : Table) → IsNewestMap flash m → IsVolume g (has m) spare
      → Shows (sizes_of g spare) (has m) objects → t.geometry ≡ g → CountsAgree t x → HasMarks flash t → KeepsOnlyTree flash (sizes_of g spare) m objects (committed_pages x)
      → charge (sizes_of g spare) objects ≤ capacity (sizes_of g spare) → (bad_count t ≤ spare → 1 + spare ≤ uncommitted_count t + bad_count t)
      → Answers g flash (IsTreeOf spare objects)
  pub test : (z : Sizes) (m : PageMap) (objects : Objects) (list : List ℕ) (keeps : ℕ → ℕ → Bool) → 32 ≤ z.page_bytes → z.page_bytes ≤ 4096 → Shows z (has m) objects
      → GoesThrough z (has m) (root_number ∷ []) 0 (Wholly list) → ((o c : ℕ) → (keeps o c ≡ true) ↔ IsLookedUp z (has m) list o c) → KeepsFootprint z m objects keeps
  pub part : (z : Sizes) (m part : PageMap) (objects : Objects) (keeps : ℕ → ℕ → Bool) → KeepsFootprint z m objects keeps
      → ((o c : ℕ) → keeps o c ≡ true → part o c ≡ m o c) → ((o c : ℕ) → keeps o c ≡ false → part o c ≡ None) → IsFootprint z m objects part
  pub committed : (flash : Flash) (z : Sizes) (m : PageMap) (objects : Objects) (keeps : ℕ → ℕ → Bool) (committed : CommittedMap) → KeepsFootprint z m objects keeps → LieNewest flash committed
      → ((o c : ℕ) (s : Spot) → keeps o c ≡ true → IsNewest flash o c s → (p : CommittedPage) × (committed o c ≡ Some p)) → ((o c : ℕ) → keeps o c ≡ false → committed o c ≡ None)
      → KeepsOnlyTree flash z m objects committed
  pub keys : (z : Sizes) (m : PageMap) (tree : Tree) → z.page_bytes ≡ page_size tree → ReportsHeads z (has m) tree
      → (o c : ℕ) → (keeps_key tree o c ≡ true) ↔ IsLookedUp z (has m) (objects_listed tree) o c
  pub bad : (t : Table) (flash : Flash) → HasMarks flash t → bad_count t ≡ bad_blocks t.geometry flash

-- the data of a page that is the newest of its key
data_is : (flash : Flash) (o c : ℕ) (k : CommittedPage) (at : IsCommittedAt flash o c k) → data_at flash k ≡ Some at.newest.holds.has.bytes
data_is flash o c k at = ap data_of at.newest.holds.has.page

newest_of : (flash : Flash) (o c : ℕ) (xs : List ℕ) (k : CommittedPage) → IsCommittedAt flash o c k → data_at flash k ≡ Some xs → HasNewest flash o c xs
newest_of flash o c xs k at is =
    let two : Some at.newest.holds.has.bytes ≡ Some xs = sym (data_is flash o c k at) ∙ is in
    let same : at.newest.holds.has.bytes ≡ xs = cc in
    record {
      spot = record { block = k.block; page = k.page; tag = at.tag };
      newest = at.newest;
      stored = at.newest.holds.has.page ∙ ap (λ ys. Written ys (tag_bytes at.tag)) same;
    }

from_committed : (flash : Flash) (o c : ℕ) (xs : List ℕ) (m : Option CommittedPage) → ((k : CommittedPage) → m ≡ Some k → IsCommittedAt flash o c k) → option_and_then (data_at flash) m ≡ Some xs → HasNewest flash o c xs
from_committed flash o c xs None committed is = absurd cc
from_committed flash o c xs (Some k) committed is = newest_of flash o c xs k (committed k refl) is

-- and its chunk is one that a tree may look up
low_from : (flash : Flash) (o c : ℕ) (xs : List ℕ) (m : Option CommittedPage) → ((k : CommittedPage) → m ≡ Some k → c < 2 ^ 32) → option_and_then (data_at flash) m ≡ Some xs → c < 2 ^ 32
low_from flash o c xs None low is = absurd cc
low_from flash o c xs (Some k) low is = low k refl

pub committed_low : (flash : Flash) (x : Index) → ((o c : ℕ) (p : CommittedPage) → committed_pages x o c ≡ Some p → c < 2 ^ 32) → (o c : ℕ) (xs : List ℕ) → committed_data x flash o c ≡ Some xs → c < 2 ^ 32
committed_low flash x low o c xs is = low_from flash o c xs (committed_pages x o c) (low o c) is

-- what is committed is the newest
pub committed_newest : (flash : Flash) (x : Index) → AreCommitted flash (committed_pages x) → Carries flash (committed_data x flash)
committed_newest flash x committed o c xs is = from_committed flash o c xs (committed_pages x o c) (committed o c) is

module _ (laws : TreeLaws) (d : Device) (t : Table) (x : Index) (n : Numbers) (spare : ℕ) (tree : Tree) (within : IsWithin d.geometry.pages d.geometry.blocks d.flash) (sized : IsSized d.geometry.bytes d.flash)
    (pruned : IsPruned (keeps_key tree) d t x n) (honest : d.honest ≡ true) (on : IsTreeOn d spare tree) where
  abbrev z : Sizes
  z = sizes_of d.geometry spare

  abbrev m : PageMap
  m = on.pages

  -- a key that stays has its newest page, and so what the map has
  stays : (o c : ℕ) → keeps_key tree o c ≡ true → committed_data x d.flash o c ≡ m o c
  stays o c keeps = go (m o c) (committed_data x d.flash o c) refl refl where
    held : (xs : List ℕ) → m o c ≡ Some xs → committed_data x d.flash o c ≡ Some xs
    held xs is =
        let (newest, low) = (on.newest o c xs).0 is in
        ap (option_and_then (data_at d.flash)) (pruned.all honest o c newest.spot low keeps newest.newest) ∙ ap data_of newest.stored

    go : (a b : Option (List ℕ)) → m o c ≡ a → committed_data x d.flash o c ≡ b → committed_data x d.flash o c ≡ m o c
    go (Some xs) b is reported = held xs is ∙ sym is
    go None None is reported = reported ∙ sym is
    go None (Some ys) is reported =
        let there : m o c ≡ Some ys = (on.newest o c ys).1 (committed_newest d.flash x (pruned.tables.newest honest) o c ys reported, committed_low d.flash x pruned.tables.low o c ys reported) in
        let two : None ≡ Some ys = sym is ∙ there in
        absurd cc

  goes : (o c : ℕ) → keeps_key tree o c ≡ false → committed_data x d.flash o c ≡ None
  goes o c not_committed = ap (option_and_then (data_at d.flash)) (pruned.others o c not_committed)

  lies : LieNewest d.flash (committed_pages x)
  lies o c p is = let at = pruned.tables.newest honest o c p is in (record { block = p.block; page = p.page; tag = at.tag }, at.newest, refl)

  pub shows : (objects : Objects) × Shows z (has m) objects × Shows z (HasNewest d.flash) objects
  shows = laws.shown d.geometry d.flash m spare (objects_listed tree) within sized on.newest on.through.volume on.through.tree_is.through on.through.tree_is.once

  module _ (objects : Objects) (shown : Shows z (has m) objects) where
    footprint : KeepsFootprint z m objects (keeps_key tree)
    footprint =
        let size = d.geometry.least_bytes in
        laws.test z m objects (objects_listed tree) (keeps_key tree) (omega (arith, size)) d.geometry.most_bytes shown on.through.tree_is.through (laws.keys z m tree (sym on.through.size) on.through.tree_is.heads)

    pub holds : HoldsObjects z (committed_data x d.flash) objects
    holds = laws.holds d.geometry spare m (committed_data x d.flash) objects on.through.volume shown (laws.part z m (committed_data x d.flash) objects (keeps_key tree) footprint stays goes)

    -- a key that stays is of a chunk that a tree may look up
    low : (o c : ℕ) → keeps_key tree o c ≡ true → c < 2 ^ 32
    low o c keeps =
        let foot = (footprint o c).0 keeps in
        let least = d.geometry.least_bytes in
        looked_low z (record { least = omega (arith, least); most = d.geometry.most_bytes }) foot.fields c foot.has.1 foot.looks

    only : KeepsOnlyTree d.flash z m objects (committed_pages x)
    only = laws.committed d.flash z m objects (keeps_key tree) (committed_pages x) footprint lies (λ o c s keeps newest. (committed_at s, pruned.all honest o c s (low o c keeps) keeps newest)) pruned.others

    counts : CountsAgree (marked d.flash t) x
    counts = record { counts = pruned.tables.counts.counts; within = pruned.tables.counts.within }

    marks : HasMarks d.flash (marked d.flash t)
    marks b lt = refl

    bad_is : bad_count (marked d.flash t) ≡ bad_on d
    bad_is = laws.bad (marked d.flash t) d.flash marks ∙ ap (λ (g : Geometry). bad_blocks g d.flash) pruned.tables.geometry

    pub answers_room : charge z objects ≤ capacity z → HasRoomOn d t spare → Answers d.geometry d.flash (IsTreeOf spare objects)
    answers_room fits room = laws.room d.geometry d.flash m spare objects x (marked d.flash t) on.newest on.through.volume shown pruned.tables.geometry counts marks only fits
        (λ within_limit. let sufficient = room (omega (arith, within_limit, bad_is)) in omega (arith, sufficient, bad_is))

    pub answers_full : (charge z objects ≤ capacity z → ⊥) → Answers d.geometry d.flash (IsWrong IsDamaged)
    answers_full over = laws.full d.geometry d.flash m spare objects on.newest on.through.volume shown (elim (cases_lt (capacity z) (charge z objects)) [
      | inl lt ↦ lt
      | inr le ↦ absurd (over le)
    ])

    pub answers_scarce : (HasRoomOn d t spare → ⊥) → Answers d.geometry d.flash (IsWrong IsDamaged)
    answers_scarce none = elim (cases_lt spare (bad_count (marked d.flash t))) [
      | inl many ↦ absurd (none (λ within_limit. absurd (omega (arith, within_limit, many, bad_is))))
      | inr within_limit ↦ elim (cases_lt (uncommitted_count (marked d.flash t) + bad_count (marked d.flash t)) (1 + spare)) [
        | inl lt ↦ laws.scarce d.geometry d.flash m spare objects x (marked d.flash t) on.newest on.through.volume shown pruned.tables.geometry counts marks only within_limit lt
        | inr ge ↦ absurd (none (λ f. omega (arith, ge, bad_is)))
      ]
    ]

    -- what is looked up of the flash is looked up of the map, and the other way round
    header_map : (o : ℕ) (bytes : List ℕ) → HasNewest d.flash o 0 bytes → m o 0 ≡ Some bytes
    header_map o bytes newest = (on.newest o 0 bytes).1 (newest, omega arith)

    to_map : (o c : ℕ) → InFootprint z (HasNewest d.flash) objects o c → InFootprint z (has m) objects o c
    to_map o c foot = record { object = foot.object; there = foot.there; fields = foot.fields; has = (header_map o (header_bytes foot.fields) foot.has.0, foot.has.1); looks = foot.looks }

    from_map : (o c : ℕ) → InFootprint z (has m) objects o c → InFootprint z (HasNewest d.flash) objects o c
    from_map o c foot = record { object = foot.object; there = foot.there; fields = foot.fields; has = (((on.newest o 0 (header_bytes foot.fields)).0 foot.has.0).0, foot.has.1); looks = foot.looks }

    places : KeepsPlaces d.flash z objects (committed_pages x)
    places = record {
      all = λ o c s foot newest. let keeps = (footprint o c).1 (to_map o c foot) in pruned.all honest o c s (low o c keeps) keeps newest;
      only = λ o c p is. from_map o c (only.only o c p is);
    }

    pub tree_shown : IsTreeShown d x spare tree objects
    tree_shown = record { on = on; shows = shown; holds = holds; places = places }
