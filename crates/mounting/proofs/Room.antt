-- Whether a volume can go on with a tree, by what it costs and by the blocks without a committed page.
use Rattle.std.specs.Prelude.{◌≡◌, ◌<◌, ◌≤◌, ℕ, ◌+◌, ◌-◌, true, false, not, nat_eq}
use Rattle.std.proofs.Common.{refl, sym, ◌∙◌, ap, subst, inr, arith}
use Rattle.std.proofs.lemmas.Bool.{eq-eqb, and_from}
use Rattle.nand_model.specs.Flash.{Flash}
use Rattle.nand_model.specs.declared.geometry.Geometry.{Geometry}
use Rattle.volume_terms.specs.Sizes.{Sizes, capacity}
use Rattle.posix_profile.specs.State.{Objects}
use Rattle.posix_profile.specs.Charge.{charge}
use Rattle.flash_tree.specs.Newest.{Spot, HasNewest}
use Rattle.flash_tree.specs.laws.Newest.{one_spot}
use Rattle.flash_tree.specs.laws.Tree.{footprint_law}
use Rattle.flash_tree.specs.Tree.{IsPageSize, InFootprint, Shows}
use Rattle.flash_tree.specs.Mount.{IsDamaged, sizes_of, IsVolume, bad_blocks, IsFree, HasFree, IsWrong, IsTreeOf, Answers}
use Rattle.block_state.specs.Table.{Table}
use Rattle.block_state.specs.Committed.{is_uncommitted, uncommitted_count, bad_count}
use Rattle.chunk_index.specs.declared.index.Index.{Index}
use Rattle.chunk_index.specs.Free.{KeepsTree, HasMarks}
use Rattle.chunk_index.specs.Committed.{HoldsNone}
use Rattle.chunk_index.specs.Maps.{committed_pages, count_committed_in, CountsAgree}
use Rattle.pages.specs.Maps.{PageMap, has}
use Rattle.mounting.specs.NewestMaps.{IsNewestMap}
use Rattle.mounting.specs.CommittedTrees.{KeepsOnlyTree}
use Rattle.mounting.proofs.NewestMaps.{has_newest, newest_has, is_volume}
use Rattle.mounting.proofs.SameMaps.{HasAll, header_too}
use Rattle.mounting.proofs.VolumeSizes.{is_page_size}
use Rattle.pages.specs.laws.Low.{looked_low}
use Rattle.mounting.proofs.Picked.{few_picked}

module _ (flash : Flash) (m : PageMap) (is : IsNewestMap flash m) (z : Sizes) (objects : Objects) where
  to : HasAll (has m) (HasNewest flash)
  to = has_newest flash m is

  back : HasAll (HasNewest flash) (has m)
  back = newest_has flash m is

  shown_on_flash : IsPageSize z.page_bytes → Shows z (has m) objects → Shows z (HasNewest flash) objects
  shown_on_flash size shown =
      footprint_law z (has m) (HasNewest flash) objects (λ o c bytes looked there. to o c bytes (looked_low z size looked.fields c looked.has.1 looked.looks) there) shown

  looked_on_flash : (o c : ℕ) → InFootprint z (has m) objects o c → InFootprint z (HasNewest flash) objects o c
  looked_on_flash o c f = record { object = f.object; there = f.there; fields = f.fields; has = header_too (has m) (HasNewest flash) to back z o f.fields f.has; looks = f.looks }

  looked_on_map : (o c : ℕ) → InFootprint z (HasNewest flash) objects o c → InFootprint z (has m) objects o c
  looked_on_map o c f = record { object = f.object; there = f.there; fields = f.fields; has = header_too (HasNewest flash) (has m) back to z o f.fields f.has; looks = f.looks }

-- a tree that costs too much has no room
pub too_full : (g : Geometry) (flash : Flash) (m : PageMap) (spare : ℕ) (objects : Objects) → IsNewestMap flash m → IsVolume g (has m) spare → Shows (sizes_of g spare) (has m) objects
    → capacity (sizes_of g spare) < charge (sizes_of g spare) objects → Answers g flash (IsWrong IsDamaged)
too_full g flash m spare objects is volume shown more = inr (inr (inr (
  spare,
  is_volume g flash m spare is volume,
  refl,
  objects,
  shown_on_flash flash m is (sizes_of g spare) objects (is_page_size g) shown,
  λ room. let fits = room.fits in omega (arith, more, fits),
)))

module _ (flash : Flash) (m : PageMap) (is : IsNewestMap flash m) (spare : ℕ) (objects : Objects) (x : Index) (t : Table) where
  abbrev z : Sizes
  z = sizes_of t.geometry spare

  module _ (agree : CountsAgree t x) (marks : HasMarks flash t) (keeps : KeepsOnlyTree flash z m objects (committed_pages x)) where
    pub keeps_tree : KeepsTree flash z objects (committed_pages x)
    keeps_tree o c s looked newest =
        let p = keeps.all o c s (looked_on_map flash m is z objects o c looked) newest in
        let q = keeps.newest o c p.0 p.1 in
        (p.0, p.1, sym q.2 ∙ ap (λ (s : Spot). s.block) (one_spot flash o c q.0 s q.1 newest))

    -- a free block is good, and no key is committed in it
    free_uncommitted : (zero_where_none : (b : ℕ) → HoldsNone (committed_pages x) b → count_committed_in x b ≡ 0) (b : ℕ) → IsFree t.geometry flash z objects b → is_uncommitted t b ≡ true
    free_uncommitted zero_where_none b free =
        let none : count_committed_in x b ≡ 0 = zero_where_none b (λ o c p committed here.
        let q = keeps.newest o c p committed in
        free.apart o c q.0 (looked_on_flash flash m is z objects o c (keeps.only o c p committed)) q.1 (q.2 ∙ here)) in
        let good : (t.entry b).bad ≡ false = marks b free.within ∙ free.good in
        and_from (not (t.entry b).bad) (nat_eq (t.entry b).committed 0) (ap not good) (eq-eqb (t.entry b).committed 0 (agree.counts b ∙ none))

    -- so no more blocks are free than are uncommitted
    pub few_free : ((b : ℕ) → HoldsNone (committed_pages x) b → count_committed_in x b ≡ 0) → (count : ℕ) → HasFree t.geometry flash z objects count → count ≤ uncommitted_count t
    few_free zero_where_none count free =
        let within_limit = few_picked (is_uncommitted t) t.geometry.blocks free.blocks free.once (λ i b at. let f = free.each i b at in (f.within, free_uncommitted zero_where_none b f)) in
        omega (arith, within_limit, free.size)

    -- where too few blocks are uncommitted, too few are free
    scarce_here : ((b : ℕ) → HoldsNone (committed_pages x) b → count_committed_in x b ≡ 0) → bad_count t ≡ bad_blocks t.geometry flash → bad_count t ≤ spare → uncommitted_count t + bad_count t < 1 + spare
        → IsVolume t.geometry (has m) spare → Shows z (has m) objects → Answers t.geometry flash (IsWrong IsDamaged)
    scarce_here zero_where_none same within_limit scarce volume shown = inr (inr (inr (
      spare,
      is_volume t.geometry flash m spare is volume,
      refl,
      objects,
      shown_on_flash flash m is z objects (is_page_size t.geometry) shown,
      λ room.
          let sufficient = few_free zero_where_none (1 + spare - bad_blocks t.geometry flash) (room.free (omega (arith, within_limit, same))) in
          omega (arith, sufficient, scarce, within_limit, same),
    )))

    -- where enough are, there is room
    room_here : ((count : ℕ) → count ≤ uncommitted_count t → HasFree t.geometry flash z objects count) → bad_count t ≡ bad_blocks t.geometry flash
        → (bad_count t ≤ spare → 1 + spare ≤ uncommitted_count t + bad_count t) → charge z objects ≤ capacity z
        → IsVolume t.geometry (has m) spare → Shows z (has m) objects → Answers t.geometry flash (IsTreeOf spare objects)
    room_here free same sufficient fits volume shown = (
      is_volume t.geometry flash m spare is volume,
      shown_on_flash flash m is z objects (is_page_size t.geometry) shown,
      record {
        fits = fits;
        free = λ within_limit. let more = sufficient (omega (arith, within_limit, same)) in free (1 + spare - bad_blocks t.geometry flash) (omega (arith, more, same));
      },
    )

module _ (g : Geometry) (flash : Flash) (m : PageMap) (spare : ℕ) (objects : Objects) (x : Index) (t : Table) (is : IsNewestMap flash m) (volume : IsVolume g (has m) spare)
    (shown : Shows (sizes_of g spare) (has m) objects) (at : t.geometry ≡ g) (agree : CountsAgree t x) (marks : HasMarks flash t) (keeps : KeepsOnlyTree flash (sizes_of g spare) m objects (committed_pages x)) where
  pub scarce : ((b : ℕ) → HoldsNone (committed_pages x) b → count_committed_in x b ≡ 0) → bad_count t ≡ bad_blocks t.geometry flash → bad_count t ≤ spare → uncommitted_count t + bad_count t < 1 + spare
      → Answers g flash (IsWrong IsDamaged)
  scarce zero_where_none same within_limit less =
      subst (λ g. KeepsOnlyTree flash (sizes_of g spare) m objects (committed_pages x) → IsVolume g (has m) spare → Shows (sizes_of g spare) (has m) objects → Answers g flash (IsWrong IsDamaged)) at
      (λ k. scarce_here flash m is spare objects x t agree marks k zero_where_none same within_limit less) keeps volume shown

  pub with_room : ((count : ℕ) → KeepsTree flash (sizes_of t.geometry spare) objects (committed_pages x) → count ≤ uncommitted_count t → HasFree t.geometry flash (sizes_of t.geometry spare) objects count)
      → bad_count t ≡ bad_blocks t.geometry flash → charge (sizes_of g spare) objects ≤ capacity (sizes_of g spare) → (bad_count t ≤ spare → 1 + spare ≤ uncommitted_count t + bad_count t)
      → Answers g flash (IsTreeOf spare objects)
  with_room free same fits sufficient =
      subst (λ g. KeepsOnlyTree flash (sizes_of g spare) m objects (committed_pages x) → charge (sizes_of g spare) objects ≤ capacity (sizes_of g spare)
      → IsVolume g (has m) spare → Shows (sizes_of g spare) (has m) objects → Answers g flash (IsTreeOf spare objects)) at
      (λ k fits. room_here flash m is spare objects x t agree marks k
      (λ count. free count (keeps_tree flash m is spare objects x t agree marks k)) same sufficient fits) keeps fits volume shown
