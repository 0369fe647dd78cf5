-- What a mount gives.
use Rattle.std.specs.Prelude.{◌≡◌, ◌↔◌, ◌<◌, ◌≤◌, ◌^◌, ◌/◌, ℕ, ◌+◌, Bool, true, false, Some}
use Rattle.std.proofs.Common.{refl, sym, ◌∙◌, ap, subst, inl, inr, arith}
use Rattle.std.proofs.lemmas.Bool.{cases_lt, cases_Bool, le-leb}
use Rattle.nand_model.specs.Calls.{Device}
use Rattle.volume_terms.specs.Sizes.{Sizes, IsSizes, capacity}
use Rattle.posix_profile.specs.State.{Objects}
use Rattle.posix_profile.specs.Charge.{charge, fits}
use Rattle.posix_profile.specs.WellFormed.{IsForest}
use Rattle.flash_tree.specs.Newest.{Numbers, AreGreatest}
use Rattle.flash_tree.specs.Tree.{Shows}
use Rattle.flash_tree.specs.Mount.{Answers, IsTreeOf, IsVolume, sizes_of}
use Rattle.chunk_index.specs.declared.form.CommittedPage.{CommittedPage}
use Rattle.chunk_index.specs.declared.index.Index.{Index}
use Rattle.paged_objects.specs.Holding.{HoldsObjects}
use Rattle.object_store.specs.Stores.{CanHave}
use Rattle.paged_objects.specs.laws.Holding.{same_objects}
use Rattle.object_store.specs.Stores.{settled}
use Rattle.object_store.specs.Reported.{Reports}
use Rattle.object_store.specs.declared.table.ObjectTable.{ObjectTable}
use Rattle.page_store.specs.Shown.{committed_data}
use Rattle.pages.specs.Maps.{PageMap, has}
use Rattle.pages.specs.State.{PagesState}
use Rattle.pages.specs.Stores.{bad_on}
use Rattle.paged_objects.specs.Representing.{volume_of, Shown}
use Rattle.paged_objects.specs.laws.Showing.{committed_shown}
use Rattle.page_store.specs.ReadOnly.{IsWorn}
use Rattle.name_index.specs.declared.index.NameIndex.{NameIndex}
use Rattle.flash_log.specs.Consistency.{AreCommitted}
use Rattle.chunk_index.specs.Maps.{committed_pages}
use Rattle.tree_walk.specs.Covering.{CoversObjects}
use Rattle.tree_walk.specs.Hashes.{CoversTree}
use Rattle.tree_walk.specs.Trees.{IsTreeThrough}
use Rattle.tree_walk.specs.declared.tree.Tree.{Tree}
use Rattle.mounting.specs.Made.{ArePagesOn, CanBeWritten, CanOnlyBeRead, AreNext, IsMountedWith}
use Rattle.mounting.specs.Mounted.{IsTreeShown, CoversNewest}
use Rattle.mounting.proofs.Covering.{IsWithin, objects_within}
use Rattle.mounting.proofs.Shown.{committed_low, committed_newest}

-- the laws that are used of a tree that is shown
pub record ShownLaws : Type 0 where
  pub sizes : (d : Device) (m : PageMap) (spare : ℕ) → IsVolume d.geometry (has m) spare → IsSizes (sizes_of d.geometry spare)
  pub forest : (z : Sizes) (m : PageMap) (objects : Objects) → Shows z (has m) objects → IsForest z objects
  pub settled : (z : Sizes) (m : PageMap) (objects : Objects) → Shows z (has m) objects → settled objects ≡ objects
  pub names : (z : Sizes) (m : PageMap) (tree : Tree) (objects : Objects) (index : NameIndex) → IsSizes z → IsTreeThrough z (has m) tree → Shows z (has m) objects
      → CoversTree index z m tree → CoversObjects index z m objects

-- what the making of a table reports
abbrev pub TableLaw : Sizes → Tree → ObjectTable → Type 0
TableLaw z tree table = (m : PageMap) (objects : Objects) → IsSizes z → IsTreeThrough z (has m) tree → Shows z (has m) objects → fits z objects ≡ true → Reports table objects

module _ (d : Device) (x : Index) (n : Numbers) (spare : ℕ) (p : PagesState) (pages : ArePagesOn d x n spare p) where
  abbrev z : Sizes
  z = sizes_of d.geometry spare

  pub volume_is : volume_of p ≡ z
  volume_is = ap (λ (k : Device). sizes_of k.geometry p.spare) pages.device_is ∙ ap (λ s. sizes_of d.geometry s) pages.spare_is

  pub page_bytes_is : p.page_bytes ≡ p.device.geometry.bytes
  page_bytes_is = pages.page_bytes ∙ sym (ap (λ (k : Device). k.geometry.bytes) pages.device_is)

  pub most_is : p.most ≡ p.device.geometry.pages / 4
  most_is = pages.most ∙ sym (ap (λ (k : Device). k.geometry.pages / 4) pages.device_is)

  worn_reads : IsWorn d n spare → CanOnlyBeRead p
  worn_reads worn =
      let group : p.next.group ≡ n.group + 1 = ap (λ k. k.group) pages.next in
      let seq : p.next.seq ≡ n.seq + 1 = ap (λ k. k.seq) pages.next in
      let bad : bad_on p.device ≡ bad_on d = ap bad_on pages.device_is in
      let spares : p.spare ≡ spare = pages.spare_is in
      elim (cases_lt n.group (2 ^ 62)) [
        | inr many ↦ inr (inl (omega (arith, group, many)))
        | inl within_limit ↦ elim (cases_lt n.seq (2 ^ 62)) [
          | inr many ↦ inr (inr (omega (arith, seq, many)))
          | inl some ↦ let over : spare < bad_on d = worn within_limit some in inl (omega (arith, bad, spares, over))
        ]
      ]

  reads_worn : CanOnlyBeRead p → CanBeWritten d n spare → ⊥
  reads_worn only can =
      let group : p.next.group ≡ n.group + 1 = ap (λ k. k.group) pages.next in
      let seq : p.next.seq ≡ n.seq + 1 = ap (λ k. k.seq) pages.next in
      let bad : bad_on p.device ≡ bad_on d = ap bad_on pages.device_is in
      let spares : p.spare ≡ spare = pages.spare_is in
      let groups_left = can.0.0 in
      let seqs_left = can.0.1 in
      let within_limit = can.1 in
      elim only [
        | inl over ↦ absurd (omega (arith, bad, spares, over, within_limit))
        | inr (inl over) ↦ absurd (omega (arith, group, over, groups_left))
        | inr (inr over) ↦ absurd (omega (arith, seq, over, seqs_left))
      ]

  -- only read exactly where nothing can be written
  pub only_read_where : (r : Bool) → (r ≡ true → IsWorn d n spare) → (r ≡ false → CanBeWritten d n spare) → (r ≡ true) ↔ CanOnlyBeRead p
  only_read_where r worn can = (
    λ is. worn_reads (worn is),
    λ only. elim (cases_Bool r) [
      | inl is ↦ is
      | inr not ↦ absurd (reads_worn only (can not))
    ],
  )

  pub are_next : AreGreatest d.flash n → AreNext p.device.flash p.next
  are_next greatest = (n, subst (λ (k : Device). AreGreatest k.flash n) (sym pages.device_is) greatest, pages.next)

  module _ (laws : ShownLaws) (tree : Tree) (objects : Objects) (honest : d.honest ≡ true) (answers : Answers d.geometry d.flash (IsTreeOf spare objects)) (shown : IsTreeShown d x spare tree objects)
      (table : ObjectTable) (reported : Sizes) (same : reported ≡ z) (law : TableLaw reported tree table) (fit : charge reported objects ≤ capacity reported)
      (names : NameIndex) (covers : CoversNewest names d spare tree) (committed : AreCommitted d.flash (committed_pages x)) (low : (o c : ℕ) (k : CommittedPage) → committed_pages x o c ≡ Some k → c < 2 ^ 32) where
    sizes : IsSizes z
    sizes = laws.sizes d shown.on.pages spare shown.on.through.volume

    fits_reported : fits reported objects ≡ true
    fits_reported = le-leb (charge reported objects) (capacity reported) fit

    can : CanHave (volume_of p) objects
    can = subst (λ (k : Sizes). CanHave k objects) (sym volume_is) (record {
      numbers = sizes;
      forest = laws.forest z shown.on.pages objects shown.shows;
      fit = subst (λ (k : Sizes). fits k objects ≡ true) same fits_reported;
    })

    holds : HoldsObjects (volume_of p) (committed_data x d.flash) objects
    holds = subst (λ (k : Sizes). HoldsObjects k (committed_data x d.flash) objects) (sym volume_is) shown.holds

    settles : settled objects ≡ objects
    settles = laws.settled z shown.on.pages objects shown.shows

    is_shown : Shown (volume_of p) p objects
    is_shown = subst (λ (o : Objects). Shown (volume_of p) p o) settles (committed_shown (volume_of p) p (committed_data x d.flash) objects refl (pages.committed honest) holds can)

    -- what is handed out is what the newest pages have
    within : IsWithin p.present shown.on.pages
    within o c page at =
        let is = sym (pages.present honest o c) ∙ at in
        (shown.on.newest o c page).1 (committed_newest d.flash x committed o c page is, committed_low d.flash x low o c page is)

    named : CoversObjects names (volume_of p) p.present objects
    named = subst (λ (k : Sizes). CoversObjects names k p.present objects) (sym volume_is)
        (objects_within z p.present shown.on.pages names objects within
        (laws.names z shown.on.pages tree objects names sizes shown.on.through.tree_is shown.shows (covers shown.on.pages shown.on.newest)))

    pub mounted_with : IsMountedWith p table names objects
    mounted_with = record {
      answers = subst (λ (k : Device). Answers k.geometry k.flash (IsTreeOf p.spare objects)) (sym pages.device_is)
          (subst (λ s. Answers d.geometry d.flash (IsTreeOf s objects)) (sym pages.spare_is) answers);
      represents = record {
        sound = pages.sound honest;
        sizes = refl;
        page_bytes = page_bytes_is;
        most = most_is;
        holds = same_objects (volume_of p) (committed_data x d.flash) p.present objects holds (pages.present honest);
        shown = (objects, is_shown);
      };
      shown = is_shown;
      can = can;
      settles = settles;
      reports = law shown.on.pages objects (subst (λ (k : Sizes). IsSizes k) (sym same) sizes)
          (subst (λ (k : Sizes). IsTreeThrough k (has shown.on.pages) tree) (sym same) shown.on.through.tree_is)
          (subst (λ (k : Sizes). Shows k (has shown.on.pages) objects) (sym same) shown.shows) fits_reported;
      covers = named;
    }
