-- On a true flash the tree is gone through in what summaries found, and all that it looks up is committed at its newest page.
use Rattle.std.specs.Prelude.{◌≡◌, ◌⊎◌, ◌↔◌, ◌≤◌, ℕ, zero, suc, true, false, List, [], ◌∷◌, Some, None}
use Rattle.std.specs.Option.{option_map}
use Rattle.std.proofs.Common.{refl, sym, ◌∙◌, ap, subst, inl, inr}
use Rattle.std.proofs.lemmas.Bool.{cases_Bool}
use Rattle.nand_model.specs.Calls.{Device}
use Rattle.nand_model.specs.Flash.{Flash, Page, IsWithin}
use Rattle.nand_model.specs.declared.geometry.Geometry.{Geometry}
use Rattle.page_tags.specs.Headers.{Fields, header_bytes}
use Rattle.posix_profile.specs.State.{Object, File, Dir, Objects}
use Rattle.flash_tree.specs.Mount.{IsDamaged, Wrongly, Wholly, GoesThrough, stops, sizes_of, IsVolume}
use Rattle.flash_tree.specs.Newest.{Spot, IsNewest, HasNewest}
use Rattle.flash_tree.specs.Tree.{NewestMap, HasHeader, ReadsAs, Shows, LooksUp, InFootprint, KeepsFootprint}
use Rattle.flash_tree.specs.laws.Finding.{same_header}
use Rattle.flash_tree.specs.laws.Newest.{one_newest}
use Rattle.flash_tree.specs.laws.NewestReported.{newest_or_none}
use Rattle.flash_tree.specs.laws.Shown.{Each, IsThere, ends_well}
use Rattle.flash_tree.specs.laws.Tree.{footprint_law}
use Rattle.chunk_index.specs.Maps.{committed_pages}
use Rattle.chunk_index.specs.declared.index.Index.{Index}
use Rattle.flash_log.specs.Consistency.{IsCommittedAt, AreCommitted}
use Rattle.page_store.specs.FoundTables.{FindsItsTree}
use Rattle.page_store.specs.Opened.{committed_at}
use Rattle.page_store.specs.declared.opening.Opened.{Opened}
use Rattle.paged_objects.specs.laws.Findable.{one_spare}
use Rattle.pages.specs.Maps.{PageMap, has}
use Rattle.tree_walk.specs.Trees.{IsLookedUp, keeps_key, objects_listed}
use Rattle.tree_walk.specs.declared.fault.RootFault.{RootFault}
use Rattle.tree_walk.specs.declared.fault.RootFault.TheVariants as roots
use Rattle.tree_walk.specs.declared.tree.Tree.{Tree}
use Rattle.volume_terms.specs.Sizes.{Sizes, root_number}
use Rattle.mounting.specs.Candidates.{candidate_pages, data_or_zeros, read_at}
use Rattle.mounting.specs.Reads.{EndsMount}
use Rattle.mounting.specs.Tables.{KeepsOnly}
use Rattle.mounting.specs.TreeAnswers.{WhyNoTree}
use Rattle.mounting.specs.Trees.{IsGoneThrough}
use Rattle.mounting.proofs.Entering.{KeysLaw, is_size}
use Rattle.mounting.proofs.Parting.{single}
use Rattle.mounting.proofs.Sure.{nothing_wrong}

-- ---- a key that is looked up to see the flash's tree has a newest page

module _ (g : Geometry) (flash : Flash) (spare : ℕ) (objects : Objects) (shows : Shows (sizes_of g spare) (HasNewest flash) objects) where
  abbrev own_sizes : Sizes
  own_sizes = sizes_of g spare

  abbrev newest_data : NewestMap
  newest_data = HasNewest flash

  at_once : (o : ℕ) → IsThere own_sizes (is_size g spare) newest_data (one_newest flash) objects shows o → Each (IsThere own_sizes (is_size g spare) newest_data (one_newest flash) objects shows) (o ∷ [])
  at_once o there zero c is = let same : o ≡ c = cc in subst (IsThere own_sizes (is_size g spare) newest_data (one_newest flash) objects shows) same there
  at_once o there (suc k) c is = absurd cc

  -- it cannot be that it has none
  not_none : (o c : ℕ) → InFootprint own_sizes newest_data objects o c → ((xs : List ℕ) → newest_data o c xs → ⊥) → ⊥
  not_none o c foot none = go foot.looks where
    f : Fields
    f = foot.fields

    wrong : LooksUp own_sizes f c → GoesThrough own_sizes newest_data (o ∷ []) 0 (Wrongly IsDamaged) → ⊥
    wrong looks on = ends_well own_sizes (is_size g spare) newest_data (one_newest flash) objects shows (o ∷ []) 0 (Wrongly IsDamaged) (at_once o (foot.object, foot.there)) on

    go : LooksUp own_sizes f c → ⊥
    go (inl first) = none (header_bytes f) (subst (λ k. newest_data o k (header_bytes f)) (sym first) foot.has.0)
    go (inr (inl (kind, some, present))) = wrong (inr (inl (kind, some, present))) (stops o IsDamaged refl (inr (inr (refl, (f, foot.has, inl (kind, (c, some, present, none)))))))
    go (inr (inr (kind, (i, lt, chunk)))) =
        wrong (inr (inr (kind, (i, lt, chunk)))) (stops o IsDamaged refl
        (inr (inr (refl, (f, foot.has, inr (kind, inl (i, lt, λ entry slot. none slot.0 (subst (λ k. newest_data o k slot.0) (sym chunk) slot.1))))))))

  pub foot_newest : IsWithin g.pages g.blocks flash → (o c : ℕ) → InFootprint own_sizes newest_data objects o c → (s : Spot) × IsNewest flash o c s
  foot_newest within o c foot = elim (newest_or_none flash o c g.pages g.blocks within) [
    | inl found ↦ found
    | inr nobody ↦ absurd (not_none o c foot (λ xs newest. nobody newest.spot newest.newest.holds))
  ]

-- ---- what summaries found shows it

-- what the keys are that a tree looks up
abbrev pub FootLaw : Type 0
FootLaw = (z : Sizes) (m : PageMap) (objects : Objects) (list : List ℕ) → 32 ≤ z.page_bytes → z.page_bytes ≤ 4096 → Shows z (has m) objects
    → GoesThrough z (has m) (root_number ∷ []) 0 (Wholly list) → (o c : ℕ) → IsLookedUp z (has m) list o c ↔ InFootprint z (has m) objects o c

module _ (d : Device) (opened : Opened) (k : FindsItsTree d opened) where
  abbrev z : Sizes
  z = sizes_of d.geometry k.spare

  abbrev m : PageMap
  m = candidate_pages opened.index d

  held : KeepsFootprint z (HasNewest d.flash) (has m) k.objects
  held o c bytes foot newest =
      ap (option_map (read_at d.geometry.bytes d.flash)) (k.all o c newest.spot foot newest.newest) ∙ ap (λ (p : Page). Some (data_or_zeros d.geometry.bytes p)) newest.stored

  shows : Shows z (has m) k.objects
  shows = footprint_law z (HasNewest d.flash) (has m) k.objects held k.shows

  root_looked : InFootprint z (HasNewest d.flash) k.objects root_number 0
  root_looked = let r = k.shows.tree.forest.root in record { object = Dir r.0 r.1; there = r.2; fields = k.volume.fields; has = k.volume.has; looks = inl refl }

  volume : IsVolume d.geometry (has m) k.spare
  volume = record {
    fields = k.volume.fields;
    has = (held root_number 0 _ root_looked k.volume.has.0, k.volume.has.1);
    kind = k.volume.kind;
    spare_is = k.volume.spare_is;
    room = k.volume.room;
  }

  -- so no scan follows where it is not gone through
  pub ends_found : (new : Device) (fault : RootFault) → WhyNoTree d.geometry (has m) fault → (fault ≡ roots.Device → (new.gone ≡ true) ⊎ (d.honest ≡ false)) → d.honest ≡ true → EndsMount new fault
  ends_found new fault reported why honest = elim (nothing_wrong d.geometry m k.spare k.objects volume shows fault reported) [
    | inl memory ↦ inl memory
    | inr device ↦ elim (why device) [
      | inl gone ↦ inr gone
      | inr lies ↦ let two : true ≡ false = sym honest ∙ lies in absurd cc
    ]
  ]

  header_of : (o : ℕ) (x : Object) → ReadsAs z (HasNewest d.flash) o x → (f : Fields) × HasHeader z (HasNewest d.flash) o f
  header_of o (File moment bytes) r = (r.fields, r.has)
  header_of o (Dir moment entries) r = (r.fields, r.has)

  -- what is looked up in them is looked up in the newest pages
  foot_back : (o c : ℕ) → InFootprint z (has m) k.objects o c → InFootprint z (HasNewest d.flash) k.objects o c
  foot_back o c foot =
      let own = header_of o foot.object (k.shows.each o foot.object foot.there) in
      let was : HasHeader z (has m) o own.0 = (held o 0 _ (record { object = foot.object; there = foot.there; fields = own.0; has = own.1; looks = inl refl }) own.1.0, own.1.1) in
      let same : own.0 ≡ foot.fields = same_header z (is_size d.geometry k.spare) (has m) (single m) o own.0 foot.fields was foot.has in
      record { object = foot.object; there = foot.there; fields = foot.fields; has = subst (HasHeader z (HasNewest d.flash) o) same own.1; looks = foot.looks }

  -- the place of a newest page is one where it is committed
  committed_so : (o c : ℕ) (s : Spot) → IsNewest d.flash o c s → IsCommittedAt d.flash o c (committed_at s)
  committed_so o c s newest = record { tag = s.tag; newest = newest; version = refl }

  -- and so all that is committed of the tree that was gone through is newest
  pub committed_of_tree : KeysLaw → FootLaw → IsWithin d.geometry.pages d.geometry.blocks d.flash → (y : Index) (spare : ℕ) (tree : Tree) → KeepsOnly (keeps_key tree) opened.index y
      → IsGoneThrough d.geometry (has m) spare tree → AreCommitted d.flash (committed_pages y)
  committed_of_tree keys feet within y spare tree only gone o c p is = elim (cases_Bool (keeps_key tree o c)) [
    | inr goes ↦ absurd (let two : None ≡ Some p = sym (only.none o c goes) ∙ is in cc)
    | inl stays ↦
        let one : spare ≡ k.spare = one_spare d.geometry (has m) (single m) spare k.spare gone.volume volume in
        let size = is_size d.geometry k.spare in
        let own : IsGoneThrough d.geometry (has m) k.spare tree = subst (λ s. IsGoneThrough d.geometry (has m) s tree) one gone in
        let looked = (keys z m tree (sym own.size) own.tree_is.heads o c).0 stays in
        let foot = foot_back o c ((feet z m k.objects (objects_listed tree) size.least size.most shows own.tree_is.through o c).0 looked) in
        let newest = foot_newest d.geometry d.flash k.spare k.objects k.shows within o c foot in
        let two : Some (committed_at newest.0) ≡ Some p = sym (k.all o c newest.0 foot newest.1) ∙ sym (only.same o c stays) ∙ is in
        let place : committed_at newest.0 ≡ p = cc in
        subst (IsCommittedAt d.flash o c) place (committed_so o c newest.0 newest.1)
  ]
