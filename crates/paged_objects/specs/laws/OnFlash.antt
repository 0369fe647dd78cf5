-- The tree that is shown is on the flash of an honest device.
use Rattle.std.specs.Prelude.{◌≡◌, ◌<◌, ◌≤◌, ◌+◌, ◌-◌, ◌*◌, ◌/◌, ℕ, true, List, length, Some}
use Rattle.std.proofs.Common.{sym, ◌∙◌, ap, subst, inl, inr, arith}
use Rattle.std.proofs.Math.Nat.{mul-div_cancel}
use Rattle.std.proofs.lemmas.Bool.{cases_lt, true≢false, leb-true}
use Rattle.std.specs.Cmp.{nat_cmp_total}
use Rattle.std.specs.FinMap as map
use Rattle.nand_model.specs.Flash.{Flash}
use Rattle.nand_model.specs.declared.geometry.Geometry.{Geometry}
use Rattle.page_tags.specs.Headers.{Fields, IsHeader, MayBeSet, header_bytes, is_present}
use Rattle.page_tags.specs.laws.Header.{same_fields}
use Rattle.page_tags.specs.declared.header.ObjectKind.{ObjectKind}
use Rattle.page_tags.specs.declared.header.ObjectKind.TheVariants as kinds
use Rattle.volume_terms.specs.Sizes.{Sizes, IsSizes, page_slots}
use Rattle.volume_terms.specs.Rounding.{ceiling}
use Rattle.volume_terms.specs.laws.List.{slice_get_there}
use Rattle.posix_profile.specs.State.{Entries, Object, File, Dir, Objects}
use Rattle.posix_profile.specs.laws.Charge.{settle_fits}
use Rattle.posix_profile.specs.laws.Map.{retain_cases}
use Rattle.posix_profile.specs.laws.Write.{ceiling_at_most}
use Rattle.object_store.specs.Stores.{settled}
use Rattle.flash_tree.specs.FreeBlocks.{LeavesFree}
use Rattle.flash_tree.specs.Newest.{HasNewest}
use Rattle.flash_tree.specs.Tree.{ReadsFile, ReadsDir, LooksUp, InFootprint, Shows}
use Rattle.flash_tree.specs.Mount.{sizes_of, bad_blocks, IsVolume, HasFree, HasRoom}
use Rattle.flash_tree.specs.Sound.{IsSoundFlash}
use Rattle.flash_tree.specs.laws.Free.{free_of_picked}
use Rattle.flash_tree.specs.laws.Newest.{one_newest}
use Rattle.flash_tree.specs.laws.Tree.{footprint_law}
use Rattle.pages.specs.Maps.{PageMap, has}
use Rattle.pages.specs.State.{PagesState}
use Rattle.pages.specs.Stores.{Carries, HasPage, HasNumbersLeft, bad_on}
use Rattle.paged_objects.specs.Holding.{HoldsObject, HoldsObjects}
use Rattle.object_store.specs.Stores.{CanHave}
use Rattle.paged_objects.specs.laws.Holding.{held}
use Rattle.paged_objects.specs.laws.Settled.{shows_settled, holds_volume}
use Rattle.paged_objects.specs.Representing.{volume_of, Shown}

page_bounds : (z : Sizes) → IsSizes z → (0 < z.page_bytes) × (z.page_bytes ≤ 4096)
page_bounds z numbers = elim numbers.page_bytes [
  | inl a ↦ (omega (arith, a), omega (arith, a))
  | inr rest ↦ elim rest [
    | inl b ↦ (omega (arith, b), omega (arith, b))
    | inr more ↦ elim more [
      | inl c ↦ (omega (arith, c), omega (arith, c))
      | inr d ↦ (omega (arith, d), omega (arith, d))
    ]
  ]
]

module _ (z : Sizes) (m : PageMap) (numbers : IsSizes z) where
  -- each chunk that a file's header names has a page
  file_page : (o moment : ℕ) (bytes : List ℕ) (reads : ReadsFile z (has m) o moment bytes) (c : ℕ) → 1 ≤ c → is_present reads.fields.bits c ≡ true → HasPage m o c
  file_page o moment bytes reads c low is =
      let d : ℕ = z.page_bytes in
      let some : 0 < z.page_bytes = (page_bounds z numbers).0 in
      let within : c ≤ ceiling reads.fields.length z.page_bytes = subst (λ (k : ObjectKind). MayBeSet z.page_bytes k reads.fields.length c) reads.kind (reads.has.1.within c low is) in
      let less : (c - 1) * z.page_bytes < length bytes = elim (cases_lt ((c - 1) * z.page_bytes) (length bytes)) [
        | inl lt ↦ lt
        | inr more ↦
            let size : reads.fields.length ≡ length bytes = reads.size in
            let fewer : ceiling reads.fields.length z.page_bytes ≤ c - 1 = (ceiling_at_most reads.fields.length z.page_bytes (c - 1) some).1 (omega (arith, more, size)) in
            absurd (omega (arith, within, low, fewer))
      ] in
      let place : (c - 1) * z.page_bytes / z.page_bytes ≡ c - 1 = mul-div_cancel (c - 1) some in
      let at : 1 + (c - 1) * z.page_bytes / z.page_bytes ≡ c = omega (arith, place, low) in
      elim (reads.each ((c - 1) * z.page_bytes) less) [
        | inl there ↦ subst (HasPage m o) at (there.1.0, there.1.1)
        | inr hole ↦ absurd (true≢false (sym is ∙ ap (is_present reads.fields.bits) (sym at) ∙ hole.0))
      ]

  -- and each chunk of a directory's slots
  slot_page : (o moment : ℕ) (entries : Entries) (reads : ReadsDir z (has m) o moment entries) (i : ℕ) → i < reads.fields.length → HasPage m o (1 + i / page_slots z)
  slot_page o moment entries reads i lt =
      let size : reads.fields.length ≡ length reads.slots = reads.size in
      let entry = slice_get_there reads.slots i (omega (arith, lt, size)) in
      let slot = reads.each i entry.0 entry.1 in
      (slot.0, slot.1)

  -- what is looked up of an object has pages
  file_looked : (o moment : ℕ) (bytes : List ℕ) (reads : ReadsFile z (has m) o moment bytes) (c : ℕ) → LooksUp z reads.fields c → HasPage m o c
  file_looked o moment bytes reads c (inl first) = (header_bytes reads.fields, ap (m o) first ∙ reads.has.0)
  file_looked o moment bytes reads c (inr (inl chunk)) = file_page o moment bytes reads c chunk.1 chunk.2
  file_looked o moment bytes reads c (inr (inr slot)) = let two : kinds.Directory ≡ kinds.File = sym slot.0 ∙ reads.kind in absurd cc

  directory_looked : (o moment : ℕ) (entries : Entries) (reads : ReadsDir z (has m) o moment entries) (c : ℕ) → LooksUp z reads.fields c → HasPage m o c
  directory_looked o moment entries reads c (inl first) = (header_bytes reads.fields, ap (m o) first ∙ reads.has.0)
  directory_looked o moment entries reads c (inr (inl chunk)) = let two : kinds.File ≡ kinds.Directory = sym chunk.0 ∙ reads.kind in absurd cc
  directory_looked o moment entries reads c (inr (inr slot)) = subst (HasPage m o) (sym slot.1.2) (slot_page o moment entries reads slot.1.0 slot.1.1)

  -- a header on the flash is the one that its page in the map says
  one_header : (flash : Flash) → Carries flash m → (o : ℕ) (f g : Fields) → m o 0 ≡ Some (header_bytes f) → IsHeader z.page_bytes f → HasNewest flash o 0 (header_bytes g) → IsHeader z.page_bytes g → g ≡ f
  one_header flash carries o f g is valid newest right =
      same_fields z.page_bytes g f (page_bounds z numbers).1 right valid (one_newest flash o 0 (header_bytes g) (header_bytes f) newest (carries o 0 (header_bytes f) is))

  object_looked : (flash : Flash) → Carries flash m → (o : ℕ) (x : Object) → HoldsObject z m o (Some x) → (f : Fields) → HasNewest flash o 0 (header_bytes f) → IsHeader z.page_bytes f → (c : ℕ) → LooksUp z f c → HasPage m o c
  object_looked flash carries o (File moment bytes) holds f newest valid c looks =
      file_looked o moment bytes holds.reads c
      (subst (λ (g : Fields). LooksUp z g c) (one_header flash carries o holds.reads.fields f holds.reads.has.0 holds.reads.has.1 newest valid) looks)
  object_looked flash carries o (Dir moment entries) holds f newest valid c looks =
      directory_looked o moment entries holds.reads c
      (subst (λ (g : Fields). LooksUp z g c) (one_header flash carries o holds.reads.fields f holds.reads.has.0 holds.reads.has.1 newest valid) looks)

  -- each key that the settled objects look up has a page
  pub footprint_pages : (flash : Flash) → Carries flash m → (objects : Objects) → HoldsObjects z m objects → (o c : ℕ) → InFootprint z (HasNewest flash) (settled objects) o c → HasPage m o c
  footprint_pages flash carries objects holds o c foot =
      object_looked flash carries o foot.object
      (held z m objects holds o (Some foot.object) (retain_cases nat_cmp_total map.nat_cmp-IsAntisymmetric objects _ o foot.object foot.there).1)
      foot.fields foot.has.0 foot.has.1 c foot.looks

module _ (g : Geometry) (flash : Flash) (spare : ℕ) (m : PageMap) (objects : Objects) (holds : HoldsObjects (sizes_of g spare) m objects) (can : CanHave (sizes_of g spare) objects) (carries : Carries flash m) where
  volume_there : IsVolume g (HasNewest flash) spare
  volume_there =
      let volume = holds_volume g spare m objects holds can.forest can.numbers.spare_blocks in
      record {
        fields = volume.fields;
        has = (carries 1 0 (header_bytes volume.fields) volume.has.0, volume.has.1);
        kind = volume.kind;
        spare_is = volume.spare_is;
        room = volume.room;
      }

  tree_there : Shows (sizes_of g spare) (HasNewest flash) (settled objects)
  tree_there = footprint_law (sizes_of g spare) (has m) (HasNewest flash) (settled objects) (λ o c bytes foot is. carries o c bytes is) (shows_settled (sizes_of g spare) m objects holds can.forest)

  module _ (leaves : LeavesFree g flash spare (HasPage m)) where
    free_there : bad_blocks g flash ≤ spare → HasFree g flash (sizes_of g spare) (settled objects) (1 + spare - bad_blocks g flash)
    free_there within_limit =
        free_of_picked g flash (sizes_of g spare) (settled objects) leaves.free (1 + spare - bad_blocks g flash)
        (λ b within picked.
        let free = leaves.each b within picked in
        record {
          within = within;
          good = free.good;
          apart = λ o c s foot newest. free.apart o c s (footprint_pages (sizes_of g spare) m can.numbers flash carries objects holds o c foot) newest;
        })
        (omega (arith, leaves.sufficient, within_limit))

    room_there : HasRoom g flash spare (settled objects)
    room_there = record {
      fits = leb-true _ _ (settle_fits (sizes_of g spare) (record { objects = objects; handles = map.empty }) can.fit);
      free = free_there;
    }

-- A mount finds the tree that is shown sound on an honest device, as long as numbers are left and no more blocks are bad than are to spare.
pub shown_sound : (z : Sizes) (p : PagesState) (tree : Objects) → Shown z p tree → p.device.honest ≡ true → HasNumbersLeft p.device.flash → bad_on p.device ≤ p.spare
    → IsSoundFlash p.device.geometry p.device.flash p.spare tree
shown_sound z p tree shown honest left within_limit =
    let y : Sizes = volume_of p in
    let holds = subst (λ (k : Sizes). HoldsObjects k shown.pages shown.objects) (sym shown.sizes) shown.holds in
    let can = subst (λ (k : Sizes). CanHave k shown.objects) (sym shown.sizes) shown.can in
    let carried = shown.carried honest in
    let leaves = carried.free left in
    subst (λ (t : Objects). IsSoundFlash p.device.geometry p.device.flash p.spare t) (sym shown.settles) (record {
      volume = volume_there p.device.geometry p.device.flash p.spare shown.pages shown.objects holds can carried.newest;
      shows = tree_there p.device.geometry p.device.flash p.spare shown.pages shown.objects holds can carried.newest;
      room = room_there p.device.geometry p.device.flash p.spare shown.pages shown.objects holds can carried.newest leaves;
      few_bad = within_limit;
      numbers = left;
    })

-- An honest device is a volume, and shows the tree that is shown.
pub shown_there : (z : Sizes) (p : PagesState) (tree : Objects) → Shown z p tree → p.device.honest ≡ true → IsVolume p.device.geometry (HasNewest p.device.flash) p.spare × Shows (volume_of p) (HasNewest p.device.flash) tree
shown_there z p tree shown honest =
    let holds = subst (λ (k : Sizes). HoldsObjects k shown.pages shown.objects) (sym shown.sizes) shown.holds in
    let can = subst (λ (k : Sizes). CanHave k shown.objects) (sym shown.sizes) shown.can in
    let newest = (shown.carried honest).newest in (
      volume_there p.device.geometry p.device.flash p.spare shown.pages shown.objects holds can newest,
      subst (λ (t : Objects). Shows (volume_of p) (HasNewest p.device.flash) t) (sym shown.settles) (tree_there p.device.geometry p.device.flash p.spare shown.pages shown.objects holds can newest),
    )
