-- The hash of a name that a page of a change has in a slot.
use Rattle.std.specs.Prelude.{◌≡◌, ◌≢◌, ◌<◌, ◌≤◌, ℕ, ◌+◌, ◌*◌, ◌/◌, ◌%◌, List, length, take, drop, Option, Some, None, IfSome, IfNone}
use Rattle.std.proofs.Common.{refl, sym, ◌∙◌, ap, subst, inl, inr, arith, length-append, length-take, length-drop}
use Rattle.std.proofs.lemmas.Bool.{cases_lt}
use Rattle.std.proofs.lemmas.List.{length-replicate}
use Rattle.page_tags.specs.Slots.{Entry, IsSlot, slot_bytes}
use Rattle.flash_tree.specs.Slots.{IsTreeSlot}
use Rattle.flash_tree.specs.declared.place.FreshPage.{FreshPage}
use Rattle.name_index.specs.Hashes.{fnv1a}
use Rattle.name_index.specs.Names.{Holds}
use Rattle.name_index.specs.declared.index.NameIndex.{NameIndex}
use Rattle.volume_terms.specs.Sizes.{Sizes, page_slots}
use Rattle.pages.specs.Changes.{AreSized}
use Rattle.pages.specs.Maps.{PageMap, with_pages}
use Rattle.pages.specs.laws.Maps.{first_here}
use Rattle.pages.specs.declared.change.Change.{Change}
use Rattle.directories.specs.Directories.{SlotOf}
use Rattle.directories.specs.Leaving.{IsFirstPage, WritesHash, WritesNoName}
use Rattle.directories.specs.Writes.{HasKey}
use Rattle.directories.specs.laws.Keys.{first_or_none}

-- a slot whose key has a page is in the first one
in_first : (z : Sizes) (pages : List FreshPage) (d slot : ℕ) (page : List ℕ) → IsFirstPage pages d (1 + slot / page_slots z) page → (m : PageMap) (e : Entry) → SlotOf z (with_pages pages m) d slot e
    → take 272 (drop (272 * (slot % page_slots z)) page) ≡ slot_bytes e
in_first z pages d slot page first m e at =
    let c : ℕ = 1 + slot / page_slots z in
    let of = first.1.0 in
    let here : with_pages pages m d c ≡ Some of.page.bytes.items = first_here pages m d c first.0 of.page of.there of.object of.chunk first.1.1 in
    let two : Some of.page.bytes.items ≡ Some at.0 = sym here ∙ at.1 in
    let one : of.page.bytes.items ≡ at.0 = cc in
    ap (λ (xs : List ℕ). take 272 (drop (272 * (slot % page_slots z)) xs)) (first.2 ∙ one) ∙ at.3

-- what the bytes of the slot in that page have, the slot has
module _ (pages : List FreshPage) (d slot page_bytes : ℕ) (page : List ℕ) (first : IsFirstPage pages d (1 + slot / (page_bytes / 272)) page)
    (bytes : List ℕ) (at : bytes ≡ take 272 (drop (272 * (slot % (page_bytes / 272))) page)) where
  bytes_are : (z : Sizes) → z.page_bytes ≡ page_bytes → (m : PageMap) (e : Entry) → SlotOf z (with_pages pages m) d slot e → bytes ≡ slot_bytes e
  bytes_are z size m e s =
      let slots : page_bytes / 272 ≡ page_slots z = ap (λ n. n / 272) (sym size) in
      at ∙ ap (λ n. take 272 (drop (272 * (slot % n)) page)) slots ∙ in_first z pages d slot page (subst (λ n. IsFirstPage pages d (1 + slot / n) page) slots first) m e s

  pub written_by : (result : Option ℕ) → IfSome result (λ hash. (e : Entry) → IsTreeSlot e → bytes ≡ slot_bytes e → fnv1a e.name ≡ hash)
      → IfSome result (λ hash. (z : Sizes) → z.page_bytes ≡ page_bytes → WritesHash z pages d slot hash)
  written_by (Some hash) reported = λ z size m e s. reported e s.2 (bytes_are z size m e s)
  written_by None reported = tt

  pub none_by : (result : Option ℕ) → IfNone result ((e : Entry) → IsTreeSlot e → bytes ≢ slot_bytes e) → IfNone result ((z : Sizes) → z.page_bytes ≡ page_bytes → WritesNoName z pages d slot)
  none_by (Some hash) reported = tt
  none_by None reported = λ z size i of m e s. reported e s.2 (bytes_are z size m e s)

-- a page with less bytes than a slot has none
length_is : (e : Entry) → IsSlot e → length (slot_bytes e) ≡ 272
unfolding slot_bytes
length_is e s = let within_limit = s.name.within_limit in simp (length-append, length-replicate) (omega (arith, within_limit))

no_room : (e : Entry) → IsTreeSlot e → (page : List ℕ) (j : ℕ) → length page < 272 → take 272 (drop j page) ≢ slot_bytes e
no_room e tree page j short same =
    let size : length (take 272 (drop j page)) ≡ 272 = ap length same ∙ length_is e tree.slot in
    let most : length (take 272 (drop j page)) ≤ length page = simp (length-take, length-drop) (omega arith) in
    omega (arith, size, most, short)

pub none_short : (pages : List FreshPage) (d slot page_bytes : ℕ) → AreSized pages page_bytes → page_bytes < 272 → (z : Sizes) → WritesNoName z pages d slot
none_short pages d slot page_bytes sized short z i of m e s = elim (first_or_none pages d (1 + slot / page_slots z)) [
  | inl x ↦
      let page : FreshPage = x.1.0.page in
      let size : length page.bytes.items ≡ page_bytes = sized x.0 page x.1.0.there in
      no_room e s.2 page.bytes.items (272 * (slot % page_slots z)) (omega (arith, size, short)) (in_first z pages d slot page.bytes.items (x.0, x.1, refl) m e s)
  | inr none ↦ absurd (none i of)
]

-- ---- the slots that are held under a hash, one after the other
module _ (z : Sizes) (change : Change) (d hash : ℕ) where
  -- what is reported of one of them
  abbrev pub StaysAt : ℕ → Type 0
  StaysAt s = HasKey change d (1 + s / page_slots z) → WritesHash z change.pages.items d s hash

  pub stays_by : (slot page_bytes : ℕ) (pages : List FreshPage) → pages ≡ change.pages.items → z.page_bytes ≡ page_bytes → (result : Option ℕ)
      → IfSome result (λ h. (y : Sizes) → y.page_bytes ≡ page_bytes → WritesHash y pages d slot h) → IfNone result ((y : Sizes) → y.page_bytes ≡ page_bytes → WritesNoName y pages d slot)
      → IfSome result (λ h. h ≡ hash) → StaysAt slot
  stays_by slot page_bytes pages same size (Some h) written none is = λ key.
      subst (λ (ps : List FreshPage). WritesHash z ps d slot hash) same (subst (λ n. WritesHash z pages d slot n) is (written z size))
  stays_by slot page_bytes pages same size None written none is = λ key m e at.
      let no : WritesNoName z change.pages.items d slot = subst (λ (ps : List FreshPage). WritesNoName z ps d slot) same (none z size) in
      absurd (no key.0 key.1 m e at)

  -- those before it, and the next one
  pub stays_on : (names : NameIndex) (from slot : ℕ) → ((s : ℕ) → s < from → Holds names d hash s → StaysAt s) → ((s : ℕ) → from ≤ s → Holds names d hash s → slot ≤ s) → StaysAt slot
      → (s : ℕ) → s ≤ slot → Holds names d hash s → StaysAt s
  stays_on names from slot before next here s most holds = elim (cases_lt s from) [
    | inl less ↦ before s less holds
    | inr later ↦
        let least : slot ≤ s = next s later holds in
        let same : slot ≡ s = omega (arith, least, most) in
        subst StaysAt same here
  ]

-- a slot that is held has a number of 32 bits
pub held_small : (names : NameIndex) (d hash s : ℕ) → Holds names d hash s → s < 4294967296
held_small names d hash s holds = let is = holds.5 in omega (arith, is)
