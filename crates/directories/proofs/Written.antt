-- What the pages of a change say of a directory's slots.
use Rattle.std.specs.Prelude.{◌≡◌, ◌≢◌, ◌⊎◌, ◌<◌, ◌≤◌, ℕ, zero, suc, ◌+◌, ◌-◌, ◌*◌, ◌/◌, ◌%◌, min, List, [], ◌∷◌, ◌++◌, length, take, drop, replicate, Option, Some, None, IfSome, slice_get}
use Rattle.std.specs.Int.{div_ceil}
use Rattle.std.proofs.Common.{refl, sym, ◌∙◌, ap, subst, inl, inr, get_or, arith}
use Rattle.std.proofs.Math.Nat.{div-add-mod', mul-le-mul_right}
use Rattle.std.proofs.lemmas.Bool.{cases_lt, cond-false}
use Rattle.std.proofs.lemmas.Nat.{div-mul-add}
use Rattle.std.proofs.lemmas.List.{length-take, get_or-append_right, take-append-le, drop-take, take-take}
use Rattle.page_tags.specs.SlotEntry.{entry_of}
use Rattle.page_tags.specs.Slots.{Entry, slot_bytes}
use Rattle.flash_tree.specs.Slots.{IsTreeSlot}
use Rattle.volume_terms.specs.Sizes.{Sizes, page_slots}
use Rattle.volume_terms.specs.laws.List.{zero_at}
use Rattle.pages.specs.Maps.{PageMap, IsPageOf, IsCut, after_change, takes, with_pages, without_cuts}
use Rattle.pages.specs.laws.Maps.{here, elsewhere, cut_cases, cut_here}
use Rattle.pages.specs.laws.Changes.{pages_same}
use Rattle.pages.specs.Changes.{AreApart, AreSized, IsChange, IsOnlyOf}
use Rattle.flash_tree.specs.declared.place.FreshPage.{FreshPage}
use Rattle.pages.specs.declared.change.Change.{Change}
use Rattle.pages.specs.declared.change.Cut.{Cut}
use Rattle.directories.specs.Directories.{HasBeside, HasOnly, SlotOf}
use Rattle.directories.specs.HeadPages.{IsHeadPage}
use Rattle.directories.specs.Moving.{IsMovedTo, MovesSlot}
use Rattle.directories.specs.Slots.{AreSlots, SlotAt}
use Rattle.directories.specs.Stores.{ObjectIn}
use Rattle.directories.specs.Writes.{AreOnOne, CanFollow, EndsWithin, IsAt, IsNotAt, IsNotWritten, IsOnOther, IsWritten, KeepsBehind, IsSlotsPage, IsSlotPage, IsSlotBytes, HasHead, HasKey, EndsInZeros, LosesSlot, CutsBehind, OnlyWrites, StaysThere, WritesHead, WritesIn, WritesPages}
use Rattle.directories.specs.declared.head.DirectoryHead.{DirectoryHead}
use Rattle.directories.specs.declared.lookup.Located.{Located}
use Rattle.directories.specs.declared.moving.Moving.{Moving}
use Rattle.directories.specs.declared.writing.Writing.{Writing}
use Rattle.directories.specs.declared.writing.Written.{Written}
use Rattle.directories.specs.laws.Keys.{first_or_none}
use Rattle.directories.proofs.PageCounts.{one_more_page}
use Rattle.directories.proofs.Searching.{one_page}

-- ---- pages of a change

-- nothing is cut
no_cut : (cuts : List Cut) → cuts ≡ [] → (o c k : ℕ) → IsCut cuts o c k → ⊥
no_cut cuts none o c k is = let no' : None ≡ Some is.cut = ap (λ (xs : List Cut). slice_get xs k) (sym none) ∙ is.there in absurd cc

-- the page of a key of a change
pub page_at : (change : Change) (m : PageMap) → AreApart change.pages.items → (o c i : ℕ) (of : IsPageOf change.pages.items o c i) → after_change change m o c ≡ Some of.page.bytes.items
page_at change m apart o c i of = subst (λ k. after_change change m k c ≡ Some of.page.bytes.items) of.object
    (subst (λ k. after_change change m of.page.key.object k ≡ Some of.page.bytes.items) of.chunk (here change m apart i of.page of.there))

-- no page, and one more, whose key none has
apart_none : AreApart []
apart_none o c i j a b = let no' : None ≡ Some a.page = a.there in absurd cc

apart_more : (p : FreshPage) (ps : List FreshPage) → AreApart ps → ((i : ℕ) (q : FreshPage) → slice_get ps i ≡ Some q → q.key.chunk ≢ p.key.chunk) → AreApart (p ∷ ps)
apart_more p ps apart none o c zero zero a b = refl
apart_more p ps apart none o c zero (suc j) a b =
    let at : Some p ≡ Some a.page = a.there in
    let one : p ≡ a.page = cc in
    absurd (none j b.page b.there (b.chunk ∙ sym a.chunk ∙ ap (λ (x : FreshPage). x.key.chunk) (sym one)))
apart_more p ps apart none o c (suc i) zero a b =
    let at : Some p ≡ Some b.page = b.there in
    let one : p ≡ b.page = cc in
    absurd (none i a.page a.there (a.chunk ∙ sym b.chunk ∙ ap (λ (x : FreshPage). x.key.chunk) (sym one)))
apart_more p ps apart none o c (suc i) (suc j) a b =
    ap suc (apart o c i j (record { page = a.page; there = a.there; object = a.object; chunk = a.chunk }) (record { page = b.page; there = b.there; object = b.object; chunk = b.chunk }))

-- the pages of a list of one, of two and of three
get_one : (x : FreshPage) (i : ℕ) (p : FreshPage) → slice_get (x ∷ []) i ≡ Some p → x ≡ p
get_one x zero p is = cc
get_one x (suc i) p is = let no' : None ≡ Some p = is in absurd cc

get_two : (x y : FreshPage) (i : ℕ) (p : FreshPage) → slice_get (x ∷ y ∷ []) i ≡ Some p → (x ≡ p) ⊎ (y ≡ p)
get_two x y zero p is = inl cc
get_two x y (suc i) p is = inr (get_one y i p is)

get_three : (x y v : FreshPage) (i : ℕ) (p : FreshPage) → slice_get (x ∷ y ∷ v ∷ []) i ≡ Some p → (x ≡ p) ⊎ ((y ≡ p) ⊎ (v ≡ p))
get_three x y v zero p is = inl cc
get_three x y v (suc i) p is = inr (get_two y v i p is)

chunk_same : (x p : FreshPage) (n : ℕ) → x ≡ p → x.key.chunk ≢ n → p.key.chunk ≢ n
chunk_same x p n same other is = other (ap (λ (q : FreshPage). q.key.chunk) same ∙ is)

one_apart : (x : FreshPage) → AreApart (x ∷ [])
one_apart x = apart_more x [] apart_none (λ i q at. let no' : None ≡ Some q = at in absurd cc)

two_apart : (x y : FreshPage) → y.key.chunk ≢ x.key.chunk → AreApart (x ∷ y ∷ [])
two_apart x y other = apart_more x (y ∷ []) (one_apart y) (λ i q at. chunk_same y q x.key.chunk (get_one y i q at) other)

three_apart : (x y v : FreshPage) → y.key.chunk ≢ x.key.chunk → v.key.chunk ≢ x.key.chunk → v.key.chunk ≢ y.key.chunk → AreApart (x ∷ y ∷ v ∷ [])
three_apart x y v second third last = apart_more x (y ∷ v ∷ []) (two_apart y v last) (λ i q at. elim (get_two y v i q at) [
  | inl same ↦ chunk_same y q x.key.chunk same second
  | inr same ↦ chunk_same v q x.key.chunk same third
])

-- ---- what a change of a directory's header and slots writes

module _ (d bytes : ℕ) (head : DirectoryHead) (change : Change) (cuts : change.cuts.items ≡ []) where
  only_writes : (most : ℕ) → AreApart change.pages.items → length change.pages.items ≤ most
      → ((i : ℕ) (p : FreshPage) → slice_get change.pages.items i ≡ Some p → IsHeadPage p bytes d head ⊎ ((n : ℕ) × IsSlotsPage d bytes n p)) → OnlyWrites d bytes most change
  only_writes most apart small each = record {
    few = record {
      apart = apart;
      size = λ i p at. elim (each i p at) [
        | inl h ↦ h.head_is.size
        | inr s ↦ s.1.size
      ];
      within_limit = small;
    };
    only = record {
      pages = λ o c i of. elim (each i of.page of.there) [
        | inl h ↦ sym of.object ∙ h.object_is
        | inr s ↦ sym of.object ∙ s.1.object_is
      ];
      cuts = λ o c i is. absurd (no_cut change.cuts.items cuts o c i is);
    };
    uncut = cuts;
  }

  -- the header alone, one page of slots with it, and two
  module _ (header : FreshPage) (head_is : IsHeadPage header bytes d head) where
    pub one_only : (most : ℕ) → 1 ≤ most → change.pages.items ≡ header ∷ [] → OnlyWrites d bytes most change
    one_only most few pages = only_writes most (subst AreApart (sym pages) (one_apart header)) (omega (arith, ap length pages, few)) (λ i p at.
        inl (subst (λ (q : FreshPage). IsHeadPage q bytes d head) (get_one header i p (ap (λ (ps : List FreshPage). slice_get ps i) (sym pages) ∙ at)) head_is))

    module _ (number : ℕ) (first : FreshPage) (first_is : IsSlotsPage d bytes number first) where
      first_apart : header.key.chunk ≢ first.key.chunk
      first_apart = λ same. omega (arith, same, head_is.chunk_is, first_is.chunk_is)

      pub pair_apart : change.pages.items ≡ first ∷ header ∷ [] → AreApart change.pages.items
      pair_apart pages = subst AreApart (sym pages) (two_apart first header first_apart)

      module _ (other : ℕ) (second : FreshPage) (second_is : IsSlotsPage d bytes other second) (apart : other / (bytes / 272) ≢ number / (bytes / 272)) where
        pub triple_apart : change.pages.items ≡ first ∷ header ∷ second ∷ [] → AreApart change.pages.items
        triple_apart pages =
            let behind : second.key.chunk ≢ first.key.chunk = λ same. apart (omega (arith, same, first_is.chunk_is, second_is.chunk_is)) in
            let last : second.key.chunk ≢ header.key.chunk = λ same. omega (arith, same, head_is.chunk_is, second_is.chunk_is) in
            subst AreApart (sym pages) (three_apart first header second first_apart behind last)

-- the header's page is there
has_header : (z : Sizes) (change : Change) (m : PageMap) (d : ℕ) (head : DirectoryHead) → AreApart change.pages.items → (i : ℕ) (of : IsPageOf change.pages.items d 0 i) → IsHeadPage of.page z.page_bytes d head
    → HasHead z (after_change change m) d head
has_header z change m d head apart i of is = record {
  has = page_at change m apart d 0 i of ∙ ap Some is.head_is.encodes;
  valid = is.head_is.valid;
}

-- each page is that of the header, or one of a slot that is written
abbrev pub IsPart : ObjectIn → Writing → DirectoryHead → FreshPage → Type 0
IsPart it writing head p = IsHeadPage p it.sizes.page_bytes it.object head ⊎ ((k : ℕ) × (e : Entry) × IsWritten writing k e × IsSlotPage it writing (k / page_slots it.sizes) p)

module _ (it : ObjectIn) (writing : Writing) (head : DirectoryHead) (change : Change) (cuts : change.cuts.items ≡ []) (apart : AreApart change.pages.items)
    (each : (i : ℕ) (p : FreshPage) → slice_get change.pages.items i ≡ Some p → IsPart it writing head p)
    (at_head : HasKey change it.object 0) (keys : (k : ℕ) (e : Entry) → IsWritten writing k e → HasKey change it.object (1 + k / page_slots it.sizes)) where
  chunk_page : (c i : ℕ) (of : IsPageOf change.pages.items it.object (1 + c) i) → (k : ℕ) × (e : Entry) × IsWritten writing k e × IsSlotPage it writing c of.page × (k / page_slots it.sizes ≡ c)
  chunk_page c i of = elim (each i of.page of.there) [
    | inl h ↦ absurd (omega (arith, h.chunk_is, of.chunk))
    | inr s ↦
        let same : s.0 / page_slots it.sizes ≡ c = omega (arith, s.3.chunk_is, of.chunk) in
        (s.0, s.1, s.2, subst (λ j. IsSlotPage it writing j of.page) same s.3, same)
  ]

  header_is : HasHead it.sizes (after_change change it.pages) it.object head
  header_is = elim (each at_head.0 at_head.1.page at_head.1.there) [
    | inl h ↦ has_header it.sizes change it.pages it.object head apart at_head.0 at_head.1 h
    | inr s ↦ absurd (omega (arith, s.3.chunk_is, at_head.1.chunk))
  ]

  written_is : (k : ℕ) (e : Entry) → IsWritten writing k e → SlotOf it.sizes (after_change change it.pages) it.object k e
  written_is k e w =
      let key = keys k e w in
      let s = chunk_page (k / page_slots it.sizes) key.0 key.1 in
      let at = s.3.written k e w refl in
      (key.1.page.bytes.items, page_at change it.pages apart it.object (1 + k / page_slots it.sizes) key.0 key.1, at.0, at.1)

  others_are : (k : ℕ) (e : Entry) → StaysThere writing k → SlotOf it.sizes it.pages it.object k e → SlotOf it.sizes (after_change change it.pages) it.object k e
  others_are k e stays is = elim (first_or_none change.pages.items it.object (1 + k / page_slots it.sizes)) [
    | inl x ↦
        let of = x.1.0 in
        let s = chunk_page (k / page_slots it.sizes) x.0 of in
        let at = s.3.committed k e stays refl is in
        (of.page.bytes.items, page_at change it.pages apart it.object (1 + k / page_slots it.sizes) x.0 of, at.0, at.1)
    | inr none ↦ (
      is.0,
      elsewhere change it.pages it.object (1 + k / page_slots it.sizes) none (no_cut change.cuts.items cuts it.object (1 + k / page_slots it.sizes)) ∙ is.1,
      is.2,
      is.3,
    )
  ]

  pub made_in : WritesIn it writing head change
  made_in = record {
    header = header_is;
    written = written_is;
    others = others_are;
    zeros = λ c i of j le. (chunk_page c i of).3.past j le;
  }

  pub made_pages : WritesPages it writing change
  made_pages = record {
    keys = keys;
    others = λ m c some other. elsewhere change m it.object c (λ i of. elim (each i of.page of.there) [
      | inl h ↦ omega (arith, h.chunk_is, of.chunk, some)
      | inr s ↦ other s.0 s.1 s.2 (sym of.chunk ∙ s.3.chunk_is)
    ]) (no_cut change.cuts.items cuts it.object c);
  }

-- one page of slots with the header
module _ (it : ObjectIn) (writing : Writing) (head : DirectoryHead) (change : Change) (cuts : change.cuts.items ≡ []) (apart : AreApart change.pages.items)
    (header : FreshPage) (head_is : IsHeadPage header it.sizes.page_bytes it.object head) (first : FreshPage) (first_is : IsSlotPage it writing (writing.first.number / page_slots it.sizes) first) where
  first_part : (p : FreshPage) → first ≡ p → IsPart it writing head p
  first_part p same = inr (writing.first.number, entry_of writing.first.slot, inl (refl, refl), subst (IsSlotPage it writing (writing.first.number / page_slots it.sizes)) same first_is)

  header_part : (p : FreshPage) → header ≡ p → IsPart it writing head p
  header_part p same = inl (subst (λ (q : FreshPage). IsHeadPage q it.sizes.page_bytes it.object head) same head_is)

  at_first : (ps : List FreshPage) → change.pages.items ≡ first ∷ ps → (c : ℕ) → c ≡ writing.first.number / page_slots it.sizes → HasKey change it.object (1 + c)
  at_first ps pages c same = (0, record { page = first; there = ap (λ (qs : List FreshPage). slice_get qs 0) pages; object = first_is.object_is; chunk = first_is.chunk_is ∙ ap (λ k. 1 + k) (sym same) })

  at_header : (ps : List FreshPage) → change.pages.items ≡ first ∷ header ∷ ps → HasKey change it.object 0
  at_header ps pages = (1, record { page = header; there = ap (λ (qs : List FreshPage). slice_get qs 1) pages; object = head_is.object_is; chunk = head_is.chunk_is })

  module _ (pages : change.pages.items ≡ first ∷ header ∷ []) (on_one : AreOnOne (page_slots it.sizes) writing) where
    pair_each : (i : ℕ) (p : FreshPage) → slice_get change.pages.items i ≡ Some p → IsPart it writing head p
    pair_each i p at = elim (get_two first header i p (ap (λ (ps : List FreshPage). slice_get ps i) (sym pages) ∙ at)) [
      | inl same ↦ first_part p same
      | inr same ↦ header_part p same
    ]

    pair_keys : (k : ℕ) (e : Entry) → IsWritten writing k e → HasKey change it.object (1 + k / page_slots it.sizes)
    pair_keys k e w = elim w [
      | inl x ↦ at_first (header ∷ []) pages (k / page_slots it.sizes) (ap (λ j. j / page_slots it.sizes) x.0)
      | inr x ↦ at_first (header ∷ []) pages (k / page_slots it.sizes) (on_one k e x)
    ]

    pub pair_in : WritesIn it writing head change
    pair_in = made_in it writing head change cuts apart pair_each (at_header [] pages) pair_keys

    pub pair_pages : WritesPages it writing change
    pair_pages = made_pages it writing head change cuts apart pair_each (at_header [] pages) pair_keys

  -- and two
  module _ (second : FreshPage) (number : ℕ) (second_is : IsSlotPage it writing (number / page_slots it.sizes) second) (on_other : IsOnOther (page_slots it.sizes) writing number) (pages : change.pages.items ≡ first ∷ header ∷ second ∷ []) where
    second_written : IsWritten writing number (entry_of on_other.second.slot)
    second_written = inr (subst (λ (o : Option Written). IsAt o number (entry_of on_other.second.slot)) (sym on_other.second_is) (on_other.number_is, refl))

    triple_each : (i : ℕ) (p : FreshPage) → slice_get change.pages.items i ≡ Some p → IsPart it writing head p
    triple_each i p at = elim (get_three first header second i p (ap (λ (ps : List FreshPage). slice_get ps i) (sym pages) ∙ at)) [
      | inl same ↦ first_part p same
      | inr (inl same) ↦ header_part p same
      | inr (inr same) ↦ inr (number, entry_of on_other.second.slot, second_written, subst (IsSlotPage it writing (number / page_slots it.sizes)) same second_is)
    ]

    triple_keys : (k : ℕ) (e : Entry) → IsWritten writing k e → HasKey change it.object (1 + k / page_slots it.sizes)
    triple_keys k e w = elim w [
      | inl x ↦ at_first (header ∷ second ∷ []) pages (k / page_slots it.sizes) (ap (λ j. j / page_slots it.sizes) x.0)
      | inr x ↦
          let is : (k ≡ on_other.second.number) × (e ≡ entry_of on_other.second.slot) = subst (λ (o : Option Written). IsAt o k e) on_other.second_is x in
          let one : number ≡ k = on_other.number_is ∙ sym is.0 in
          (2, record { page = second; there = ap (λ (qs : List FreshPage). slice_get qs 2) pages; object = second_is.object_is; chunk = second_is.chunk_is ∙ ap (λ j. 1 + j / page_slots it.sizes) one })
    ]

    pub triple_in : WritesIn it writing head change
    triple_in = made_in it writing head change cuts apart triple_each (at_header (second ∷ []) pages) triple_keys

    pub triple_pages : WritesPages it writing change
    triple_pages = made_pages it writing head change cuts apart triple_each (at_header (second ∷ []) pages) triple_keys

-- the header alone
module _ (d bytes : ℕ) (header : FreshPage) (head : DirectoryHead) (head_is : IsHeadPage header bytes d head)
    (change : Change) (pages : change.pages.items ≡ header ∷ []) (cuts : change.cuts.items ≡ []) where
  only_head : (o c i : ℕ) (of : IsPageOf change.pages.items o c i) → (header ≡ of.page) × (c ≡ 0)
  only_head o c i of =
      let same : header ≡ of.page = get_one header i of.page (ap (λ (ps : List FreshPage). slice_get ps i) (sym pages) ∙ of.there) in
      (same, sym of.chunk ∙ ap (λ (p : FreshPage). p.key.chunk) (sym same) ∙ head_is.chunk_is)

  -- the pages of slots
  pub one_pages : (old : PageMap) (c : ℕ) → 1 ≤ c → after_change change old d c ≡ old d c
  one_pages old c some = elsewhere change old d c (λ i of. omega (arith, (only_head d c i of).1, some)) (no_cut change.cuts.items cuts d c)

  pub one_head : (old : PageMap) (z : Sizes) → z.page_bytes ≡ bytes → WritesHead z old d head change
  one_head old z size = (
    has_header z change old d head (subst AreApart (sym pages) (one_apart header)) 0 (record { page = header; there = ap (λ (ps : List FreshPage). slice_get ps 0) pages; object = head_is.object_is; chunk = head_is.chunk_is })
        (subst (λ n. IsHeadPage header n d head) (sym size) head_is),
    λ count k e other less is. (is.0, one_pages old (1 + k / page_slots z) (omega arith) ∙ is.1, is.2, is.3),
    λ count c i of j le. absurd (omega (arith, (only_head d (1 + c) i of).1)),
  )

-- ---- a cut behind the slots

module _ (d from : ℕ) (change cut_change : Change) (pages : cut_change.pages.items ≡ change.pages.items) (cuts : change.cuts.items ≡ []) (cut : Cut) (of_d : cut.object ≡ d) (from_is : cut.from ≡ from)
    (one : cut_change.cuts.items ≡ cut ∷ []) (old : PageMap) where
  -- before the cut nothing else changes
  pub before_cut : (c : ℕ) → c < from → after_change cut_change old d c ≡ after_change change old d c
  before_cut c less =
      ap (λ (ps : List FreshPage). with_pages ps (without_cuts cut_change.cuts.items old) d c) pages
      ∙ pages_same change.pages.items (without_cuts cut_change.cuts.items old) (without_cuts change.cuts.items old) d c
      (ap (λ (xs : List Cut). without_cuts xs old d c) one
      ∙ uncut ∙ ap (λ (xs : List Cut). without_cuts xs old d c) (sym cuts))
    where
      uncut : without_cuts (cut ∷ []) old d c ≡ without_cuts [] old d c
      uncut = elim (cut_cases cut d c) [
        | inl at ↦ absurd (omega (arith, at.2, from_is, less))
        | inr other ↦ cond-false (takes cut d c) _ _ other.0
      ]

  pub cut_keeps_slot : (z : Sizes) (k : ℕ) (e : Entry) → 1 + k / page_slots z < from → SlotOf z (after_change change old) d k e → SlotOf z (after_change cut_change old) d k e
  cut_keeps_slot z k e less is = (is.0, before_cut (1 + k / page_slots z) less ∙ is.1, is.2, is.3)

  pub cut_keeps_head : (z : Sizes) (head : DirectoryHead) → 0 < from → HasHead z (after_change change old) d head → HasHead z (after_change cut_change old) d head
  cut_keeps_head z head less h = record { has = before_cut 0 less ∙ h.has; valid = h.valid }

pub cut_change_is : (change cut_change : Change) (bytes most : ℕ) → cut_change.pages.items ≡ change.pages.items → IsChange change bytes most → IsChange cut_change bytes most
cut_change_is change cut_change bytes most pages is = record {
  apart = subst AreApart (sym pages) is.apart;
  size = subst (λ (ps : List FreshPage). AreSized ps bytes) (sym pages) is.size;
  within_limit = subst (λ (ps : List FreshPage). length ps ≤ most) (sym pages) is.within_limit;
}

-- a slot below a whole number of pages of slots stands before the next
pub below_whole : (k len n : ℕ) → 1 ≤ n → len % n ≡ 0 → k < len → 1 + k / n < 1 + len / n
below_whole k len n some whole less =
    let a : k / n * n + k % n ≡ k = div-add-mod' k n in
    let b : len / n * n + len % n ≡ len = div-add-mod' len n in
    elim (cases_lt (k / n) (len / n)) [
      | inl under ↦ omega (arith, under)
      | inr over ↦ let le : len / n * n ≤ k / n * n = mul-le-mul_right n over in absurd (omega (arith, a, b, le, whole, less))
    ]

-- ---- a slot that moves

module _ (it : ObjectIn) (moving : Moving) (put : Written) (head : DirectoryHead) (change : Change) (counts : moving.before ≤ head.length + 1) where
  -- it is the last one, or where the new slot is written
  pub moved_alone : (moving.place ≡ moving.before - 1) ⊎ (moving.place ≡ put.number) → WritesIn it (record { first = put; second = None; before = moving.before; afterwards = head.length }) head change → MovesSlot it moving put head change
  moved_alone one w = record {
    header = w.header;
    put_there = w.written put.number (entry_of put.slot) (inl (refl, refl));
    filled = λ a b. elim one [
      | inl same ↦ absurd (a same)
      | inr same ↦ absurd (b same)
    ];
    others = λ k e a b early is. w.others k e (record { other = (b, tt); before = omega (arith, early); afterwards = omega (arith, early, counts) }) is;
    zeros = w.zeros;
  }

  -- the last one is written in its place
  pub moved_both : (first : Written) → first.number ≡ moving.place → SlotOf it.sizes it.pages it.object (moving.before - 1) (entry_of first.slot)
      → WritesIn it (record { first = first; second = Some put; before = moving.before; afterwards = head.length }) head change → MovesSlot it moving put head change
  moved_both first is_place last w = record {
    header = w.header;
    put_there = w.written put.number (entry_of put.slot) (inr (refl, refl));
    filled = λ a b. (entry_of first.slot, last, w.written moving.place (entry_of first.slot) (inl (sym is_place, refl)));
    others = λ k e a b early is. w.others k e (record { other = (λ same. a (same ∙ is_place), b); before = omega (arith, early); afterwards = omega (arith, early, counts) }) is;
    zeros = w.zeros;
  }

-- where a slot is then is below the last one
pub moved_below : (found : Option Located) (place n : ℕ) (target : Option ℕ) → IsMovedTo found place (n - 1) target → place < n → IfSome found (λ (l : Located). l.place < n) → IfSome target (λ (i : ℕ). i + 1 < n)
moved_below None place n None moved within less = tt
moved_below None place n (Some i) moved within less = absurd moved
moved_below (Some l) place n None moved within less = tt
moved_below (Some l) place n (Some i) moved within less = elim moved.1 [
  | inl x ↦
      let apart : place ≢ n - 1 = λ same. moved.0 (x.0 ∙ sym same) in
      omega (arith, x.1, within, apart)
  | inr x ↦ omega (arith, x.1, x.0, less)
]

-- ---- the page of a slot

-- a page that has slots is there
pub page_there : (z : Sizes) (m : PageMap) (d number before n : ℕ) → n ≡ page_slots z → 1 ≤ n → number / n * n < before → AreSlots (SlotOf z m d) 0 before → (xs : List ℕ) × (m d (1 + number / n) ≡ Some xs)
page_there z m d number before n slots some less are =
    let s = are (number / n * n + 0) (omega arith) (omega (arith, less)) in
    let one : (number / n * n + 0) / page_slots z ≡ number / n = ap (λ k. (number / n * n + 0) / k) (sym slots) ∙ div-mul-add (number / n) n 0 (omega (arith, some)) in
    (s.1.0, subst (λ k. m d (1 + k) ≡ Some s.1.0) one s.1.1)

-- the page on which slots stay was read
pub beside_there : (z : Sizes) (m : PageMap) (d number stay n count : ℕ) (xs : List ℕ) → n ≡ page_slots z → 1 ≤ n → count ≡ min (stay - number / n * n) n
    → (count ≢ 0 → m d (1 + number / n) ≡ Some xs) → HasBeside z m d stay number
beside_there z m d number stay n count xs slots some is there k less same =
    let a : k / n * n + k % n ≡ k = div-add-mod' k n in
    let one : k / n ≡ number / n = ap (λ j. k / j) slots ∙ same ∙ ap (λ j. number / j) (sym slots) in
    let whole : k / n * n ≡ number / n * n = ap (λ j. j * n) one in
    (xs, subst (λ j. m d (1 + j) ≡ Some xs) (sym one ∙ ap (λ j. k / j) slots) (there (λ none. omega (arith, a, whole, less, some, is, none))))

-- a page of zeros
pub blank : (n d count : ℕ) → count ≡ 0 → n ≡ d → replicate {A = ℕ} n 0 ≡ take (272 * count) [] ++ replicate (d - 272 * count) 0
blank n d count none is =
    let zeros : ℕ → List ℕ = λ k. replicate k 0 in
    let same : n ≡ d - 272 * 0 = omega (arith, is) in
    subst (λ k. zeros n ≡ take (272 * k) [] ++ zeros (d - 272 * k)) (sym none) (ap zeros same)

-- the first slots of a page, with something behind them
slot_before : (j n : ℕ) (xs ys : List ℕ) → j < n → 272 * n ≤ length xs → take 272 (drop (272 * j) (take (272 * n) xs ++ ys)) ≡ take 272 (drop (272 * j) xs)
slot_before j n xs ys less room =
    let le : 272 * j + 272 ≤ 272 * n = omega (arith, less) in
    let len : length (take (272 * n) xs) ≡ 272 * n = grind (arith, length-take (272 * n) xs, room) in
    sym (drop-take (272 * j) 272 (take (272 * n) xs ++ ys))
    ∙ ap (drop (272 * j)) (take-append-le (272 * j + 272) (take (272 * n) xs) ys (omega (arith, le, len)) ∙ take-take (272 * j + 272) (272 * n) xs le)
    ∙ drop-take (272 * j) 272 xs

-- a page with its first slots, where one or two slots are written
pub page_made : (it : ObjectIn) (writing : Writing) (page : FreshPage) (n number count : ℕ) (was xs : List ℕ) → n ≡ page_slots it.sizes → 1 ≤ n → 272 * n ≤ length was
    → count ≡ min (min writing.before writing.afterwards - number / n * n) n
    → page.key.object ≡ it.object → page.key.chunk ≡ 1 + number / n → length page.bytes.items ≡ it.sizes.page_bytes
    → (count ≢ 0 → it.pages it.object (1 + number / n) ≡ Some xs) → 272 * count ≤ length xs → was ≡ take (272 * count) xs ++ replicate (length was - 272 * count) 0
    → ((k : ℕ) (e : Entry) → IsWritten writing k e → k / n ≡ number / n → SlotAt page.bytes.items (k % n) e)
    → ((k : ℕ) → IsNotWritten writing (number / n * n + k) → k < n → take 272 (drop (272 * k) page.bytes.items) ≡ take 272 (drop (272 * k) was))
    → ((j : ℕ) → 272 * min (writing.afterwards - number / n * n) n ≤ j → get_or page.bytes.items j 0 ≡ get_or was j 0)
    → IsSlotPage it writing (number / page_slots it.sizes) page
page_made it writing page n number count was xs slots some room count_is object chunk size there long made written others past = record {
  object_is = object;
  chunk_is = chunk ∙ ap (λ m. 1 + number / m) slots;
  size = size;
  written = λ k e w same.
      let in_n : k / n ≡ number / n = ap (λ m. k / m) slots ∙ same ∙ ap (λ m. number / m) (sym slots) in
      subst (λ m. SlotAt page.bytes.items (k % m) e) slots (written k e w in_n);
  committed = λ k e stays same is.
      let in_n : k / n ≡ number / n = ap (λ m. k / m) slots ∙ same ∙ ap (λ m. number / m) (sym slots) in
      let whole : k / n * n ≡ number / n * n = ap (λ m. m * n) in_n in
      let place : number / n * n + k % n ≡ k = omega (arith, whole, div-add-mod' k n) in
      let other : IsNotWritten writing (number / n * n + k % n) = subst (IsNotWritten writing) (sym place) stays.other in
      let small : k % n < n = omega (arith, some) in
      let low : k < writing.before = stays.before in
      let high : k < writing.afterwards = stays.afterwards in
      let early : k % n < min writing.before writing.afterwards - number / n * n = grind (arith, low, high, place) in
      let under : k % n < count = subst (λ m. k % n < m) (sym count_is) (grind (arith, early, small)) in
      let page_is : xs ≡ is.0 = one_page it.pages it.object (1 + number / n) xs is.0 (there (λ none. omega (arith, none, under))) (subst (λ c. it.pages it.object (1 + c) ≡ Some is.0) (ap (λ m. k / m) (sym slots) ∙ in_n) is.1) in (
        is.2,
        ap (λ m. take 272 (drop (272 * (k % m)) page.bytes.items)) (sym slots)
            ∙ others (k % n) other small
            ∙ ap (λ (p : List ℕ). take 272 (drop (272 * (k % n)) p)) made
            ∙ slot_before (k % n) count xs (replicate (length was - 272 * count) 0) under long
            ∙ ap (λ (p : List ℕ). take 272 (drop (272 * (k % n)) p)) page_is
            ∙ ap (λ m. take 272 (drop (272 * (k % m)) is.0)) slots
            ∙ is.3,
      );
  past = λ j le.
      let first : ℕ = number / n * n in
      let most : ℕ = min (writing.afterwards - first) n in
      let le_n : 272 * most ≤ j = subst (λ m. 272 * min (writing.afterwards - number / m * m) m ≤ j) (sym slots) le in
      let within_limit : count ≤ most = subst (λ m. m ≤ most) (sym count_is) (grind arith) in
      let after_committed : 272 * count ≤ j = omega (arith, within_limit, le_n) in
      let len : length (take (272 * count) xs) ≡ 272 * count = grind (arith, length-take (272 * count) xs, long) in
      past j le_n
      ∙ ap (λ (ys : List ℕ). get_or ys j 0) made
      ∙ get_or-append_right (take (272 * count) xs) (replicate (length was - 272 * count) 0) (272 * count) j 0 len after_committed
      ∙ zero_at (length was - 272 * count) (j - 272 * count);
}

-- ---- slots that are written over a page

-- a slot of a chunk is before the end of those that are there afterwards
pub below_end : (number chunk n afterwards : ℕ) → 1 ≤ n → number < afterwards → number / n ≡ chunk → number % n < min (afterwards - chunk * n) n
below_end number chunk n afterwards some less same =
    let base : number / n * n + number % n ≡ number = div-add-mod' number n in
    let whole : number / n * n ≡ chunk * n = ap (λ k. k * n) same in
    let small : number % n < n = omega (arith, some) in
    grind (arith, base, whole, small, less)

-- one slot is written, below a number
pub alone_below : (writing : Writing) (count : ℕ) → writing.first.number < count → writing.second ≡ None → (k : ℕ) (e : Entry) → IsWritten writing k e → k < count
alone_below writing count less alone k e w = elim w [
  | inl x ↦ omega (arith, x.0, less)
  | inr x ↦ absurd (subst (λ (o : Option Written). IsAt o k e) alone x)
]

-- two are
pub both_below : (writing : Writing) (count : ℕ) (second : Written) → writing.first.number < count → writing.second ≡ Some second → second.number < count → (k : ℕ) (e : Entry) → IsWritten writing k e → k < count
both_below writing count second less is high k e w = elim w [
  | inl x ↦ omega (arith, x.0, less)
  | inr x ↦ let at : (k ≡ second.number) × (e ≡ entry_of second.slot) = subst (λ (o : Option Written). IsAt o k e) is x in omega (arith, at.0, high)
]

module _ (writing : Writing) (can : IfSome writing.second (CanFollow writing)) where
  -- the second slot is one of a tree
  pub second_valid : (k : ℕ) (e : Entry) → IsAt writing.second k e → IsTreeSlot e
  second_valid k e at = go writing.second can at where
    go : (o : Option Written) → IfSome o (CanFollow writing) → IsAt o k e → IsTreeSlot e
    go None f at = absurd at
    go (Some x) f at = subst IsTreeSlot (sym at.1) f.valid

  -- and another than the first
  pub second_apart : (k : ℕ) → k ≡ writing.first.number → IsNotAt writing.second k
  second_apart k is = go writing.second can where
    go : (o : Option Written) → IfSome o (CanFollow writing) → IsNotAt o k
    go None f = tt
    go (Some x) f = λ same. f.apart (sym same ∙ is)

  pub second_below : (chunk n : ℕ) → 1 ≤ n → EndsWithin writing.second n chunk (min (writing.afterwards - chunk * n) n)
  second_below chunk n some = go writing.second can where
    go : (o : Option Written) → IfSome o (CanFollow writing) → EndsWithin o n chunk (min (writing.afterwards - chunk * n) n)
    go None f = tt
    go (Some x) f = below_end x.number chunk n writing.afterwards some f.within

-- ---- the bytes of a slot

pub bytes_slot : (z : Sizes) (m : PageMap) (d i : ℕ) (bytes : List ℕ) (e : Entry) → IsSlotBytes z m d i bytes → SlotOf z m d i e → bytes ≡ slot_bytes e
bytes_slot z m d i bytes e is s =
    is.2 ∙ ap (λ (p : List ℕ). take 272 (drop (272 * (i % page_slots z)) p)) (one_page m d (1 + i / page_slots z) is.0 s.0 is.1 s.1) ∙ s.3

pub slot_of_bytes : (z : Sizes) (m : PageMap) (d i : ℕ) (bytes : List ℕ) (e : Entry) → IsSlotBytes z m d i bytes → IsTreeSlot e → bytes ≡ slot_bytes e → SlotOf z m d i e
slot_of_bytes z m d i bytes e is valid same = (is.0, is.1, valid, sym is.2 ∙ same)

-- ---- a slot less

module _ (z : Sizes) (old : PageMap) (d : ℕ) (head : DirectoryHead) (change cut_change : Change) (pages : cut_change.pages.items ≡ change.pages.items) (uncut : change.cuts.items ≡ [])
    (n : ℕ) (slots : n ≡ page_slots z) (some : 1 ≤ n) (cuts : CutsBehind d n head.length cut_change) where
  slot_stays : (k : ℕ) (e : Entry) → k < head.length → SlotOf z (after_change change old) d k e → SlotOf z (after_change cut_change old) d k e
  slot_stays k e less is = elim cuts [
    | inl none ↦ (is.0, same_change none.1 (1 + k / page_slots z) ∙ is.1, is.2, is.3)
    | inr cut ↦ cut_keeps_slot d (1 + head.length / n) change cut_change pages uncut cut.1.0 cut.1.2 cut.1.3 cut.1.1 old z k e
        (subst (λ m. 1 + k / m < 1 + head.length / n) slots (below_whole k head.length n some cut.0 less)) is
  ] where
    same_change : cut_change.cuts.items ≡ [] → (c : ℕ) → after_change cut_change old d c ≡ after_change change old d c
    same_change none c = ap (λ (ps : List FreshPage). with_pages ps (without_cuts cut_change.cuts.items old) d c) pages
        ∙ ap (λ (xs : List Cut). with_pages change.pages.items (without_cuts xs old) d c) (none ∙ sym uncut)

  head_stays : HasHead z (after_change change old) d head → HasHead z (after_change cut_change old) d head
  head_stays h = elim cuts [
    | inl none ↦ record {
      has = ap (λ (ps : List FreshPage). with_pages ps (without_cuts cut_change.cuts.items old) d 0) pages
          ∙ ap (λ (xs : List Cut). with_pages change.pages.items (without_cuts xs old) d 0) (none.1 ∙ sym uncut) ∙ h.has;
      valid = h.valid;
    }
    | inr cut ↦ cut_keeps_head d (1 + head.length / n) change cut_change pages uncut cut.1.0 cut.1.2 cut.1.3 cut.1.1 old z head (omega arith) h
  ]

  zeros_stay : EndsInZeros z change d head.length → EndsInZeros z cut_change d head.length
  zeros_stay zeros c k of = zeros c k (record { page = of.page; there = ap (λ (ps : List FreshPage). slice_get ps k) (sym pages) ∙ of.there; object = of.object; chunk = of.chunk })

  pub loses_cut : (i : ℕ) → LosesSlot z old change d head i → LosesSlot z old cut_change d head i
  loses_cut i l = record {
    header = head_stays l.header;
    filled = λ less. let f = l.filled less in (f.0, f.1, slot_stays i f.0 less f.2);
    others = λ k e other less is. slot_stays k e less (l.others k e other less is);
    zeros = zeros_stay l.zeros;
  }

  -- a slot that moves
  pub moves_cut : (moving : Moving) (put : Written) → put.number < head.length → moving.before ≡ head.length + 1 → moving.place < moving.before → MovesSlot (record { sizes = z; pages = old; object = d }) moving put head change
      → MovesSlot (record { sizes = z; pages = old; object = d }) moving put head cut_change
  moves_cut moving put less count within l = record {
    header = head_stays l.header;
    put_there = slot_stays put.number (entry_of put.slot) less l.put_there;
    filled = λ a b. let f = l.filled a b in (f.0, f.1, slot_stays moving.place f.0 (omega (arith, a, within, count)) f.2);
    others = λ k e a b early is. slot_stays k e (omega (arith, early, count)) (l.others k e a b early is);
    zeros = zeros_stay l.zeros;
  }

-- what lies behind the slots is gone, where that was so of one slot more
module _ (z : Sizes) (old : PageMap) (d len : ℕ) (change cut_change : Change) (pages : cut_change.pages.items ≡ change.pages.items) (uncut : change.cuts.items ≡ [])
    (n : ℕ) (slots : n ≡ page_slots z) (some : 1 ≤ n) (cuts : CutsBehind d n len cut_change) (keeps : (m : PageMap) → KeepsBehind z m (after_change change m) d len) where
  as_written : (c : ℕ) → after_change cut_change old d c ≡ after_change change (without_cuts cut_change.cuts.items old) d c
  as_written c = ap (λ (ps : List FreshPage). with_pages ps (without_cuts cut_change.cuts.items old) d c) pages
      ∙ ap (λ (xs : List Cut). with_pages change.pages.items (without_cuts xs (without_cuts cut_change.cuts.items old)) d c) (sym uncut)

  pub only_behind : HasOnly z old d (len + 1) → HasOnly z (after_change cut_change old) d len
  only_behind only c behind = as_written c ∙ keeps (without_cuts cut_change.cuts.items old) c behind ∙ elim cuts [
    | inl none ↦ ap (λ (xs : List Cut). without_cuts xs old d c) none.1
        ∙ only c (subst (λ k. div_ceil (len + 1) k < c) slots (one_more_page len n c some none.0 (subst (λ k. div_ceil len k < c) (sym slots) behind)))
    | inr cut ↦ cut_here cut_change.cuts.items old d c 0 (record {
      cut = cut.1.0;
      there = ap (λ (xs : List Cut). slice_get xs 0) cut.1.1;
      object = cut.1.2;
      chunk = (let past : div_ceil len n < c = subst (λ k. div_ceil len k < c) (sym slots) behind in omega (arith, cut.1.3, past));
    })
  ]

pub only_cut : (d n len : ℕ) (change cut_change : Change) → cut_change.pages.items ≡ change.pages.items → CutsBehind d n len cut_change → IsOnlyOf change d → IsOnlyOf cut_change d
only_cut d n len change cut_change pages cuts is = record {
  pages = λ o c i of. is.pages o c i (subst (λ (ps : List FreshPage). IsPageOf ps o c i) pages of);
  cuts = λ o c i at. elim cuts [
    | inl none ↦ absurd (no_cut cut_change.cuts.items none.1 o c i at)
    | inr cut ↦ go cut.1.0 cut.1.2 i o c (subst (λ (xs : List Cut). IsCut xs o c i) cut.1.1 at)
  ];
} where
  go : (cut : Cut) → cut.object ≡ d → (i o c : ℕ) → IsCut (cut ∷ []) o c i → o ≡ d
  go cut of_d zero o c at = let is : Some cut ≡ Some at.cut = at.there in let same : cut ≡ at.cut = cc in sym at.object ∙ ap (λ (x : Cut). x.object) (sym same) ∙ of_d
  go cut of_d (suc i) o c at = let no' : None ≡ Some at.cut = at.there in absurd cc
