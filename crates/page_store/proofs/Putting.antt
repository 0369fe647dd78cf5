-- A page that becomes the present one of its key, and pages one after the other.
use Rattle.std.specs.Prelude.{◌≡◌, ◌<◌, ◌≤◌, ℕ, suc, ◌+◌, List, [], ◌∷◌, ◌++◌, length, Option, Some, None, slice_get}
use Rattle.std.specs.Option.{option_map}
use Rattle.std.proofs.Common.{refl, sym, ◌∙◌, ap, subst, inl, inr, arith, set}
use Rattle.std.proofs.lemmas.Bool.{cases_eq, cond-true, cond-false}
use Rattle.std.proofs.lemmas.List.{length-append, length-set}
use Rattle.std.proofs.lemmas.Option.{slice_get_within}
use Rattle.chunk_index.specs.declared.form.Present.{Present}
use Rattle.pages.specs.Memory.{blank_flash}
use Rattle.volume_terms.specs.laws.List.{get_push, push_before, push_last}
use Rattle.nand_model.specs.Flash.{Flash}
use Rattle.flash_tree.specs.declared.place.FreshPage.{FreshPage}
use Rattle.pages.specs.Maps.{is_of, with_pages, IsPageOf}
use Rattle.pages.specs.Changes.{AreApart, AreSized}
use Rattle.pages.specs.laws.Maps.{page_elsewhere, key_cases as of_cases}
use Rattle.pages.specs.laws.Changes.{pages_same}
use Rattle.chunk_index.specs.declared.form.Present.TheVariants as presents
use Rattle.chunk_index.specs.declared.form.Form.TheVariants as forms
use Rattle.chunk_index.specs.declared.index.Index.{Index}
use Rattle.chunk_index.specs.Shelves.{Differs}
use Rattle.chunk_index.specs.Maps.{present, Places, buffered_or, IsPrepared, SameCommitted, SamePresent, StaysPrepared}
use Rattle.page_store.specs.Shown.{data_by, present_data}
use Rattle.page_store.specs.Buffering.{Buffers, lacks, new_keys, with_new, PutsPage, ArePrepared}
use Rattle.page_store.proofs.Keys.{Holding, holding, buffers, key_cases, here, object_is, chunk_is, data_same, lacks_one, lacks_none, new_same, apart_tail}
use Rattle.page_store.proofs.Slots.{get_set, set_other, set_here}

-- a page takes the place of the one of its key, and every present page stays
module _ (x y : Index) (pages : List FreshPage) (p : FreshPage) (slot : ℕ) (b : Holding x pages) (is : present x p.key.object p.key.chunk ≡ presents.InBuffer slot) (same : SamePresent x y) where
  of_slot : IsPageOf pages p.key.object p.key.chunk slot
  of_slot = b.there _ _ slot is

  within : slot < length pages
  within = slice_get_within pages slot of_slot.page of_slot.there

  slot_key : (o c : ℕ) → IsPageOf pages o c slot → (o ≡ p.key.object) × (c ≡ p.key.chunk)
  slot_key o c of = (object_is pages o c slot of_slot.page of_slot.there of ∙ of_slot.object, chunk_is pages o c slot of_slot.page of_slot.there of ∙ of_slot.chunk)

  filled_buffers : Holding y (set pages slot p)
  filled_buffers = record {
    there = λ o c i now. let at : present x o c ≡ presents.InBuffer i = sym (same o c) ∙ now in elim (cases_eq i slot) [
      | inr ne ↦ let of = b.there o c i at in record { page = of.page; there = set_other pages slot i p of.page ne of.there; object = of.object; chunk = of.chunk }
      | inl e ↦
          let key = slot_key o c (subst (IsPageOf pages o c) e (b.there o c i at)) in
          record { page = p; there = ap (slice_get (set pages slot p)) e ∙ set_here pages slot p within; object = sym key.0; chunk = sym key.1 }
    ];
    reported = λ o c i of. elim (get_set pages slot i p of.page of.there) [
      | inl other ↦ same o c ∙ b.reported o c i (record { page = of.page; there = other.1; object = of.object; chunk = of.chunk })
      | inr filled ↦
          let object : o ≡ p.key.object = sym of.object ∙ ap (λ (q : FreshPage). q.key.object) filled.1 in
          let chunk : c ≡ p.key.chunk = sym of.chunk ∙ ap (λ (q : FreshPage). q.key.chunk) filled.1 in
          same o c ∙ ap (λ k. present x k c) object ∙ ap (present x p.key.object) chunk ∙ is ∙ ap presents.InBuffer (sym filled.0)
    ];
  }

  filled_puts : PutsPage p x y pages (set pages slot p)
  filled_puts = record {
    here = λ flash. ap (data_by flash (set pages slot p)) (same p.key.object p.key.chunk ∙ is) ∙ ap (λ (m : Option FreshPage). option_map (λ (q : FreshPage). q.bytes.items) m) (set_here pages slot p within);
    others = λ flash o c none. ap (data_by flash (set pages slot p)) (same o c) ∙ data_same flash pages (set pages slot p) (present x o c) (λ i at. elim (cases_eq i slot) [
      | inl e ↦ let key = slot_key o c (subst (IsPageOf pages o c) e (b.there o c i at)) in absurd (none (sym key.0, sym key.1))
      | inr ne ↦ let of = b.there o c i at in set_other pages slot i p of.page ne of.there ∙ sym of.there
    ]);
    lacking = λ o c none. ap lacks (same o c);
    longer = let zero : lacks (present x p.key.object p.key.chunk) ≡ 0 = ap lacks is in omega (arith, zero, length-set pages slot p);
  }

-- a page of a key that has none in the buffer is put behind the others
module _ (x y : Index) (pages : List FreshPage) (p : FreshPage) (b : Holding x pages) (lacking : lacks (present x p.key.object p.key.chunk) ≡ 1)
    (place : Places p.key.object p.key.chunk (forms.Buffered (length pages)) x y) where
  none_is : (o c i : ℕ) → IsPageOf pages o c i → Differs p.key.object p.key.chunk o c
  none_is o c i of = elim (key_cases p.key.object p.key.chunk o c) [
    | inr differs ↦ differs
    | inl same ↦ absurd (lacks_none (present x p.key.object p.key.chunk) i lacking
        (ap (λ k. present x k p.key.chunk) (sym same.0) ∙ ap (present x o) (sym same.1) ∙ b.reported o c i of))
  ]

  put_here : (o c : ℕ) → o ≡ p.key.object → c ≡ p.key.chunk → present y o c ≡ presents.InBuffer (length pages)
  put_here o c a d = ap (λ k. present y k c) a ∙ ap (present y p.key.object) d ∙ place.here

  pushed_buffers : Holding y (pages ++ p ∷ [])
  pushed_buffers = record {
    there = λ o c i is. elim (key_cases p.key.object p.key.chunk o c) [
      | inl same ↦
          let both : presents.InBuffer i ≡ presents.InBuffer (length pages) = sym is ∙ put_here o c same.0 same.1 in
          let one : i ≡ length pages = cc in
          record { page = p; there = ap (slice_get (pages ++ p ∷ [])) one ∙ push_last pages p; object = sym same.0; chunk = sym same.1 }
      | inr differs ↦
          let of = b.there o c i (sym (place.others o c differs) ∙ is) in
          record { page = of.page; there = push_before pages p i of.page of.there; object = of.object; chunk = of.chunk }
    ];
    reported = λ o c i of. elim (get_push pages p i of.page of.there) [
      | inl before ↦
          let was : IsPageOf pages o c i = record { page = of.page; there = before.1; object = of.object; chunk = of.chunk } in
          place.others o c (none_is o c i was) ∙ b.reported o c i was
      | inr last ↦ put_here o c (sym of.object ∙ ap (λ (q : FreshPage). q.key.object) last.1) (sym of.chunk ∙ ap (λ (q : FreshPage). q.key.chunk) last.1) ∙ ap presents.InBuffer (sym last.0)
    ];
  }

  pushed_puts : PutsPage p x y pages (pages ++ p ∷ [])
  pushed_puts = record {
    here = λ flash. ap (data_by flash (pages ++ p ∷ [])) place.here ∙ ap (λ (m : Option FreshPage). option_map (λ (q : FreshPage). q.bytes.items) m) (push_last pages p);
    others = λ flash o c none. elim (key_cases p.key.object p.key.chunk o c) [
      | inl same ↦ absurd (none (sym same.0, sym same.1))
      | inr differs ↦ ap (data_by flash (pages ++ p ∷ [])) (place.others o c differs)
          ∙ data_same flash pages (pages ++ p ∷ []) (present x o c) (λ i is. let of = b.there o c i is in push_before pages p i of.page of.there ∙ sym of.there)
    ];
    lacking = λ o c none. elim (key_cases p.key.object p.key.chunk o c) [
      | inl same ↦ absurd (none (sym same.0, sym same.1))
      | inr differs ↦ ap lacks (place.others o c differs)
    ];
    longer = omega (arith, lacking, length-append pages (p ∷ []));
  }

-- a page becomes the present one of its key, at the number that the key has in the buffer, or else behind all pages
module _ (x y : Index) (pages : List FreshPage) (p : FreshPage) (n slot : ℕ) (b : Buffers x pages) (len : n ≡ length pages)
    (number : slot ≡ buffered_or n (present x p.key.object p.key.chunk)) (place : Places p.key.object p.key.chunk (forms.Buffered slot) x y) where
  held : Holding x pages
  held = holding x pages b

  -- where there is a page of that number, it is the key's
  there_before : slot < length pages → present x p.key.object p.key.chunk ≡ presents.InBuffer slot
  there_before lt = go (present x p.key.object p.key.chunk) refl where
    go : (q : Present) → present x p.key.object p.key.chunk ≡ q → present x p.key.object p.key.chunk ≡ presents.InBuffer slot
    go presents.Absent is = let e : slot ≡ n = number ∙ ap (buffered_or n) is in absurd (omega (arith, e, lt, len))
    go (presents.OnFlash k) is = let e : slot ≡ n = number ∙ ap (buffered_or n) is in absurd (omega (arith, e, lt, len))
    go (presents.InBuffer i) is = let e : slot ≡ i = number ∙ ap (buffered_or n) is in is ∙ ap presents.InBuffer (sym e)

  -- and every present page stays
  same_before : slot < length pages → SamePresent x y
  same_before lt = λ k l. elim (key_cases p.key.object p.key.chunk k l) [
    | inr differs ↦ place.others k l differs
    | inl at ↦ ap (λ o. present y o l) at.0 ∙ ap (present y p.key.object) at.1 ∙ place.here ∙ sym (ap (λ o. present x o l) at.0 ∙ ap (present x p.key.object) at.1 ∙ there_before lt)
  ]

  pub before_buffers : slot < length pages → Buffers y (set pages slot p)
  before_buffers lt = buffers y (set pages slot p) (filled_buffers x y pages p slot held (there_before lt) (same_before lt))

  pub before_puts : slot < length pages → PutsPage p x y pages (set pages slot p)
  before_puts lt = filled_puts x y pages p slot held (there_before lt) (same_before lt)

  -- where there is none, the key has none in the buffer
  pub past_lacks : length pages ≤ slot → lacks (present x p.key.object p.key.chunk) ≡ 1
  past_lacks le = lacks_one (present x p.key.object p.key.chunk) (λ i is.
      let e : slot ≡ i = number ∙ ap (buffered_or n) is in
      let of = held.there p.key.object p.key.chunk i is in
      let lt : i < length pages = slice_get_within pages i of.page of.there in
      omega (arith, e, lt, le))

  last_past : length pages ≤ slot → slot ≡ length pages
  last_past le = go (present x p.key.object p.key.chunk) refl where
    go : (q : Present) → present x p.key.object p.key.chunk ≡ q → slot ≡ length pages
    go presents.Absent is = number ∙ ap (buffered_or n) is ∙ len
    go (presents.OnFlash k) is = number ∙ ap (buffered_or n) is ∙ len
    go (presents.InBuffer i) is = absurd (lacks_none (present x p.key.object p.key.chunk) i (past_lacks le) is)

  place_past : length pages ≤ slot → Places p.key.object p.key.chunk (forms.Buffered (length pages)) x y
  place_past le = subst (λ k. Places p.key.object p.key.chunk (forms.Buffered k) x y) (last_past le) place

  pub past_buffers : length pages ≤ slot → Buffers y (pages ++ p ∷ [])
  past_buffers le = buffers y (pages ++ p ∷ []) (pushed_buffers x y pages p held (past_lacks le) (place_past le))

  pub past_puts : length pages ≤ slot → PutsPage p x y pages (pages ++ p ∷ [])
  past_puts le = pushed_puts x y pages p held (past_lacks le) (place_past le)

-- What stands while pages are put one after the other, of which `rest` are left, of `all`.
pub record PuttingAll (most bytes : ℕ) (all rest : List FreshPage) (x y : Index) (old new : List FreshPage) : Type 0 where
  pub buffers : Buffers y new
  pub committed : SameCommitted x y
  pub prepared : StaysPrepared x y
  pub left : ArePrepared y rest
  pub apart : AreApart rest
  pub sized : AreSized rest bytes
  pub room : with_new y new rest ≤ most
  pub shown : (flash : Flash) (o c : ℕ) → with_pages rest (present_data y new flash) o c ≡ with_pages all (present_data x old flash) o c

pub putting_starts : (most bytes : ℕ) (all : List FreshPage) (x : Index) (pages : List FreshPage) → Buffers x pages → ArePrepared x all → AreSized all bytes → AreApart all → with_new x pages all ≤ most
    → PuttingAll most bytes all all x x pages pages
putting_starts most bytes all x pages b prepared sized apart room = record {
  buffers = b;
  committed = record { committed = λ o c. refl; counts = λ k. refl };
  prepared = λ o c is. is;
  left = prepared;
  apart = apart;
  sized = sized;
  room = room;
  shown = λ flash o c. refl;
}

-- the key of the first page is none of the others'
head_differs : (p : FreshPage) (rest : List FreshPage) → AreApart (p ∷ rest) → (i : ℕ) → IsPageOf rest p.key.object p.key.chunk i → ⊥
head_differs p rest apart i of =
    let two : 0 ≡ suc i = apart p.key.object p.key.chunk 0 (suc i) (here (p ∷ rest) 0 p refl) (record { page = of.page; there = of.there; object = of.object; chunk = of.chunk }) in
    omega (arith, two)

pub putting_more : (most bytes : ℕ) (all rest : List FreshPage) (p : FreshPage) (x y z : Index) (old mid new : List FreshPage) → PuttingAll most bytes all (p ∷ rest) x y old mid
    → Buffers z new → SameCommitted y z → StaysPrepared y z → PutsPage p y z mid new → PuttingAll most bytes all rest x z old new
putting_more most bytes all rest p x y z old mid new d b committed prepared puts = record {
  buffers = b;
  committed = record { committed = λ o c. committed.committed o c ∙ d.committed.committed o c; counts = λ k. committed.counts k ∙ d.committed.counts k };
  prepared = λ o c is. prepared o c (d.prepared o c is);
  left = λ o c i of. prepared o c (d.left o c (suc i) (record { page = of.page; there = of.there; object = of.object; chunk = of.chunk }));
  apart = apart_tail p rest d.apart;
  sized = λ i q at. d.sized (suc i) q at;
  room =
      let same : new_keys z rest ≡ new_keys y rest = new_same y z rest (λ o c i of. puts.lacking o c (λ is. head_differs p rest d.apart i (record { page = of.page; there = of.there; object = of.object ∙ sym is.0; chunk = of.chunk ∙ sym is.1 }))) in
      omega (arith, same, puts.longer, d.room);
  shown = λ flash o c. shown flash o c ∙ d.shown flash o c;
} where
  shown : (flash : Flash) (o c : ℕ) → with_pages rest (present_data z new flash) o c ≡ with_pages (p ∷ rest) (present_data y mid flash) o c
  shown flash o c = elim (of_cases p o c) [
    | inr other ↦ pages_same rest _ _ o c (puts.others flash o c (λ is. other.1 is.0 is.1)) ∙ sym (cond-false (is_of p o c) _ _ other.0)
    | inl is ↦ page_elsewhere rest (present_data z new flash) o c (λ i of. head_differs p rest d.apart i (record { page = of.page; there = of.there; object = of.object ∙ sym is.1; chunk = of.chunk ∙ sym is.2 }))
        ∙ ap (λ k. present_data z new flash k c) (sym is.1) ∙ ap (present_data z new flash p.key.object) (sym is.2)
        ∙ puts.here flash ∙ sym (cond-true (is_of p o c) _ _ is.0)
  ]

-- the first of the pages that are left
pub first_prepared : (most bytes : ℕ) (all rest : List FreshPage) (p : FreshPage) (x y : Index) (old new : List FreshPage) → PuttingAll most bytes all (p ∷ rest) x y old new → IsPrepared y p.key.object p.key.chunk
first_prepared most bytes all rest p x y old new d = d.left p.key.object p.key.chunk 0 (here (p ∷ rest) 0 p refl)

pub first_sized : (most bytes : ℕ) (all rest : List FreshPage) (p : FreshPage) (x y : Index) (old new : List FreshPage) → PuttingAll most bytes all (p ∷ rest) x y old new → length p.bytes.items ≡ bytes
first_sized most bytes all rest p x y old new d = d.sized 0 p refl

pub first_fits : (most bytes : ℕ) (all rest : List FreshPage) (p : FreshPage) (x y : Index) (old new : List FreshPage) → PuttingAll most bytes all (p ∷ rest) x y old new
    → length new + lacks (present y p.key.object p.key.chunk) ≤ most
first_fits most bytes all rest p x y old new d = omega (arith, d.room)

-- the pages have their size
pub pushed_sized : (pages : List FreshPage) (p : FreshPage) (bytes : ℕ) → AreSized pages bytes → length p.bytes.items ≡ bytes → AreSized (pages ++ p ∷ []) bytes
pushed_sized pages p bytes sized size i q at = elim (get_push pages p i q at) [
  | inl before ↦ sized i q before.1
  | inr last ↦ ap (λ (r : FreshPage). length r.bytes.items) last.1 ∙ size
]

pub filled_sized : (pages : List FreshPage) (p : FreshPage) (slot bytes : ℕ) → AreSized pages bytes → length p.bytes.items ≡ bytes → AreSized (set pages slot p) bytes
filled_sized pages p slot bytes sized size i q at = elim (get_set pages slot i p q at) [
  | inl other ↦ sized i q other.1
  | inr here' ↦ ap (λ (r : FreshPage). length r.bytes.items) here'.1 ∙ size
]

-- a page that is present whatever the flash has is in the buffer
pub data_blank : (pages : List FreshPage) (p : Present) (xs : List ℕ) → data_by blank_flash pages p ≡ Some xs → lacks p ≡ 0
data_blank pages presents.Absent xs is = let two : None ≡ Some xs = is in absurd cc
data_blank pages (presents.OnFlash k) xs is = let two : None ≡ Some xs = is in absurd cc
data_blank pages (presents.InBuffer i) xs is = refl
