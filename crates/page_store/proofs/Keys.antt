-- Keys that are present in the buffer.
use Rattle.std.specs.Prelude.{◌≡◌, ◌⊎◌, ◌≤◌, ℕ, suc, ◌+◌, List, [], ◌∷◌, Option, Some, None, slice_get, IsTrue, IsSome}
use Rattle.std.specs.Option.{option_map}
use Rattle.std.proofs.Common.{refl, sym, ◌∙◌, ap, inl, inr, arith}
use Rattle.std.proofs.lemmas.Bool.{cases_eq}
use Rattle.nand_model.specs.Flash.{Flash}
use Rattle.flash_tree.specs.declared.place.FreshPage.{FreshPage}
use Rattle.pages.specs.Maps.{IsPageOf}
use Rattle.pages.specs.Changes.{AreApart}
use Rattle.chunk_index.specs.declared.entry.KeyEntry.{KeyEntry}
use Rattle.chunk_index.specs.declared.entry.State.{State}
use Rattle.chunk_index.specs.declared.entry.State.TheVariants as states
use Rattle.chunk_index.specs.declared.form.CommittedPage.{CommittedPage}
use Rattle.chunk_index.specs.declared.form.Present.{Present}
use Rattle.chunk_index.specs.declared.form.Present.TheVariants as presents
use Rattle.chunk_index.specs.declared.index.Index.{Index}
use Rattle.chunk_index.specs.Entries.{as_committed, present_by, present_of, stays_state, stays_of}
use Rattle.chunk_index.specs.Shelves.{look, Differs}
use Rattle.chunk_index.specs.Maps.{present, IsReadyKey, IsPrepared}
use Rattle.page_store.specs.Shown.{data_by}
use Rattle.flash_tree.specs.declared.place.Key.{Key}
use Rattle.page_store.specs.Buffering.{Buffers, key_at, lacks, new_keys}

-- what holds of an index and its buffer, page by page
pub record Holding (x : Index) (pages : List FreshPage) : Type 0 where
  pub there : (o c i : ℕ) → present x o c ≡ presents.InBuffer i → IsPageOf pages o c i
  pub reported : (o c i : ℕ) → IsPageOf pages o c i → present x o c ≡ presents.InBuffer i

page_of : (pages : List FreshPage) (o c i : ℕ) → key_at pages i ≡ Some (record { object = o; chunk = c }) → IsPageOf pages o c i
page_of pages o c i is = go (slice_get pages i) refl where
  go : (m : Option FreshPage) → slice_get pages i ≡ m → IsPageOf pages o c i
  go None none = let two : None ≡ Some (record { object = o; chunk = c }) = sym (ap (option_map (λ (p : FreshPage). p.key)) none) ∙ is in absurd cc
  go (Some p) some =
      let both : Some p.key ≡ Some (record { object = o; chunk = c }) = sym (ap (option_map (λ (q : FreshPage). q.key)) some) ∙ is in
      let one : p.key ≡ record { object = o; chunk = c } = cc in
      record { page = p; there = some; object = ap (λ (k : Key). k.object) one; chunk = ap (λ (k : Key). k.chunk) one }

key_of : (pages : List FreshPage) (o c i : ℕ) → IsPageOf pages o c i → key_at pages i ≡ Some (record { object = o; chunk = c })
key_of pages o c i of = ap (option_map (λ (p : FreshPage). p.key)) of.there
    ∙ ap (λ n. Some (record { object = n; chunk = of.page.key.chunk })) of.object ∙ ap (λ n. Some (record { object = o; chunk = n })) of.chunk

pub holding : (x : Index) (pages : List FreshPage) → Buffers x pages → Holding x pages
holding x pages b = record { there = λ o c i is. page_of pages o c i (b.there o c i is); reported = λ o c i of. b.reported o c i (key_of pages o c i of) }

pub buffers : (x : Index) (pages : List FreshPage) → Holding x pages → Buffers x pages
buffers x pages h = record { there = λ o c i is. key_of pages o c i (h.there o c i is); reported = λ o c i is. h.reported o c i (page_of pages o c i is) }

-- two keys are one or differ
pub key_cases : (o c k l : ℕ) → ((k ≡ o) × (l ≡ c)) ⊎ Differs o c k l
key_cases o c k l = elim (cases_eq k o) [
  | inr ne ↦ inr (inl ne)
  | inl e ↦ elim (cases_eq l c) [ inl d ↦ inl (e, d) | inr ne ↦ inr (inr ne) ]
]

pub differs_not : (o c k l : ℕ) → Differs o c k l → k ≡ o → l ≡ c → ⊥
differs_not o c k l (inl ne) e d = ne e
differs_not o c k l (inr ne) e d = ne d

-- what is committed is in no buffer
not_committed : (p : Option CommittedPage) (i : ℕ) → as_committed p ≡ presents.InBuffer i → ⊥
not_committed None i is = absurd cc
not_committed (Some p) i is = absurd cc

stays_buffered : (p : Option CommittedPage) (s : State) (i : ℕ) → present_by p s ≡ presents.InBuffer i → IsTrue (stays_state s)
stays_buffered p states.Same i is = absurd (not_committed p i is)
stays_buffered p (states.Buffered j) i is = refl
stays_buffered p states.Dropped i is = absurd cc
stays_buffered p states.Vacant i is = absurd cc

ready_of : (m : Option KeyEntry) (i : ℕ) → present_of m ≡ presents.InBuffer i → IsTrue (stays_of m)
ready_of None i is = absurd cc
ready_of (Some e) i is = stays_buffered e.committed e.state i is

-- there is room for a key that is present in the buffer, also once it is written
pub buffered_ready : (x : Index) (o c i : ℕ) → present x o c ≡ presents.InBuffer i → IsReadyKey x o c
buffered_ready x o c i is = ready_of (look x.shelf.objects o c) i is

prepared_of : (m : Option KeyEntry) → IsTrue (stays_of m) → IsSome m
prepared_of None is = absurd cc
prepared_of (Some e) is = refl

pub ready_prepared : (x : Index) (o c : ℕ) → IsReadyKey x o c → IsPrepared x o c
ready_prepared x o c is = prepared_of (look x.shelf.objects o c) is

-- no two pages of a buffer are of one key
pub buffer_apart : (x : Index) (pages : List FreshPage) → Holding x pages → AreApart pages
buffer_apart x pages b o c i j a d =
    let both : presents.InBuffer i ≡ presents.InBuffer j = sym (b.reported o c i a) ∙ b.reported o c j d in
    cc

-- the page at a place, of its key
pub here : (pages : List FreshPage) (i : ℕ) (p : FreshPage) → slice_get pages i ≡ Some p → IsPageOf pages p.key.object p.key.chunk i
here pages i p is = record { page = p; there = is; object = refl; chunk = refl }

-- the page there is the one that is of the key
pub page_is : (pages : List FreshPage) (o c i : ℕ) (p : FreshPage) → slice_get pages i ≡ Some p → (of : IsPageOf pages o c i) → of.page ≡ p
page_is pages o c i p is of = let both : Some of.page ≡ Some p = sym of.there ∙ is in cc

pub object_is : (pages : List FreshPage) (o c i : ℕ) (p : FreshPage) → slice_get pages i ≡ Some p → IsPageOf pages o c i → o ≡ p.key.object
object_is pages o c i p is of = sym of.object ∙ ap (λ (q : FreshPage). q.key.object) (page_is pages o c i p is of)

pub chunk_is : (pages : List FreshPage) (o c i : ℕ) (p : FreshPage) → slice_get pages i ≡ Some p → IsPageOf pages o c i → c ≡ p.key.chunk
chunk_is pages o c i p is of = sym of.chunk ∙ ap (λ (q : FreshPage). q.key.chunk) (page_is pages o c i p is of)

-- the data of a key, by what is present of it
pub data_same : (flash : Flash) (old new : List FreshPage) (p : Present) → ((i : ℕ) → p ≡ presents.InBuffer i → slice_get new i ≡ slice_get old i) → data_by flash new p ≡ data_by flash old p
data_same flash old new presents.Absent same = refl
data_same flash old new (presents.OnFlash k) same = refl
data_same flash old new (presents.InBuffer i) same = ap (λ (m : Option FreshPage). option_map (λ (p : FreshPage). p.bytes.items) m) (same i refl)

-- a key that is not in the buffer lacks a page there
pub lacks_one : (p : Present) → ((i : ℕ) → p ≡ presents.InBuffer i → ⊥) → lacks p ≡ 1
lacks_one presents.Absent none = refl
lacks_one (presents.OnFlash k) none = refl
lacks_one (presents.InBuffer i) none = absurd (none i refl)

pub lacks_none : (p : Present) (i : ℕ) → lacks p ≡ 1 → p ≡ presents.InBuffer i → ⊥
lacks_none p i one is = let zero : lacks p ≡ 0 = ap lacks is in omega (arith, one, zero)

pub lacks_few : (p : Present) → lacks p ≤ 1
lacks_few presents.Absent = omega arith
lacks_few (presents.OnFlash k) = omega arith
lacks_few (presents.InBuffer i) = omega arith

-- the new keys of pages, where what is present of each changes so
pub new_same : (x y : Index) (ps : List FreshPage) → ((o c i : ℕ) → IsPageOf ps o c i → lacks (present y o c) ≡ lacks (present x o c)) → new_keys y ps ≡ new_keys x ps
new_same x y [] same = refl
new_same x y (p ∷ ps) same =
    let first : lacks (present y p.key.object p.key.chunk) ≡ lacks (present x p.key.object p.key.chunk) = same p.key.object p.key.chunk 0 (here (p ∷ ps) 0 p refl) in
    let rest : new_keys y ps ≡ new_keys x ps = new_same x y ps (λ o c i of. same o c (suc i) (record { page = of.page; there = of.there; object = of.object; chunk = of.chunk })) in
    omega (arith, first, rest)

pub apart_tail : (p : FreshPage) (ps : List FreshPage) → AreApart (p ∷ ps) → AreApart ps
apart_tail p ps apart o c i j a b =
    let n : suc i ≡ suc j = apart o c (suc i) (suc j) (record { page = a.page; there = a.there; object = a.object; chunk = a.chunk }) (record { page = b.page; there = b.there; object = b.object; chunk = b.chunk }) in
    omega (arith, n)

-- where one key's page goes, there is one new key more at most
pub new_less : (x y : Index) (o c : ℕ) (ps : List FreshPage) → AreApart ps → ((k l : ℕ) → Differs o c k l → lacks (present y k l) ≡ lacks (present x k l)) → new_keys y ps ≤ new_keys x ps + 1
new_less x y o c [] apart same = omega arith
new_less x y o c (p ∷ ps) apart same = elim (key_cases o c p.key.object p.key.chunk) [
  | inr differs ↦
      let first : lacks (present y p.key.object p.key.chunk) ≡ lacks (present x p.key.object p.key.chunk) = same _ _ differs in
      let rest : new_keys y ps ≤ new_keys x ps + 1 = new_less x y o c ps (apart_tail p ps apart) same in
      omega (arith, first, rest)
  | inl is ↦
      let first : lacks (present y p.key.object p.key.chunk) ≤ 1 = lacks_few _ in
      let rest : new_keys y ps ≡ new_keys x ps = new_same x y ps (λ k l i of. same k l (other is k l i of)) in
      omega (arith, first, rest)
] where
  other : (p.key.object ≡ o) × (p.key.chunk ≡ c) → (k l i : ℕ) → IsPageOf ps k l i → Differs o c k l
  other is k l i of = elim (key_cases o c k l) [
    | inr differs ↦ differs
    | inl same' ↦ absurd (
        let two : 0 ≡ suc i = apart k l 0 (suc i) (record { page = p; there = refl; object = is.0 ∙ sym same'.0; chunk = is.1 ∙ sym same'.1 }) (record { page = of.page; there = of.there; object = of.object; chunk = of.chunk }) in
        omega (arith, two))
  ]
