-- The pages after a change: of a key that it writes its page, of another that it cuts none, and of a third what was there.
use Rattle.std.specs.Prelude.{◌≡◌, ◌≢◌, ◌⊎◌, ◌<◌, ◌≤◌, ℕ, zero, suc, true, false, List, [], ◌∷◌, Some, None, slice_get}
use Rattle.std.proofs.Common.{refl, sym, ◌∙◌, ap, subst, inl, inr, arith}
use Rattle.std.proofs.lemmas.Bool.{cases_eq, cases_lt, eq-eqb, ne_eqb, le-leb, lt-leb, and_from, and_left, and_right, cond-true, cond-false}
use Rattle.pages.specs.Maps.{PageMap, is_of, with_pages, takes, without_cuts, after_change, IsPageOf, IsCut}
use Rattle.pages.specs.Changes.{AreApart}
use Rattle.flash_tree.specs.declared.place.FreshPage.{FreshPage}
use Rattle.pages.specs.declared.change.Cut.{Cut}
use Rattle.pages.specs.declared.change.Change.{Change}

-- a page is of a key or not
pub key_cases : (p : FreshPage) (o c : ℕ) → ((is_of p o c ≡ true) × (p.key.object ≡ o) × (p.key.chunk ≡ c)) ⊎ ((is_of p o c ≡ false) × (p.key.object ≡ o → p.key.chunk ≢ c))
key_cases p o c = elim (cases_eq p.key.object o) [
  | inl a ↦ elim (cases_eq p.key.chunk c) [
    | inl b ↦ inl (and_from _ _ (eq-eqb _ _ a) (eq-eqb _ _ b), a, b)
    | inr b ↦ inr (and_right _ _ (ne_eqb _ _ b), λ same. b)
  ]
  | inr a ↦ inr (and_left _ _ (ne_eqb _ _ a), λ same. absurd (a same))
]

-- a cut takes a key's page or not
pub cut_cases : (x : Cut) (o c : ℕ) → ((takes x o c ≡ true) × (x.object ≡ o) × (x.from ≤ c)) ⊎ ((takes x o c ≡ false) × (x.object ≡ o → x.from ≤ c → ⊥))
cut_cases x o c = elim (cases_eq x.object o) [
  | inl a ↦ elim (cases_lt c x.from) [
    | inr b ↦ inl (and_from _ _ (eq-eqb _ _ a) (le-leb _ _ b), a, b)
    | inl b ↦ inr (and_right _ _ (lt-leb _ _ b), λ same le. omega (arith, b, le))
  ]
  | inr a ↦ inr (and_left _ _ (ne_eqb _ _ a), λ same. absurd (a same))
]

-- of each key, the pages have the one that is of it
pub page_here : (pages : List FreshPage) (m : PageMap) → AreApart pages → (i : ℕ) (p : FreshPage) → slice_get pages i ≡ Some p → with_pages pages m p.key.object p.key.chunk ≡ Some p.bytes.items
page_here [] m apart i p is = absurd cc
page_here (q ∷ ps) m apart zero p is =
    let one : q ≡ p = cc in
    cond-true (is_of q p.key.object p.key.chunk) _ _ (and_from _ _ (eq-eqb _ _ (ap (λ (x : FreshPage). x.key.object) one)) (eq-eqb _ _ (ap (λ (x : FreshPage). x.key.chunk) one)))
    ∙ ap (λ (x : FreshPage). Some x.bytes.items) one
page_here (q ∷ ps) m apart (suc i) p is = elim (key_cases q p.key.object p.key.chunk) [
  | inl of ↦
      let first : 0 ≡ suc i = apart p.key.object p.key.chunk 0 (suc i) (record { page = q; there = refl; object = of.1; chunk = of.2 }) (record { page = p; there = is; object = refl; chunk = refl }) in
      absurd (omega (arith, first))
  | inr other ↦ cond-false (is_of q p.key.object p.key.chunk) _ _ other.0 ∙ page_here ps m (λ o c j k a b.
      let n : suc j ≡ suc k = apart o c (suc j) (suc k) (record { page = a.page; there = a.there; object = a.object; chunk = a.chunk }) (record { page = b.page; there = b.there; object = b.object; chunk = b.chunk }) in
      omega (arith, n)) i p is
]

-- a key that no page is of has what was there
pub page_elsewhere : (pages : List FreshPage) (m : PageMap) (o c : ℕ) → ((i : ℕ) → IsPageOf pages o c i → ⊥) → with_pages pages m o c ≡ m o c
page_elsewhere [] m o c none = refl
page_elsewhere (q ∷ ps) m o c none = elim (key_cases q o c) [
  | inl of ↦ absurd (none 0 (record { page = q; there = refl; object = of.1; chunk = of.2 }))
  | inr other ↦ cond-false (is_of q o c) _ _ other.0
      ∙ page_elsewhere ps m o c (λ i of. none (suc i) (record { page = of.page; there = of.there; object = of.object; chunk = of.chunk }))
]

-- the first page of a key is the key's
pub first_here : (pages : List FreshPage) (m : PageMap) (o c i : ℕ) (p : FreshPage) → slice_get pages i ≡ Some p → p.key.object ≡ o → p.key.chunk ≡ c → ((k : ℕ) → k < i → IsPageOf pages o c k → ⊥)
    → with_pages pages m o c ≡ Some p.bytes.items
first_here [] m o c i p is object chunk none = absurd cc
first_here (q ∷ ps) m o c zero p is object chunk none =
    let one : q ≡ p = cc in
    cond-true (is_of q o c) _ _ (and_from _ _ (eq-eqb _ _ (ap (λ (x : FreshPage). x.key.object) one ∙ object)) (eq-eqb _ _ (ap (λ (x : FreshPage). x.key.chunk) one ∙ chunk)))
    ∙ ap (λ (x : FreshPage). Some x.bytes.items) one
first_here (q ∷ ps) m o c (suc i) p is object chunk none = elim (key_cases q o c) [
  | inl of ↦ absurd (none 0 (omega arith) (record { page = q; there = refl; object = of.1; chunk = of.2 }))
  | inr other ↦ cond-false (is_of q o c) _ _ other.0
      ∙ first_here ps m o c i p is object chunk (λ k less of. none (suc k) (omega (arith, less)) (record { page = of.page; there = of.there; object = of.object; chunk = of.chunk }))
]

-- a key that is cut has no page
pub cut_here : (cuts : List Cut) (m : PageMap) (o c i : ℕ) → IsCut cuts o c i → without_cuts cuts m o c ≡ None
cut_here [] m o c i is = let no' : None ≡ Some is.cut = is.there in absurd cc
cut_here (x ∷ xs) m o c zero is =
    let at : Some x ≡ Some is.cut = is.there in
    let one : x ≡ is.cut = cc in
    cond-true (takes x o c) _ _ (and_from _ _ (eq-eqb _ _ (ap (λ (y : Cut). y.object) one ∙ is.object)) (le-leb _ _ (subst (λ (y : Cut). y.from ≤ c) (sym one) is.chunk)))
cut_here (x ∷ xs) m o c (suc i) is = elim (cut_cases x o c) [
  | inl takes_it ↦ cond-true (takes x o c) _ _ takes_it.0
  | inr other ↦ cond-false (takes x o c) _ _ other.0 ∙ cut_here xs m o c i (record { cut = is.cut; there = is.there; object = is.object; chunk = is.chunk })
]

-- another keeps what was there
pub cut_elsewhere : (cuts : List Cut) (m : PageMap) (o c : ℕ) → ((i : ℕ) → IsCut cuts o c i → ⊥) → without_cuts cuts m o c ≡ m o c
cut_elsewhere [] m o c none = refl
cut_elsewhere (x ∷ xs) m o c none = elim (cut_cases x o c) [
  | inl takes_it ↦ absurd (none 0 (record { cut = x; there = refl; object = takes_it.1; chunk = takes_it.2 }))
  | inr other ↦ cond-false (takes x o c) _ _ other.0
      ∙ cut_elsewhere xs m o c (λ i is. none (suc i) (record { cut = is.cut; there = is.there; object = is.object; chunk = is.chunk }))
]

module _ (change : Change) (m : PageMap) where
  -- a page of the change is there afterwards
  pub here : AreApart change.pages.items → (i : ℕ) (p : FreshPage) → slice_get change.pages.items i ≡ Some p → after_change change m p.key.object p.key.chunk ≡ Some p.bytes.items
  here = page_here change.pages.items (without_cuts change.cuts.items m)

  -- what is cut and not written is gone
  pub gone : (o c i : ℕ) → ((k : ℕ) → IsPageOf change.pages.items o c k → ⊥) → IsCut change.cuts.items o c i → after_change change m o c ≡ None
  gone o c i none is = page_elsewhere change.pages.items (without_cuts change.cuts.items m) o c none ∙ cut_here change.cuts.items m o c i is

  -- a key that is neither written nor cut keeps its page, or has none as before
  pub elsewhere : (o c : ℕ) → ((k : ℕ) → IsPageOf change.pages.items o c k → ⊥) → ((k : ℕ) → IsCut change.cuts.items o c k → ⊥) → after_change change m o c ≡ m o c
  elsewhere o c none uncut = page_elsewhere change.pages.items (without_cuts change.cuts.items m) o c none ∙ cut_elsewhere change.cuts.items m o c uncut
