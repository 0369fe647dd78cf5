-- Which keys the pages of a change are of.
use Rattle.std.specs.Prelude.{◌≡◌, ◌⊎◌, ◌<◌, ℕ, zero, suc, List, [], ◌∷◌, Some, None}
use Rattle.std.proofs.Common.{refl, sym, ◌∙◌, ap, inl, inr, arith}
use Rattle.std.proofs.lemmas.Bool.{cond-true, cond-false}
use Rattle.flash_tree.specs.declared.place.FreshPage.{FreshPage}
use Rattle.pages.specs.Maps.{PageMap, no_pages, takes, without_cuts, after_change, IsPageOf, IsFirstOf}
use Rattle.pages.specs.laws.Maps.{key_cases, cut_cases, page_elsewhere, first_here}
use Rattle.pages.specs.declared.change.Change.{Change}
use Rattle.pages.specs.declared.change.Cut.{Cut}
use Rattle.directories.specs.Writes.{HasKey}

other_first : (p : FreshPage) (ps : List FreshPage) (o c : ℕ) → (p.key.object ≡ o → p.key.chunk ≡ c → ⊥) → IsPageOf (p ∷ ps) o c 0 → ⊥
other_first p ps o c other of =
    let one : p ≡ of.page = cc in
    other (ap (λ (x : FreshPage). x.key.object) one ∙ of.object) (ap (λ (x : FreshPage). x.key.chunk) one ∙ of.chunk)

none_before : (p : FreshPage) (ps : List FreshPage) (o c : ℕ) → (p.key.object ≡ o → p.key.chunk ≡ c → ⊥) → (i : ℕ) → ((k : ℕ) → k < i → IsPageOf ps o c k → ⊥) → (k : ℕ) → k < suc i → IsPageOf (p ∷ ps) o c k → ⊥
none_before p ps o c other i none zero less of = other_first p ps o c other of
none_before p ps o c other i none (suc k) less of = none k (omega (arith, less)) (record { page = of.page; there = of.there; object = of.object; chunk = of.chunk })

none_behind : (p : FreshPage) (ps : List FreshPage) (o c : ℕ) → (p.key.object ≡ o → p.key.chunk ≡ c → ⊥) → ((i : ℕ) → IsPageOf ps o c i → ⊥) → (i : ℕ) → IsPageOf (p ∷ ps) o c i → ⊥
none_behind p ps o c other none zero of = other_first p ps o c other of
none_behind p ps o c other none (suc k) of = none k (record { page = of.page; there = of.there; object = of.object; chunk = of.chunk })

-- a page of a list is of the key, or none is
pub first_or_none : (pages : List FreshPage) (o c : ℕ) → ((i : ℕ) × IsFirstOf pages o c i) ⊎ ((i : ℕ) → IsPageOf pages o c i → ⊥)
first_or_none [] o c = inr (λ i of. let two : None ≡ Some of.page = of.there in absurd cc)
first_or_none (p ∷ ps) o c = elim (key_cases p o c) [
  | inl is ↦ inl (0, (record { page = p; there = refl; object = is.1; chunk = is.2 }, λ k less. absurd (omega (arith, less))))
  | inr other ↦ elim (first_or_none ps o c) [
    | inl x ↦ inl (suc x.0, (record { page = x.1.0.page; there = x.1.0.there; object = x.1.0.object; chunk = x.1.0.chunk }, none_before p ps o c other.1 x.0 x.1.1))
    | inr none ↦ inr (none_behind p ps o c other.1 none)
  ]
]

-- what is there after cuts was there before
pub cuts_leave : (cuts : List Cut) (m : PageMap) (o c : ℕ) (xs : List ℕ) → without_cuts cuts m o c ≡ Some xs → m o c ≡ Some xs
cuts_leave [] m o c xs is = is
cuts_leave (cut ∷ cuts) m o c xs is = elim (cut_cases cut o c) [
  | inl taken ↦ let two : None ≡ Some xs = sym (cond-true (takes cut o c) None (without_cuts cuts m o c) taken.0) ∙ is in absurd cc
  | inr other ↦ cuts_leave cuts m o c xs (sym (cond-false (takes cut o c) None (without_cuts cuts m o c) other.0) ∙ is)
]

-- ---- a key of the second of two changes is one of both
key_there : (change : Change) (m : PageMap) (o c : ℕ) → HasKey change o c → (xs : List ℕ) × (after_change change m o c ≡ Some xs)
key_there change m o c key = elim (first_or_none change.pages.items o c) [
  | inl x ↦ (x.1.0.page.bytes.items, first_here change.pages.items (without_cuts change.cuts.items m) o c x.0 x.1.0.page x.1.0.there x.1.0.object x.1.0.chunk x.1.1)
  | inr none ↦ absurd (none key.0 key.1)
]

key_is : (change : Change) (o c : ℕ) (xs : List ℕ) → after_change change no_pages o c ≡ Some xs → HasKey change o c
key_is change o c xs there = elim (first_or_none change.pages.items o c) [
  | inl x ↦ (x.0, x.1.0)
  | inr none ↦
      let two : None ≡ Some xs = cuts_leave change.cuts.items no_pages o c xs (sym (page_elsewhere change.pages.items (without_cuts change.cuts.items no_pages) o c none) ∙ there) in
      absurd cc
]

pub key_both : (first second both : Change) → ((m : PageMap) (o c : ℕ) → after_change both m o c ≡ after_change second (after_change first m) o c) → (o c : ℕ) → HasKey second o c → HasKey both o c
key_both first second both same o c key =
    let x = key_there second (after_change first no_pages) o c key in
    key_is both o c x.0 (same no_pages o c ∙ x.1)
