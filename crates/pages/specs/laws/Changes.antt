-- Changes one after the other.
use Rattle.std.specs.Prelude.{◌≡◌, ◌≢◌, ℕ, List, [], ◌∷◌, ◌++◌, Some, None, cond}
use Rattle.std.proofs.Common.{refl, sym, ◌∙◌, ap, inl, inr}
use Rattle.std.proofs.lemmas.Bool.{cases_eq, cond-true, cond-false}
use Rattle.pages.specs.Maps.{PageMap, is_of, with_pages, takes, without_cuts, after_change}
use Rattle.pages.specs.laws.Maps.{cut_cases, elsewhere}
use Rattle.pages.specs.Changes.{IsNothing, IsOnlyOf}
use Rattle.flash_tree.specs.declared.place.FreshPage.{FreshPage}
use Rattle.pages.specs.declared.change.Cut.{Cut}
use Rattle.pages.specs.declared.change.Change.{Change}

-- pages behind pages: the front ones win
pub pages_append : (ps qs : List FreshPage) (m : PageMap) (o c : ℕ) → with_pages (ps ++ qs) m o c ≡ with_pages ps (with_pages qs m) o c
pages_append [] qs m o c = refl
pages_append (p ∷ ps) qs m o c = ap (cond (is_of p o c) (Some p.bytes.items)) (pages_append ps qs m o c)

-- cuts and cuts
pub cuts_append : (xs ys : List Cut) (m : PageMap) (o c : ℕ) → without_cuts (xs ++ ys) m o c ≡ without_cuts xs (without_cuts ys m) o c
cuts_append [] ys m o c = refl
cuts_append (x ∷ xs) ys m o c = ap (cond (takes x o c) None) (cuts_append xs ys m o c)

-- the pages of a key depend on what was there of that key alone
pub pages_same : (ps : List FreshPage) (m n : PageMap) (o c : ℕ) → m o c ≡ n o c → with_pages ps m o c ≡ with_pages ps n o c
pages_same [] m n o c is = is
pages_same (p ∷ ps) m n o c is = ap (cond (is_of p o c) (Some p.bytes.items)) (pages_same ps m n o c is)

pub cuts_same : (xs : List Cut) (m n : PageMap) (o c : ℕ) → m o c ≡ n o c → without_cuts xs m o c ≡ without_cuts xs n o c
cuts_same [] m n o c is = is
cuts_same (x ∷ xs) m n o c is = ap (cond (takes x o c) None) (cuts_same xs m n o c is)

pub changed_same : (change : Change) (m n : PageMap) (o c : ℕ) → m o c ≡ n o c → after_change change m o c ≡ after_change change n o c
changed_same change m n o c is = pages_same change.pages.items _ _ o c (cuts_same change.cuts.items m n o c is)

-- where nothing is, nothing is cut
pub cuts_nothing : (xs : List Cut) (m : PageMap) (o c : ℕ) → m o c ≡ None → without_cuts xs m o c ≡ None
cuts_nothing [] m o c is = is
cuts_nothing (x ∷ xs) m o c is = elim (cut_cases x o c) [
  | inl at ↦ cond-true (takes x o c) _ _ at.0
  | inr other ↦ cond-false (takes x o c) _ _ other.0 ∙ cuts_nothing xs m o c is
]

-- of any other object nothing changes
pub others_keep : (change : Change) (object : ℕ) → IsOnlyOf change object → (m : PageMap) (o c : ℕ) → o ≢ object → after_change change m o c ≡ m o c
others_keep change object within m o c other = elsewhere change m o c (λ k of. other (within.pages o c k of)) (λ k is. other (within.cuts o c k is))

-- what changes nothing changes nothing
pub nothing_changes : (change : Change) → IsNothing change → (m : PageMap) (o c : ℕ) → after_change change m o c ≡ m o c
nothing_changes change is m o c =
    ap (λ (ps : List FreshPage). with_pages ps (without_cuts change.cuts.items m) o c) is.pages ∙ ap (λ (xs : List Cut). without_cuts xs m o c) is.cuts

-- two changes of different objects commute
pub changes_commute : (a b : Change) (x y : ℕ) → x ≢ y → IsOnlyOf a x → IsOnlyOf b y → (m : PageMap) (o c : ℕ) → after_change a (after_change b m) o c ≡ after_change b (after_change a m) o c
changes_commute a b x y apart in_a in_b m o c = elim (cases_eq o x) [
  | inl here ↦
      let other : o ≢ y = λ same. apart (sym here ∙ same) in
      changed_same a (after_change b m) m o c (others_keep b y in_b m o c other) ∙ sym (others_keep b y in_b (after_change a m) o c other)
  | inr other ↦ others_keep a x in_a (after_change b m) o c other ∙ changed_same b m (after_change a m) o c (sym (others_keep a x in_a m o c other))
]
