-- Changes of a whole object: its first page, and its cut.
use Rattle.std.specs.Prelude.{◌≡◌, ◌≤◌, ℕ, zero, suc, List, [], ◌∷◌, Some, None, slice_get}
use Rattle.std.proofs.Common.{sym, ◌∙◌, ap, inl, inr, arith}
use Rattle.std.proofs.lemmas.Bool.{cond-true, cond-false}
use Rattle.std.specs.FinMap as map
use Rattle.posix_profile.specs.State.{Objects}
use Rattle.volume_terms.specs.Sizes.{Sizes}
use Rattle.pages.specs.Changes.{AreApart, AreSized, IsOnlyOf}
use Rattle.pages.specs.Maps.{PageMap, is_of, with_pages, without_cuts, after_change, IsPageOf, IsCut}
use Rattle.pages.specs.laws.Changes.{others_keep}
use Rattle.pages.specs.laws.Maps.{key_cases, gone}
use Rattle.flash_tree.specs.declared.place.FreshPage.{FreshPage}
use Rattle.pages.specs.declared.change.Cut.{Cut}
use Rattle.pages.specs.declared.change.Change.{Change}
use Rattle.paged_objects.specs.Holding.{HoldsObjects}
use Rattle.paged_objects.specs.laws.Holding.{take_object}

module _ (change : Change) (m : PageMap) (o : ℕ) (p : FreshPage) (pages : change.pages.items ≡ p ∷ []) (cuts : change.cuts.items ≡ []) (object : p.key.object ≡ o) (chunk : p.key.chunk ≡ 0) where
  is_as : (c : ℕ) → after_change change m o c ≡ with_pages (p ∷ []) m o c
  is_as c =
      ap (λ (ps : List FreshPage). with_pages ps (without_cuts change.cuts.items m) o c) pages
      ∙ ap (λ (xs : List Cut). with_pages (p ∷ []) (without_cuts xs m) o c) cuts

  -- chunk 0 of the object has the page
  pub first_there : after_change change m o 0 ≡ Some p.bytes.items
  first_there = elim (key_cases p o 0) [
    | inl here ↦ is_as 0 ∙ cond-true (is_of p o 0) (Some p.bytes.items) (m o 0) here.0
    | inr other ↦ absurd (other.1 object chunk)
  ]

  -- and each other chunk what was there
  pub others_there : (c : ℕ) → 1 ≤ c → after_change change m o c ≡ m o c
  others_there c some = elim (key_cases p o c) [
    | inl here ↦ absurd (omega (arith, here.2, chunk, some))
    | inr other ↦ is_as c ∙ cond-false (is_of p o c) (Some p.bytes.items) (m o c) other.0
  ]

-- with its cut alone an object goes
pub holds_without : (change : Change) (o : ℕ) → IsOnlyOf change o → change.pages.items ≡ [] → (cut : Cut) → change.cuts.items ≡ cut ∷ [] → cut.object ≡ o → cut.from ≡ 0
    → (z : Sizes) (m : PageMap) (objects : Objects) → HoldsObjects z m objects → HoldsObjects z (after_change change m) (map.remove objects o)
holds_without change o only pages cut cuts object from z m objects holds =
    take_object z m (after_change change m) objects holds o (λ q c other. others_keep change o only m q c other)
    (λ c. gone change m o c 0 (λ k is. let no' : None ≡ Some is.page = sym (ap (λ (ps : List FreshPage). slice_get ps k) pages) ∙ is.there in absurd cc)
    (record { cut = cut; there = ap (λ (xs : List Cut). slice_get xs 0) cuts; object = object; chunk = omega (arith, from) }))

-- no pages are apart, and of any size
pub none_apart : (pages : List FreshPage) → pages ≡ [] → AreApart pages
none_apart pages none o c i j a b = let no' : None ≡ Some a.page = sym (ap (λ (ps : List FreshPage). slice_get ps i) none) ∙ a.there in absurd cc

pub none_sized : (pages : List FreshPage) (bytes : ℕ) → pages ≡ [] → AreSized pages bytes
none_sized pages bytes none i p is = let no' : None ≡ Some p = sym (ap (λ (ps : List FreshPage). slice_get ps i) none) ∙ is in absurd cc

-- what is of no pages, and what one cut is of
pub nothing_of : (pages : List FreshPage) (o c i : ℕ) → pages ≡ [] → IsPageOf pages o c i → ⊥
nothing_of pages o c i none is = let no' : None ≡ Some is.page = sym (ap (λ (ps : List FreshPage). slice_get ps i) none) ∙ is.there in cc

first_cut : (cut : Cut) (i : ℕ) (it : Cut) → slice_get (cut ∷ []) i ≡ Some it → it ≡ cut
first_cut cut zero it is = cc
first_cut cut (suc i) it is = absurd cc

pub one_cut : (cuts : List Cut) (cut : Cut) (o c i : ℕ) → cuts ≡ cut ∷ [] → IsCut cuts o c i → o ≡ cut.object
one_cut cuts cut o c i one is = sym is.object ∙ ap (λ (x : Cut). x.object) (first_cut cut i is.cut (sym (ap (λ (xs : List Cut). slice_get xs i) one) ∙ is.there))

-- a change of one cut is of its object alone
pub only_one_cut : (change : Change) (cut : Cut) → change.pages.items ≡ [] → change.cuts.items ≡ cut ∷ [] → IsOnlyOf change cut.object
only_one_cut change cut pages cuts = record {
  pages = λ o c i is. absurd (nothing_of change.pages.items o c i pages is);
  cuts = λ o c i is. one_cut change.cuts.items cut o c i cuts is;
}
