-- A list that was gone through wholly: each object on it is there, what it names is on the list, and it is led to from the first.
use Rattle.std.specs.Prelude.{◌≡◌, ◌<◌, ℕ, zero, suc, ◌+◌, List, [], ◌∷◌, ◌++◌, length, slice_get, Some, nat_eq}
use Rattle.std.specs.List.{list_any}
use Rattle.std.proofs.Common.{refl, sym, ◌∙◌, ap, subst, inl, inr, arith}
use Rattle.std.proofs.lemmas.Bool.{cases_Bool, cases_lt, cond-true, cond-false}
use Rattle.std.proofs.lemmas.Option.{slice_get_within}
use Rattle.volume_terms.specs.Sizes.{Sizes}
use Rattle.volume_terms.specs.laws.List.{place_of, push_last, slice_get_there}
use Rattle.flash_tree.specs.Tree.{NewestMap}
use Rattle.flash_tree.specs.Mount.{Leads, Finds, with_new, ListEnd, Wrongly, Wholly, GoesThrough, ends, stops, goes}
use Rattle.flash_tree.specs.laws.Shown.{Each, each_with_new}
use Rattle.flash_tree.specs.laws.WalkExists.{IsOnce, once_with_new, stays_with_new}

-- the number is on the list
abbrev pub IsOn : List ℕ → ℕ → Type 0
IsOn list o = (i : ℕ) × (slice_get list i ≡ Some o)

-- what is added to a list is on it
pub named_on : (list named : List ℕ) → Each (IsOn (with_new list named)) named
named_on list [] k c is = absurd cc
named_on list (o ∷ named) k c is = elim (cases_Bool (list_any (nat_eq o) list)) [
  | inl on ↦ subst (λ l. IsOn l c) (sym (cond-true (list_any (nat_eq o) list) (with_new list named) (with_new (list ++ o ∷ []) named) on))
      (go list k is (place_of list o on) (λ j at. named_on list named j c at))
  | inr off ↦ subst (λ l. IsOn l c) (sym (cond-false (list_any (nat_eq o) list) (with_new list named) (with_new (list ++ o ∷ []) named) off))
      (go (list ++ o ∷ []) k is (length list, push_last list o) (λ j at. named_on (list ++ o ∷ []) named j c at))
] where
  go : (l : List ℕ) (k : ℕ) → slice_get (o ∷ named) k ≡ Some c → IsOn l o → ((j : ℕ) → slice_get named j ≡ Some c → IsOn (with_new l named) c) → IsOn (with_new l named) c
  go l zero is at rest = let same : o ≡ c = cc in (at.0, stays_with_new l named at.0 c (at.1 ∙ ap Some same))
  go l (suc j) is at rest = rest j is

module _ (z : Sizes) (m : NewestMap) (first : ℕ) where
  -- the object is the first, or one that is there names it
  pub data IsLedTo : ℕ → Type 0 where
    is_first : IsLedTo first
    is_named : {o c : ℕ} (named : List ℕ) (k : ℕ) → IsLedTo o → Finds z m o (Leads named) → slice_get named k ≡ Some c → IsLedTo c

  -- the object is there, and what it names is on the list
  abbrev pub IsThereOn : List ℕ → ℕ → Type 0
  IsThereOn list o = (named : List ℕ) × Finds z m o (Leads named) × Each (IsOn list) named

  pub record IsWholeList (list : List ℕ) : Type 0 where
    pub there : Each (IsThereOn list) list
    pub led : Each IsLedTo list
    pub once : IsOnce list
    pub begins : slice_get list 0 ≡ Some first

  -- the first n are there
  abbrev FirstThere : List ℕ → ℕ → Type 0
  FirstThere list n = (i o : ℕ) → i < n → slice_get list i ≡ Some o → IsThereOn list o

  still_on : (list named : List ℕ) (o : ℕ) → IsOn list o → IsOn (with_new list named) o
  still_on list named o (i, at) = (i, stays_with_new list named i o at)

  first_more : (list named : List ℕ) (n o : ℕ) → slice_get list n ≡ Some o → Finds z m o (Leads named) → FirstThere list n → FirstThere (with_new list named) (n + 1)
  first_more list named n o at lookups there i x lt is = elim (cases_lt i n) [
    | inl before ↦
        let y = slice_get_there list i (let within = slice_get_within list n o at in omega arith) in
        let same : Some y.0 ≡ Some x = sym (stays_with_new list named i y.0 y.1) ∙ is in
        let one : y.0 ≡ x = cc in
        let t = there i x before (y.1 ∙ ap Some one) in
        (t.0, t.1, λ k c e. still_on list named c (t.2 k c e))
    | inr after ↦
        let here : i ≡ n = omega arith in
        let same : Some o ≡ Some x = sym (stays_with_new list named n o at) ∙ ap (slice_get (with_new list named)) (sym here) ∙ is in
        let one : o ≡ x = cc in
        subst (IsThereOn (with_new list named)) one (named, lookups, named_on list named)
  ]

  -- how a going through ends, from what holds of the list so far
  abbrev EndsWhole : ListEnd → Type 0
  EndsWhole (Wrongly wrong) = Unit {0}
  EndsWhole (Wholly list) = IsWholeList list

  pub ends_whole : (list : List ℕ) (n : ℕ) (end : ListEnd) → FirstThere list n → Each IsLedTo list → IsOnce list → slice_get list 0 ≡ Some first → GoesThrough z m list n end → EndsWhole end
  ends_whole list n end there led once begins (ends len) = record {
    there = λ i o is. there i o (let within = slice_get_within list i o is in omega arith) is;
    led = led;
    once = once;
    begins = begins;
  }
  ends_whole list n end there led once begins (stops o wrong is lookups) = tt
  ends_whole list n end there led once begins (goes o named is lookups on) =
      ends_whole (with_new list named) (n + 1) end (first_more list named n o is lookups there)
      (each_with_new IsLedTo list named led (λ k c at. is_named named k (led n o is) lookups at))
      (once_with_new list named once) (stays_with_new list named 0 first begins) on

  pub whole_list : (list : List ℕ) → GoesThrough z m (first ∷ []) 0 (Wholly list) → IsWholeList list
  whole_list list on = ends_whole (first ∷ []) 0 (Wholly list) (λ i o lt is. absurd (omega arith)) one_led once_first refl on where
    one_led : Each IsLedTo (first ∷ [])
    one_led zero c is = let same : first ≡ c = cc in subst IsLedTo same is_first
    one_led (suc k) c is = absurd cc

    once_first : IsOnce (first ∷ [])
    once_first zero zero o a b = refl
    once_first zero (suc j) o a b = absurd cc
    once_first (suc i) j o a b = absurd cc
