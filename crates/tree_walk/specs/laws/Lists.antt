-- Lists of objects: those that are named are put behind the others.
use Rattle.std.specs.Prelude.{◌≡◌, ◌⊎◌, ◌↔◌, ◌<◌, ◌||◌, ℕ, zero, suc, Bool, true, false, List, [], ◌∷◌, ◌++◌, length, slice_get, nat_eq, Some, if◌then◌else◌}
use Rattle.std.specs.List.{list_any}
use Rattle.std.proofs.Common.{refl, sym, ◌∙◌, ap, subst, inl, inr, arith, eq-eqb}
use Rattle.std.proofs.lemmas.Bool.{cases_Bool, cond-true, cond-false, true≢false, or_right}
use Rattle.volume_terms.specs.laws.List.{get_push, push_before, push_last, place_of}
use Rattle.flash_tree.specs.Mount.{with_new}
use Rattle.tree_walk.specs.Walks.{IsOn, IsOnce, IsAgain}

-- ---- whether a number is on a list

pub on_of : (list : List ℕ) (o : ℕ) → list_any (nat_eq o) list ≡ true → IsOn list o
on_of list o is = place_of list o is

pub of_on : (list : List ℕ) (o i : ℕ) → slice_get list i ≡ Some o → list_any (nat_eq o) list ≡ true
of_on [] o i is = absurd cc
of_on (x ∷ list) o zero is = let same : x ≡ o = cc in ap (λ b. b || list_any (nat_eq o) list) (eq-eqb o x (sym same))
of_on (x ∷ list) o (suc i) is = or_right (nat_eq o x) (list_any (nat_eq o) list) (of_on list o i is)

pub not_on : (list : List ℕ) (o : ℕ) → list_any (nat_eq o) list ≡ false → IsOn list o → ⊥
not_on list o not (i, at) = true≢false (sym (of_on list o i at) ∙ not)

-- ---- the list with those at its end that are not on it yet

once_push : (list : List ℕ) (x : ℕ) → list_any (nat_eq x) list ≡ false → IsOnce list → IsOnce (list ++ x ∷ [])
once_push list x not once i j o at at' = elim (get_push list x i o at) [
  | inl here ↦ elim (get_push list x j o at') [
    | inl there ↦ once i j o here.1 there.1
    | inr end ↦ absurd (not_on list x not (i, subst (λ y. slice_get list i ≡ Some y) end.1 here.1))
  ]
  | inr end ↦ elim (get_push list x j o at') [
    | inl there ↦ absurd (not_on list x not (j, subst (λ y. slice_get list j ≡ Some y) end.1 there.1))
    | inr end' ↦ end.0 ∙ sym end'.0
  ]
]

-- what the longer list is to the list and to those that are named
pub record IsAdded (list named new : List ℕ) : Type 0 where
  pub stays : (i o : ℕ) → slice_get list i ≡ Some o → slice_get new i ≡ Some o
  pub only : (i o : ℕ) → slice_get new i ≡ Some o → (slice_get list i ≡ Some o) ⊎ ((j : ℕ) × (slice_get named j ≡ Some o))
  pub on : (j o : ℕ) → slice_get named j ≡ Some o → IsOn new o
  pub once : IsOnce list → IsOnce new

added_known : (list : List ℕ) (x : ℕ) (named new : List ℕ) → list_any (nat_eq x) list ≡ true → IsAdded list named new → IsAdded list (x ∷ named) new
added_known list x named new on a = record {
  stays = a.stays;
  only = λ i o is. elim (a.only i o is) [ inl here ↦ inl here | inr (j, at) ↦ inr (suc j, at) ];
  on = there;
  once = a.once;
} where
  there : (j o : ℕ) → slice_get (x ∷ named) j ≡ Some o → IsOn new o
  there zero o is = let at = on_of list x on in (at.0, a.stays at.0 o (at.1 ∙ is))
  there (suc j) o is = a.on j o is

added_new : (list : List ℕ) (x : ℕ) (named new : List ℕ) → list_any (nat_eq x) list ≡ false → IsAdded (list ++ x ∷ []) named new → IsAdded list (x ∷ named) new
added_new list x named new off a = record {
  stays = λ i o is. a.stays i o (push_before list x i o is);
  only = λ i o is. elim (a.only i o is) [
    | inl here ↦ elim (get_push list x i o here) [ inl before ↦ inl before.1 | inr last ↦ inr (zero, ap Some (sym last.1)) ]
    | inr (j, at) ↦ inr (suc j, at)
  ];
  on = there;
  once = λ once. a.once (once_push list x off once);
} where
  there : (j o : ℕ) → slice_get (x ∷ named) j ≡ Some o → IsOn new o
  there zero o is = (length list, a.stays (length list) o (push_last list x ∙ is))
  there (suc j) o is = a.on j o is

pub added : (list named : List ℕ) → IsAdded list named (with_new list named)
added list [] = record { stays = λ i o is. is; only = λ i o is. inl is; on = λ j o is. absurd cc; once = λ once. once }
added list (x ∷ named) = elim (cases_Bool (list_any (nat_eq x) list)) [
  | inl on ↦ subst (IsAdded list (x ∷ named)) (sym (cond-true (list_any (nat_eq x) list) (with_new list named) (with_new (list ++ x ∷ []) named) on)) (added_known list x named (with_new list named) on (added list named))
  | inr off ↦ subst (IsAdded list (x ∷ named)) (sym (cond-false (list_any (nat_eq x) list) (with_new list named) (with_new (list ++ x ∷ []) named) off))
      (added_new list x named (with_new (list ++ x ∷ []) named) off (added (list ++ x ∷ []) named))
]

-- one after the other
pub with_new_first : (list : List ℕ) (x : ℕ) (named : List ℕ) → with_new list (x ∷ named) ≡ with_new (with_new list (x ∷ [])) named
with_new_first list x named = go (list_any (nat_eq x) list) where
  go : (b : Bool) → (if b then with_new list named else with_new (list ++ x ∷ []) named) ≡ with_new (if b then list else (list ++ x ∷ [])) named
  go true = refl
  go false = refl

-- ---- those that are named again

-- after the first one what is on the list is what was there, and that one
pub on_with_first : (list : List ℕ) (y o : ℕ) → IsOn (with_new list (y ∷ [])) o ↔ (IsOn list o ⊎ (o ≡ y))
on_with_first list y o = (to, from) where
  a : IsAdded list (y ∷ []) (with_new list (y ∷ []))
  a = added list (y ∷ [])

  one : (j : ℕ) → slice_get (y ∷ []) j ≡ Some o → o ≡ y
  one zero is = let same : y ≡ o = cc in sym same
  one (suc j) is = absurd cc

  to : IsOn (with_new list (y ∷ [])) o → IsOn list o ⊎ (o ≡ y)
  to (i, at) = elim (a.only i o at) [ inl here ↦ inl (i, here) | inr (j, is) ↦ inr (one j is) ]

  from : IsOn list o ⊎ (o ≡ y) → IsOn (with_new list (y ∷ [])) o
  from (inl (i, at)) = (i, a.stays i o at)
  from (inr same) = a.on zero o (ap Some (sym same))

-- an object is named again where the first one is it and is known, or among those that follow
pub again_first : (list : List ℕ) (y : ℕ) (rest : List ℕ) (o : ℕ) → IsAgain list (y ∷ rest) o ↔ (((o ≡ y) × IsOn list y) ⊎ IsAgain (with_new list (y ∷ [])) rest o)
again_first list y rest o = (λ a. to a.place a.there a.before, from) where
  on : IsOn (with_new list (y ∷ [])) o ↔ (IsOn list o ⊎ (o ≡ y))
  on = on_with_first list y o

  before_rest : (p : ℕ) → IsOn list o ⊎ ((i : ℕ) × (i < suc p) × (slice_get (y ∷ rest) i ≡ Some o)) → IsOn (with_new list (y ∷ [])) o ⊎ ((i : ℕ) × (i < p) × (slice_get rest i ≡ Some o))
  before_rest p (inl known) = inl (on.1 (inl known))
  before_rest p (inr (zero, lt, is)) = let same : y ≡ o = cc in inl (on.1 (inr (sym same)))
  before_rest p (inr (suc i, lt, is)) = inr (i, omega (arith, lt), is)

  to : (p : ℕ) → slice_get (y ∷ rest) p ≡ Some o → IsOn list o ⊎ ((i : ℕ) × (i < p) × (slice_get (y ∷ rest) i ≡ Some o)) → ((o ≡ y) × IsOn list y) ⊎ IsAgain (with_new list (y ∷ [])) rest o
  to zero is (inl known) = let same : y ≡ o = cc in inl (sym same, subst (IsOn list) (sym same) known)
  to zero is (inr (i, lt, at)) = absurd (omega (arith, lt))
  to (suc p) is before = inr (record { place = p; there = is; before = before_rest p before })

  before_all : (p : ℕ) → IsOn (with_new list (y ∷ [])) o ⊎ ((i : ℕ) × (i < p) × (slice_get rest i ≡ Some o)) → IsOn list o ⊎ ((i : ℕ) × (i < suc p) × (slice_get (y ∷ rest) i ≡ Some o))
  before_all p (inl known) = elim (on.0 known) [ inl is ↦ inl is | inr same ↦ inr (zero, omega arith, ap Some (sym same)) ]
  before_all p (inr (i, lt, is)) = inr (suc i, omega (arith, lt), is)

  from : ((o ≡ y) × IsOn list y) ⊎ IsAgain (with_new list (y ∷ [])) rest o → IsAgain list (y ∷ rest) o
  from (inl (same, known)) = record { place = zero; there = ap Some (sym same); before = inl (subst (IsOn list) (sym same) known) }
  from (inr a) = record { place = suc a.place; there = a.there; before = before_all a.place a.before }

pub again_none : (list : List ℕ) (o : ℕ) → IsAgain list [] o → ⊥
again_none list o a = go a.place a.there where
  go : (p : ℕ) → slice_get [] p ≡ Some o → ⊥
  go p is = cc

pub again_one : (list : List ℕ) (y o : ℕ) → IsAgain list (y ∷ []) o ↔ ((o ≡ y) × IsOn list y)
again_one list y o = (to, λ is. (again_first list y [] o).1 (inl is)) where
  to : IsAgain list (y ∷ []) o → (o ≡ y) × IsOn list y
  to a = elim ((again_first list y [] o).0 a) [ inl is ↦ is | inr rest ↦ absurd (again_none _ o rest) ]
