-- Going through a list of objects comes to an end.
use Rattle.std.specs.Prelude.{◌≡◌, ◌≢◌, ◌||◌, ◌<◌, ◌≤◌, ℕ, zero, suc, ◌+◌, Bool, true, false, cond, List, [], ◌∷◌, ◌++◌, length, slice_get, Option, Some, None, nat_eq, unwrap_or}
use Rattle.std.specs.List.{list_any}
use Rattle.std.proofs.Common.{refl, sym, ◌∙◌, ap, subst, inl, inr, arith, eq-eqb}
use Rattle.std.proofs.lemmas.Bool.{cases_Bool, cases_eq, cases_lt, cond-true, cond-false, ne_eqb}
use Rattle.std.proofs.lemmas.Option.{slice_get_within}
use Rattle.page_tags.specs.Headers.{Fields}
use Rattle.volume_terms.specs.Sizes.{Sizes}
use Rattle.volume_terms.specs.laws.List.{get_push, push_before, slice_get_there}
use Rattle.flash_tree.specs.Tree.{NewestMap, IsSingle, HasHeader}
use Rattle.flash_tree.specs.Mount.{Finding, Stops, Leads, Finds, with_new, ListEnd, Wrongly, Wholly, GoesThrough, ends, stops, goes}
use Rattle.flash_tree.specs.laws.Finding.{header_there}
use Rattle.flash_tree.specs.Tree.{IsPageSize}

-- what goes to the place n goes where the last one went
abbrev shifted : (ℕ → ℕ) → ℕ → ℕ → ℕ
shifted f n i = cond (nat_eq (f i) n) (f (suc n)) (f i)

module _ (n : ℕ) (f : ℕ → ℕ) (below : (i : ℕ) → i < suc (suc n) → f i < suc n) (apart : (i j : ℕ) → i < j → j < suc (suc n) → f i ≢ f j) where
  shifted_last : (i : ℕ) → f i ≡ n → shifted f n i ≡ f (suc n)
  shifted_last i is = cond-true _ _ _ (eq-eqb (f i) n is)

  shifted_same : (i : ℕ) → f i ≢ n → shifted f n i ≡ f i
  shifted_same i ne = cond-false _ _ _ (ne_eqb (f i) n ne)

  shifted_below : (i : ℕ) → i < suc n → shifted f n i < n
  shifted_below i lt = elim (cases_eq (f i) n) [
    | inl is ↦
        let last = below (suc n) (omega arith) in
        let ne : f i ≢ f (suc n) = apart i (suc n) (omega arith) (omega arith) in
        let other : f (suc n) ≢ n = λ e. ne (is ∙ sym e) in
        omega (arith, shifted_last i is)
    | inr ne ↦ let lt' = below i (omega arith) in omega (arith, shifted_same i ne)
  ]

  shifted_apart : (i j : ℕ) → i < j → j < suc n → shifted f n i ≢ shifted f n j
  shifted_apart i j lt ltn same = elim (cases_eq (f i) n) [
    | inl is ↦ elim (cases_eq (f j) n) [
      | inl is' ↦ apart i j lt (omega arith) (is ∙ sym is')
      | inr ne' ↦ apart j (suc n) (omega arith) (omega arith) (sym (shifted_same j ne') ∙ sym same ∙ shifted_last i is)
    ]
    | inr ne ↦ elim (cases_eq (f j) n) [
      | inl is' ↦ apart i (suc n) (omega arith) (omega arith) (sym (shifted_same i ne) ∙ same ∙ shifted_last j is')
      | inr ne' ↦ apart i j lt (omega arith) (sym (shifted_same i ne) ∙ same ∙ shifted_same j ne')
    ]
  ]

-- no function puts more than n numbers below n, each elsewhere
pub pigeonhole : (n : ℕ) (f : ℕ → ℕ) → ((i : ℕ) → i < suc n → f i < n) → ((i j : ℕ) → i < j → j < suc n → f i ≢ f j) → ⊥
pigeonhole zero f below apart = let lt = below zero (omega arith) in omega arith
pigeonhole (suc n) f below apart = pigeonhole n (shifted f n) (shifted_below n f below apart) (shifted_apart n f below apart)

-- ---- lists in which nothing is there twice

abbrev pub IsOnce : List ℕ → Type 0
IsOnce list = (i j o : ℕ) → slice_get list i ≡ Some o → slice_get list j ≡ Some o → i ≡ j

-- a number that is not on a list has no place there
pub not_on : (list : List ℕ) (o i : ℕ) → list_any (nat_eq o) list ≡ false → slice_get list i ≡ Some o → ⊥
not_on [] o i is at = absurd cc
not_on (x ∷ list) o zero is at = let same : x ≡ o = cc in elim (cases_eq o x) [
  | inl e ↦ no_or (nat_eq o x) (list_any (nat_eq o) list) (eq-eqb o x e) is
  | inr ne ↦ ne (sym same)
] where
  no_or : (a b : Bool) → a ≡ true → (a || b) ≡ false → ⊥
  no_or true b yes' no' = cc
  no_or false b yes' no' = cc
not_on (x ∷ list) o (suc i) is at = not_on list o i (right_false (nat_eq o x) (list_any (nat_eq o) list) is) at where
  right_false : (a b : Bool) → (a || b) ≡ false → b ≡ false
  right_false true b e = absurd cc
  right_false false b e = e

once_more : (list : List ℕ) (o : ℕ) → IsOnce list → list_any (nat_eq o) list ≡ false → IsOnce (list ++ o ∷ [])
once_more list o once not i j x at at' = elim (get_push list o i x at) [
  | inl here ↦ elim (get_push list o j x at') [
    | inl there ↦ once i j x here.1 there.1
    | inr (end, same) ↦ absurd (not_on list o i not (subst (λ y. slice_get list i ≡ Some y) same here.1))
  ]
  | inr (end, same) ↦ elim (get_push list o j x at') [
    | inl there ↦ absurd (not_on list o j not (subst (λ y. slice_get list j ≡ Some y) same there.1))
    | inr (end', same') ↦ end ∙ sym end'
  ]
]

-- what is added to a list once is there once
pub once_with_new : (list named : List ℕ) → IsOnce list → IsOnce (with_new list named)
once_with_new list [] once = once
once_with_new list (o ∷ named) once = elim (cases_Bool (list_any (nat_eq o) list)) [
  | inl is ↦ subst IsOnce (sym (cond-true (list_any (nat_eq o) list) (with_new list named) (with_new (list ++ o ∷ []) named) is)) (once_with_new list named once)
  | inr is ↦ subst IsOnce (sym (cond-false (list_any (nat_eq o) list) (with_new list named) (with_new (list ++ o ∷ []) named) is)) (once_with_new (list ++ o ∷ []) named (once_more list o once is))
]

-- what is on a list stays where it is
pub stays_with_new : (list named : List ℕ) (i o : ℕ) → slice_get list i ≡ Some o → slice_get (with_new list named) i ≡ Some o
stays_with_new list [] i o is = is
stays_with_new list (x ∷ named) i o is = elim (cases_Bool (list_any (nat_eq x) list)) [
  | inl on ↦ subst (λ l. slice_get l i ≡ Some o) (sym (cond-true (list_any (nat_eq x) list) (with_new list named) (with_new (list ++ x ∷ []) named) on)) (stays_with_new list named i o is)
  | inr off ↦ subst (λ l. slice_get l i ≡ Some o) (sym (cond-false (list_any (nat_eq x) list) (with_new list named) (with_new (list ++ x ∷ []) named) off))
      (stays_with_new (list ++ x ∷ []) named i o (push_before list x i o is))
]

module _ (z : Sizes) (size : IsPageSize z.page_bytes) (m : NewestMap) (single : IsSingle m)
    (find : (o : ℕ) → (finding : Finding) × Finds z m o finding)
    (count : ℕ) (place : ℕ → ℕ)
    (place_below : (o : ℕ) (f : Fields) → HasHeader z m o f → place o < count)
    (place_apart : (o p : ℕ) (f g : Fields) → HasHeader z m o f → HasHeader z m p g → o ≢ p → place o ≢ place p) where
  -- the first n of the list have headers
  abbrev HaveHeaders : List ℕ → ℕ → Type 0
  HaveHeaders list n = (i o : ℕ) → i < n → slice_get list i ≡ Some o → (f : Fields) × HasHeader z m o f

  abbrev object_at : List ℕ → ℕ → ℕ
  object_at list i = unwrap_or (slice_get list i) 0

  -- no more objects have headers than there are places
  few_have : (list : List ℕ) → IsOnce list → suc count ≤ length list → HaveHeaders list (suc count) → ⊥
  few_have list once le have = pigeonhole count (λ i. place (object_at list i)) below apart where
    header : (i : ℕ) → i < suc count → (f : Fields) × HasHeader z m (object_at list i) f
    header i lt =
        let at = slice_get_there list i (omega arith) in
        let is : object_at list i ≡ at.0 = ap (λ (x : Option ℕ). unwrap_or x 0) at.1 in
        subst (λ o. (f : Fields) × HasHeader z m o f) (sym is) (have i at.0 lt at.1)

    below : (i : ℕ) → i < suc count → place (object_at list i) < count
    below i lt = let h = header i lt in place_below (object_at list i) h.0 h.1

    apart : (i j : ℕ) → i < j → j < suc count → place (object_at list i) ≢ place (object_at list j)
    apart i j before lt =
        let h = header i (omega arith) in
        let k = header j lt in
        let x = slice_get_there list i (omega arith) in
        let y = slice_get_there list j (omega arith) in
        place_apart (object_at list i) (object_at list j) h.0 k.0 h.1 k.1 (λ same.
        let one : x.0 ≡ y.0 = sym (ap (λ (x : Option ℕ). unwrap_or x 0) x.1) ∙ same ∙ ap (λ (x : Option ℕ). unwrap_or x 0) y.1 in
        let places : i ≡ j = once i j y.0 (x.1 ∙ ap Some one) y.1 in
        omega arith)

  -- the objects that are gone through keep their headers when the list gets longer
  have_more : (list named : List ℕ) (n o : ℕ) → slice_get list n ≡ Some o → ((f : Fields) × HasHeader z m o f) → HaveHeaders list n → HaveHeaders (with_new list named) (n + 1)
  have_more list named n o at header have i x lt is = elim (cases_lt i n) [
    | inl before ↦
        let y = slice_get_there list i (let within = slice_get_within list n o at in omega arith) in
        let same : Some y.0 ≡ Some x = sym (stays_with_new list named i y.0 y.1) ∙ is in
        let one : y.0 ≡ x = cc in
        have i x before (y.1 ∙ ap Some one)
    | inr after ↦
        let here : i ≡ n = omega arith in
        let same : Some o ≡ Some x = sym (stays_with_new list named n o at) ∙ ap (slice_get (with_new list named)) (sym here) ∙ is in
        let one : o ≡ x = cc in
        subst (λ k. (f : Fields) × HasHeader z m k f) one header
  ]

  walk : (fuel : ℕ) (list : List ℕ) (n : ℕ) → IsOnce list → n ≤ length list → HaveHeaders list n → fuel + n ≡ suc count → (end : ListEnd) × GoesThrough z m list n end
  walk zero list n once le have is = absurd (few_have list once (omega arith) (subst (HaveHeaders list) (let all : n ≡ suc count = omega arith in all) have))
  walk (suc fuel) list n once le have is = elim (cases_lt n (length list)) [
    | inr past ↦ (Wholly list, ends (omega arith))
    | inl lt ↦
        let at = slice_get_there list n lt in
        go at.0 at.1 (λ longer n' once' le' have' is'. walk fuel longer n' once' le' have' is') (find at.0)
  ] where
    go : (o : ℕ) → slice_get list n ≡ Some o → ((list : List ℕ) (n : ℕ) → IsOnce list → n ≤ length list → HaveHeaders list n → fuel + n ≡ suc count → (end : ListEnd) × GoesThrough z m list n end)
        → ((finding : Finding) × Finds z m o finding) → (end : ListEnd) × GoesThrough z m list n end
    go o at on (Stops wrong, lookups) = (Wrongly wrong, stops o wrong at lookups)
    go o at on (Leads named, lookups) =
        let longer = slice_get_within (with_new list named) n o (stays_with_new list named n o at) in
        let rest = on (with_new list named) (n + 1) (once_with_new list named once) (omega arith)
        (have_more list named n o at (header_there z size m single o named lookups) have) (omega arith) in
        (rest.0, goes o named at lookups rest.1)

  once_one : (o : ℕ) → IsOnce (o ∷ [])
  once_one o zero zero x is is' = refl
  once_one o zero (suc j) x is is' = let two : None ≡ Some x = is' in absurd cc
  once_one o (suc i) j x is is' = let two : None ≡ Some x = is in absurd cc

  -- going through the objects from one on ends
  pub some_end : (o : ℕ) → (end : ListEnd) × GoesThrough z m (o ∷ []) 0 end
  some_end o = walk (suc count) (o ∷ []) 0 (once_one o) (omega arith) (λ i x lt is. absurd (omega arith)) (omega arith)
