-- What a change of one run does to a set of numbers.
use Rattle.std.proofs.Common.{◌≡◌, ◌≢◌, ◌⊎◌, ℕ, ◌<◌, ◌≤◌, false, length, get_or, take, drop, Option, Some, None, Result, Ok, Err, OnOk, OnErr, IfOk, IsSome, [], ◌∷◌, refl, sym, ap, subst, ◌∙◌, arith, inl, inr}
use mathlib.Core.Bool.{false≢true}
use Rattle.std.specs.Ordering.{nat_cmp}
use Rattle.std.specs.BTreeMap.{get, is_at, Updates, WritesThrough}
use Rattle.std.specs.Map.{lookup}
use Rattle.std.proofs.lemmas.Bool.Decides.{nat_tests}
use Rattle.std.proofs.lemmas.Bool.{cases_lt, cases_eq}
use Rattle.name_index.specs.Lists.{IsIn, Adds, Drops, SameNumbers, IsNextFrom}
use Rattle.name_index.specs.Halves.{IsUpperPart}
use Rattle.name_index.specs.Sets.{RunMap, Has, IsTiled, IsLastBegun, IsUpperOf, IsOnlyOf, HasNoneOf, IsNextWithin, IsFirstBeyond}
use Rattle.name_index.specs.declared.run.Run.{Run}
use Rattle.name_index.proofs.Searching.{rises_le}
use Rattle.name_index.proofs.Dividing.{in_low, in_high, in_either, first_above, first_in}

-- what is there
pub is_there : (o : Option Run) → IsSome o → (r : Run) × (o ≡ Some r)
is_there None is = absurd (false≢true is)
is_there (Some r) is = (r, refl)

-- one run begins at a number
pub one_run : (m : RunMap) (k l : ℕ) (q r : Run) → get nat_cmp m k ≡ Some q → k ≡ l → get nat_cmp m l ≡ Some r → q ≡ r
one_run m k l q r is e at = let both : Some q ≡ Some r = sym is ∙ ap (get nat_cmp m) e ∙ at in cc

in_other : (q r : Run) (x : ℕ) → q ≡ r → IsIn q.numbers.items x → IsIn r.numbers.items x
in_other q r x e is = subst (λ (t : Run). IsIn t.numbers.items x) e is

-- a number has another run, or none, and the others have theirs
pub record Alters (at : ℕ) (to : Option Run) (m n : RunMap) : Type 0 where
  pub here : get nat_cmp n at ≡ to
  pub others : (k : ℕ) → k ≢ at → get nat_cmp n k ≡ get nat_cmp m k

not_at : (o k : ℕ) → k ≢ o → is_at (nat_cmp o) k ≡ false
not_at o k ne = grind (arith, nat_tests, ne)

-- so a change of one entry says
pub updated : (at : ℕ) (to : Option Run) (m n : RunMap) → Updates nat_cmp m n at to → Alters at to m n
updated at to m n updates = record { here = updates.1; others = λ k ne. updates.2 k (not_at at k ne) }

-- and what was written through a loan of a run
pub written : (at : ℕ) (m n : RunMap) (r s : Run) → get nat_cmp m at ≡ Some r → WritesThrough nat_cmp (nat_cmp at) m s n → Alters at (Some s) m n
written at m n r s found through =
    let some : IsSome (get nat_cmp m at) = rw found refl in
    record { here = (through.3 some).1; others = λ k ne. (through.3 some).2 k (not_at at k ne) }

-- a map that is unchanged has the same runs
pub unchanged : (m n : RunMap) → n.entries ≡ m.entries → (k : ℕ) → get nat_cmp n k ≡ get nat_cmp m k
unchanged m n e k = ap (lookup (is_at (nat_cmp k))) e

-- a run that is not the altered one was there
was : (m n : RunMap) (at k : ℕ) (to : Option Run) (q : Run) → Alters at to m n → k ≢ at → get nat_cmp n k ≡ Some q → get nat_cmp m k ≡ Some q
was m n at k to q alters ne is = sym (alters.others k ne) ∙ is

-- where a run was at the altered number, the runs are those that were
was_some : (m n : RunMap) (at k : ℕ) (to : Option Run) (r : Run) → Alters at to m n → get nat_cmp m at ≡ Some r → IsSome (get nat_cmp n k) → IsSome (get nat_cmp m k)
was_some m n at k to r alters found some = elim (cases_eq k at) [
  | inl e ↦ rw (ap (get nat_cmp m) e ∙ found) refl
  | inr ne ↦ rw (← alters.others k ne) some
]

module _ (m : RunMap) (tiled : IsTiled m) (x at : ℕ) (last : IsLastBegun m x (Some at)) where
  -- a number from x on stands in the run of x, or in one that begins later
  home : (k y : ℕ) (q : Run) → get nat_cmp m k ≡ Some q → IsIn q.numbers.items y → x ≤ y → at ≤ k
  home k y q is there le = elim (cases_lt k at) [
    | inl before ↦
        let less : y < at = tiled.before k at y q is there last.0 before in
        let up : at ≤ x = last.1 in
        omega (arith, less, up, le)
    | inr after ↦ after
  ]

  -- and x in no other
  home_is : (k : ℕ) (q : Run) → get nat_cmp m k ≡ Some q → IsIn q.numbers.items x → k ≡ at
  home_is k q is there =
      let from : k ≤ x = tiled.from k x q is there in
      let some : IsSome (get nat_cmp m k) = rw is refl in
      let le : k ≤ at = last.2 k from some in
      let ge : at ≤ k = home k x q is there (omega arith) in
      omega (arith, le, ge)

  module _ (n : RunMap) (r s : Run) (found : get nat_cmp m at ≡ Some r) (alters : Alters at (Some s) m n) where
    -- a number that is put into its run
    module _ (adds : Adds x (IsIn r.numbers.items) (IsIn s.numbers.items)) where
      pub tiled_put : IsTiled n
      tiled_put = record {
        from = λ k y q is there. elim (cases_eq k at) [
          | inr ne ↦ tiled.from k y q (was m n at k (Some s) q alters ne is) there
          | inl e ↦ elim (adds.only y (in_other q s y (one_run n k at q s is e alters.here) there)) [
            | inl same ↦ let le : at ≤ x = last.1 in omega (arith, le, same, e)
            | inr old ↦ let le : at ≤ y = tiled.from at y r found old in omega (arith, le, e)
          ]
        ];
        before = λ k j y q is there some lt.
            let some_j = was_some m n at j (Some s) r alters found some in
            elim (cases_eq k at) [
              | inr ne ↦ tiled.before k j y q (was m n at k (Some s) q alters ne is) there some_j lt
              | inl e ↦ elim (adds.only y (in_other q s y (one_run n k at q s is e alters.here) there)) [
                | inl same ↦ elim (cases_lt x j) [
                  | inl less ↦ omega (arith, less, same)
                  | inr le ↦ let back : j ≤ at = last.2 j le some_j in omega (arith, back, lt, e)
                ]
                | inr old ↦ tiled.before at j y r found old some_j (omega (arith, lt, e))
              ]
            ];
      }

      pub adds_put : Adds x (Has m) (Has n)
      adds_put = record {
        there = (at, s, alters.here, adds.there);
        stays = λ y has. elim (cases_eq has.0 at) [
          | inl e ↦ (at, s, alters.here, adds.stays y (in_other has.1 r y (one_run m has.0 at has.1 r has.2 e found) has.3))
          | inr ne ↦ (has.0, has.1, alters.others has.0 ne ∙ has.2, has.3)
        ];
        only = λ y has. elim (cases_eq has.0 at) [
          | inl e ↦ elim (adds.only y (in_other has.1 s y (one_run n has.0 at has.1 s has.2 e alters.here) has.3)) [
            | inl same ↦ inl same
            | inr old ↦ inr (at, r, found, old)
          ]
          | inr ne ↦ inr (has.0, has.1, was m n at has.0 (Some s) has.1 alters ne has.2, has.3)
        ];
      }

    -- a number that is taken out of its run
    module _ (drops : Drops x (IsIn r.numbers.items) (IsIn s.numbers.items)) where
      pub tiled_taken : IsTiled n
      tiled_taken = record {
        from = λ k y q is there. elim (cases_eq k at) [
          | inr ne ↦ tiled.from k y q (was m n at k (Some s) q alters ne is) there
          | inl e ↦
              let le : at ≤ y = tiled.from at y r found (drops.only y (in_other q s y (one_run n k at q s is e alters.here) there)) in
              omega (arith, le, e)
        ];
        before = λ k j y q is there some lt.
            let some_j = was_some m n at j (Some s) r alters found some in
            elim (cases_eq k at) [
              | inr ne ↦ tiled.before k j y q (was m n at k (Some s) q alters ne is) there some_j lt
              | inl e ↦ tiled.before at j y r found (drops.only y (in_other q s y (one_run n k at q s is e alters.here) there)) some_j (omega (arith, lt, e))
            ];
      }

      pub drops_taken : Drops x (Has m) (Has n)
      drops_taken = record {
        gone = λ has. elim (cases_eq has.0 at) [
          | inl e ↦ drops.gone (in_other has.1 s x (one_run n has.0 at has.1 s has.2 e alters.here) has.3)
          | inr ne ↦ ne (home_is has.0 has.1 (was m n at has.0 (Some s) has.1 alters ne has.2) has.3)
        ];
        stays = λ y apart has. elim (cases_eq has.0 at) [
          | inl e ↦ (at, s, alters.here, drops.stays y apart (in_other has.1 r y (one_run m has.0 at has.1 r has.2 e found) has.3))
          | inr ne ↦ (has.0, has.1, alters.others has.0 ne ∙ has.2, has.3)
        ];
        only = λ y has. elim (cases_eq has.0 at) [
          | inl e ↦ (at, r, found, drops.only y (in_other has.1 s y (one_run n has.0 at has.1 s has.2 e alters.here) has.3))
          | inr ne ↦ (has.0, has.1, was m n at has.0 (Some s) has.1 alters ne has.2, has.3)
        ];
      }

  -- a run that goes with its only number
  module _ (n : RunMap) (alters : Alters at None m n) (only_of : IsOnlyOf m at x) where
    not_none : (k : ℕ) (q : Run) → get nat_cmp n k ≡ Some q → k ≢ at
    not_none k q is e = let both : Some q ≡ None = sym is ∙ ap (get nat_cmp n) e ∙ alters.here in absurd cc

    some_left : (k : ℕ) → IsSome (get nat_cmp n k) → IsSome (get nat_cmp m k)
    some_left k some = was_some m n at k None only_of.0 alters only_of.1 some

    pub tiled_less : IsTiled n
    tiled_less = record {
      from = λ k y q is there. tiled.from k y q (was m n at k None q alters (not_none k q is) is) there;
      before = λ k j y q is there some lt. tiled.before k j y q (was m n at k None q alters (not_none k q is) is) there (some_left j some) lt;
    }

    pub drops_less : Drops x (Has m) (Has n)
    drops_less = record {
      gone = λ has. not_none has.0 has.1 has.2 (home_is has.0 has.1 (was m n at has.0 None has.1 alters (not_none has.0 has.1 has.2) has.2) has.3);
      stays = λ y apart has. elim (cases_eq has.0 at) [
        | inl e ↦
            let r = only_of.0 in
            let is : IsIn r.numbers.items y = in_other has.1 r y (one_run m has.0 at has.1 r has.2 e only_of.1) has.3 in
            let one : length r.numbers.items ≡ 1 = only_of.2 in
            let lt : is.0 < length r.numbers.items = is.1 in
            absurd (apart (sym is.2 ∙ ap (λ i. get_or r.numbers.items i 0) (omega (arith, one, lt)) ∙ only_of.3))
        | inr ne ↦ (has.0, has.1, alters.others has.0 ne ∙ has.2, has.3)
      ];
      only = λ y has. (has.0, has.1, was m n at has.0 None has.1 alters (not_none has.0 has.1 has.2) has.2, has.3);
    }

-- a number that is there already
pub adds_held : (m : RunMap) (x : ℕ) → Has m x → Adds x (Has m) (Has m)
adds_held m x has = record { there = has; stays = λ y is. is; only = λ y is. inr is }

-- a number before which no run begins is not there
pub drops_nothing : (m : RunMap) → IsTiled m → (x : ℕ) → IsLastBegun m x None → Drops x (Has m) (Has m)
drops_nothing m tiled x none = record {
  gone = λ has.
      let at : get nat_cmp m has.0 ≡ None = none has.0 (tiled.from has.0 x has.1 has.2 has.3) in
      let both : Some has.1 ≡ None = sym has.2 ∙ at in
      absurd cc;
  stays = λ y ne has. has;
  only = λ y has. has;
}

pub adds_on : (x : ℕ) (m n p : RunMap) → SameNumbers (Has m) (Has n) → Adds x (Has n) (Has p) → Adds x (Has m) (Has p)
adds_on x m n p same adds = record {
  there = adds.there;
  stays = λ y has. adds.stays y (same.stays y has);
  only = λ y has. elim (adds.only y has) [ inl e ↦ inl e | inr old ↦ inr (same.only y old) ];
}

pub same_on : (m n p : RunMap) → SameNumbers (Has m) (Has n) → SameNumbers (Has n) (Has p) → SameNumbers (Has m) (Has p)
same_on m n p a b = record { stays = λ y has. b.stays y (a.stays y has); only = λ y has. a.only y (b.only y has) }

-- the same runs, also where one was lent and left as it was
pub same_alters : (m n : RunMap) (at : ℕ) (r s : Run) → get nat_cmp m at ≡ Some r → Alters at (Some s) m n → s.numbers.items ≡ r.numbers.items → SameNumbers (Has m) (Has n)
same_alters m n at r s found alters e = record {
  stays = λ y has. elim (cases_eq has.0 at) [
    | inl here ↦ (at, s, alters.here, subst (λ xs. IsIn xs y) (sym e) (in_other has.1 r y (one_run m has.0 at has.1 r has.2 here found) has.3))
    | inr ne ↦ (has.0, has.1, alters.others has.0 ne ∙ has.2, has.3)
  ];
  only = λ y has. elim (cases_eq has.0 at) [
    | inl here ↦ (at, r, found, subst (λ xs. IsIn xs y) e (in_other has.1 s y (one_run n has.0 at has.1 s has.2 here alters.here) has.3))
    | inr ne ↦ (has.0, has.1, was m n at has.0 (Some s) has.1 alters ne has.2, has.3)
  ];
}

pub tiled_same : (m n : RunMap) → IsTiled m → (at : ℕ) (r s : Run) → get nat_cmp m at ≡ Some r → Alters at (Some s) m n → s.numbers.items ≡ r.numbers.items → IsTiled n
tiled_same m n tiled at r s found alters e = record {
  from = λ k y q is there. elim (cases_eq k at) [
    | inr ne ↦ tiled.from k y q (was m n at k (Some s) q alters ne is) there
    | inl here ↦
        let le : at ≤ y = tiled.from at y r found (subst (λ xs. IsIn xs y) e (in_other q s y (one_run n k at q s is here alters.here) there)) in
        omega (arith, le, here)
  ];
  before = λ k j y q is there some lt.
      let some_j = was_some m n at j (Some s) r alters found some in
      elim (cases_eq k at) [
        | inr ne ↦ tiled.before k j y q (was m n at k (Some s) q alters ne is) there some_j lt
        | inl here ↦ tiled.before at j y r found (subst (λ xs. IsIn xs y) e (in_other q s y (one_run n k at q s is here alters.here) there)) some_j (omega (arith, lt, here))
      ];
}

-- the same entries
pub tiled_copy : (m n : RunMap) → IsTiled m → ((k : ℕ) → get nat_cmp n k ≡ get nat_cmp m k) → IsTiled n
tiled_copy m n tiled same = record {
  from = λ k y q is there. tiled.from k y q (sym (same k) ∙ is) there;
  before = λ k j y q is there some lt. tiled.before k j y q (sym (same k) ∙ is) there (rw (← same j) some) lt;
}

pub same_copy : (m n : RunMap) → ((k : ℕ) → get nat_cmp n k ≡ get nat_cmp m k) → SameNumbers (Has m) (Has n)
same_copy m n same = record {
  stays = λ y has. (has.0, has.1, same has.0 ∙ has.2, has.3);
  only = λ y has. (has.0, has.1, sym (same has.0) ∙ has.2, has.3);
}

-- ---- a run of its own, before which none begins
module _ (m n : RunMap) (tiled : IsTiled m) (x : ℕ) (none : IsLastBegun m x None) (s : Run) (alters : Alters 0 (Some s) m n) (one : (y : ℕ) → IsIn s.numbers.items y → y ≡ x) (has_x : IsIn s.numbers.items x) where
  none_at : get nat_cmp m 0 ≡ None
  none_at = none 0 (omega arith)

  apart : (k : ℕ) (q : Run) → get nat_cmp m k ≡ Some q → k ≢ 0
  apart k q is e = let both : Some q ≡ None = sym is ∙ ap (get nat_cmp m) e ∙ none_at in absurd cc

  pub tiled_begun : IsTiled n
  tiled_begun = record {
    from = λ k y q is there. elim (cases_eq k 0) [
      | inr ne ↦ tiled.from k y q (was m n 0 k (Some s) q alters ne is) there
      | inl e ↦ omega (arith, e)
    ];
    before = λ k j y q is there some lt.
        let some_j : IsSome (get nat_cmp m j) = rw (← alters.others j (λ e. omega (arith, e, lt))) some in
        elim (cases_eq k 0) [
          | inr ne ↦ tiled.before k j y q (was m n 0 k (Some s) q alters ne is) there some_j lt
          | inl e ↦
              let same : y ≡ x = one y (in_other q s y (one_run n k 0 q s is e alters.here) there) in
              elim (cases_lt x j) [
                | inl less ↦ omega (arith, less, same)
                | inr le ↦
                    let at = is_there (get nat_cmp m j) some_j in
                    let both : Some at.0 ≡ None = sym at.1 ∙ none j le in
                    absurd cc
              ]
        ];
  }

  pub adds_begun : Adds x (Has m) (Has n)
  adds_begun = record {
    there = (0, s, alters.here, has_x);
    stays = λ y has. (has.0, has.1, alters.others has.0 (apart has.0 has.1 has.2) ∙ has.2, has.3);
    only = λ y has. elim (cases_eq has.0 0) [
      | inl e ↦ inl (one y (in_other has.1 s y (one_run n has.0 0 has.1 s has.2 e alters.here) has.3))
      | inr ne ↦ inr (has.0, has.1, was m n 0 has.0 (Some s) has.1 alters ne has.2, has.3)
    ];
  }

in_one : (x y : ℕ) → IsIn (x ∷ []) y → y ≡ x
in_one x y is = let lt : is.0 < 1 = is.1 in let zero_at : is.0 ≡ 0 = omega (arith, lt) in sym is.2 ∙ ap (λ i. get_or (x ∷ []) i 0) zero_at

-- a run that is put at 0, or refused
module _ (m n : RunMap) (tiled : IsTiled m) (x : ℕ) (none : IsLastBegun m x None) (s : Run) (is : s.numbers.items ≡ x ∷ []) where
  one_of : (y : ℕ) → IsIn s.numbers.items y → y ≡ x
  one_of y there = in_one x y (subst (λ xs. IsIn xs y) is there)

  x_in : IsIn s.numbers.items x
  x_in = subst (λ xs. IsIn xs x) (sym is) (0, omega arith, refl)

  pub tiled_begin : {A E : Type 0} (result : Result A E) → OnOk result (Updates nat_cmp m n 0 (Some s)) → OnErr result (n.entries ≡ m.entries) → IsTiled n
  tiled_begin (Ok v) updates same = tiled_begun m n tiled x none s (updated 0 (Some s) m n updates) one_of x_in
  tiled_begin (Err e) updates same = tiled_copy m n tiled (unchanged m n same)

  pub adds_begin : Updates nat_cmp m n 0 (Some s) → Adds x (Has m) (Has n)
  adds_begin updates = adds_begun m n tiled x none s (updated 0 (Some s) m n updates) one_of x_in

-- ---- a run in two
pub record Parts (m : RunMap) (at f : ℕ) (r up : Run) : Type 0 where
  pub found : get nat_cmp m at ≡ Some r
  pub more : 32 < length r.numbers.items
  pub is_up : up.numbers.items ≡ drop 32 r.numbers.items
  pub is_first : f ≡ get_or up.numbers.items 0 0

pub parts_of : (m : RunMap) (at f : ℕ) (up : Run) (upper : IsUpperOf m at (Some up)) → f ≡ get_or up.numbers.items 0 0 → Parts m at f upper.0 up
parts_of m at f up upper e = record { found = upper.1; more = upper.2.0; is_up = upper.2.1; is_first = e }

module _ (m : RunMap) (tiled : IsTiled m) (at f : ℕ) (r up : Run) (parts : Parts m at f r up) where
  first_of : f ≡ get_or (drop 32 r.numbers.items) 0 0
  first_of = parts.is_first ∙ ap (λ xs. get_or xs 0 0) parts.is_up

  f_in : IsIn r.numbers.items f
  f_in = subst (IsIn r.numbers.items) (sym first_of) (first_in r.numbers.items r.rises 32 parts.more)

  at_below : at < f
  at_below =
      let start : at ≤ get_or r.numbers.items 0 0 = tiled.from at (get_or r.numbers.items 0 0) r parts.found (0, r.filled, refl) in
      let up_from : get_or r.numbers.items 0 0 < get_or (drop 32 r.numbers.items) 0 0 = first_above r.numbers.items r.rises 32 parts.more (omega arith) in
      let e : f ≡ get_or (drop 32 r.numbers.items) 0 0 = first_of in
      omega (arith, start, up_from, e)

  at_not : at ≢ f
  at_not e = omega (arith, e, at_below)

  -- the run is still there once the upper part is
  pub still : (n : RunMap) → Alters f (Some up) m n → get nat_cmp n at ≡ Some r
  still n puts = puts.others at at_not ∙ parts.found

  -- no run began at the first number of the upper part
  new_at : (q : Run) → get nat_cmp m f ≡ Some q → ⊥
  new_at q is =
      let less : f < f = tiled.before at f f r parts.found f_in (rw is refl) at_below in
      omega (arith, less)

module _ (m n p : RunMap) (tiled : IsTiled m) (at f : ℕ) (r up low : Run) (parts : Parts m at f r up) (puts : Alters f (Some up) m n) (cuts : Alters at (Some low) n p) (is_low : low.numbers.items ≡ take 32 r.numbers.items) where
  begin_of : f ≡ get_or (drop 32 r.numbers.items) 0 0
  begin_of = first_of m tiled at f r up parts

  above_at : at < f
  above_at = at_below m tiled at f r up parts

  low_in : (y : ℕ) → IsIn low.numbers.items y → IsIn r.numbers.items y × (y < f)
  low_in y is =
      let both = in_low r.numbers.items r.rises 32 parts.more y (subst (λ xs. IsIn xs y) is_low is) in
      (both.0, subst (λ g. y < g) (sym begin_of) both.1)

  up_in : (y : ℕ) → IsIn up.numbers.items y → IsIn r.numbers.items y × (f ≤ y)
  up_in y is =
      let both = in_high r.numbers.items r.rises 32 parts.more y (subst (λ xs. IsIn xs y) parts.is_up is) in
      (both.0, subst (λ g. g ≤ y) (sym begin_of) both.1)

  either_in : (y : ℕ) → IsIn r.numbers.items y → IsIn low.numbers.items y ⊎ IsIn up.numbers.items y
  either_in y is = elim (in_either r.numbers.items r.rises 32 parts.more y is) [
    | inl below ↦ inl (subst (λ xs. IsIn xs y) (sym is_low) below)
    | inr above ↦ inr (subst (λ xs. IsIn xs y) (sym parts.is_up) above)
  ]

  low_at : get nat_cmp p at ≡ Some low
  low_at = cuts.here

  up_at : get nat_cmp p f ≡ Some up
  up_at = cuts.others f (λ e. at_not m tiled at f r up parts (sym e)) ∙ puts.here

  other_at : (k : ℕ) → k ≢ at → k ≢ f → get nat_cmp p k ≡ get nat_cmp m k
  other_at k not_at not_f = cuts.others k not_at ∙ puts.others k not_f

  some_before : (k : ℕ) → k ≢ f → IsSome (get nat_cmp p k) → IsSome (get nat_cmp m k)
  some_before k not_f some = elim (cases_eq k at) [
    | inl e ↦ rw (ap (get nat_cmp m) e ∙ parts.found) refl
    | inr ne ↦ rw (← other_at k ne not_f) some
  ]

  pub tiled_divided : IsTiled p
  tiled_divided = record {
    from = λ k y q is in_q. elim (cases_eq k at) [
      | inl e ↦
          let old = (low_in y (in_other q low y (one_run p k at q low is e low_at) in_q)).0 in
          let le : at ≤ y = tiled.from at y r parts.found old in
          omega (arith, le, e)
      | inr not_at ↦ elim (cases_eq k f) [
        | inl e ↦ let le : f ≤ y = (up_in y (in_other q up y (one_run p k f q up is e up_at) in_q)).1 in omega (arith, le, e)
        | inr not_f ↦ tiled.from k y q (sym (other_at k not_at not_f) ∙ is) in_q
      ]
    ];
    before = λ k j y q is in_q some lt. elim (cases_eq k at) [
      | inl e ↦
          let old = low_in y (in_other q low y (one_run p k at q low is e low_at) in_q) in
          elim (cases_eq j f) [
            | inl is_f ↦ let less : y < f = old.1 in omega (arith, less, is_f)
            | inr not_f ↦ tiled.before at j y r parts.found old.0 (some_before j not_f some) (omega (arith, lt, e))
          ]
      | inr not_at ↦ elim (cases_eq k f) [
        | inl e ↦
            let old = up_in y (in_other q up y (one_run p k f q up is e up_at) in_q) in
            tiled.before at j y r parts.found old.0 (some_before j (λ is_f. omega (arith, is_f, e, lt)) some) (omega (arith, lt, e, above_at))
        | inr not_f ↦
            let is_m : get nat_cmp m k ≡ Some q = sym (other_at k not_at not_f) ∙ is in
            elim (cases_eq j f) [
              | inr j_not ↦ tiled.before k j y q is_m in_q (some_before j j_not some) lt
              | inl is_f ↦ elim (cases_lt k at) [
                | inl less ↦
                    let below : y < at = tiled.before k at y q is_m in_q (rw parts.found refl) less in
                    omega (arith, below, above_at, is_f)
                | inr ge ↦
                    let above : f < k = tiled.before at k f r parts.found (f_in m tiled at f r up parts) (rw is_m refl) (omega (arith, ge, not_at)) in
                    absurd (omega (arith, above, lt, is_f))
              ]
            ]
      ]
    ];
  }

  pub same_divided : SameNumbers (Has m) (Has p)
  same_divided = record {
    stays = λ y has. elim (cases_eq has.0 at) [
      | inl e ↦ elim (either_in y (in_other has.1 r y (one_run m has.0 at has.1 r has.2 e parts.found) has.3)) [
        | inl below ↦ (at, low, low_at, below)
        | inr above ↦ (f, up, up_at, above)
      ]
      | inr not_at ↦ elim (cases_eq has.0 f) [
        | inl e ↦ absurd (new_at m tiled at f r up parts has.1 (sym (ap (get nat_cmp m) e) ∙ has.2))
        | inr not_f ↦ (has.0, has.1, other_at has.0 not_at not_f ∙ has.2, has.3)
      ]
    ];
    only = λ y has. elim (cases_eq has.0 at) [
      | inl e ↦ (at, r, parts.found, (low_in y (in_other has.1 low y (one_run p has.0 at has.1 low has.2 e low_at) has.3)).0)
      | inr not_at ↦ elim (cases_eq has.0 f) [
        | inl e ↦ (at, r, parts.found, (up_in y (in_other has.1 up y (one_run p has.0 f has.1 up has.2 e up_at) has.3)).0)
        | inr not_f ↦ (has.0, has.1, sym (other_at has.0 not_at not_f) ∙ has.2, has.3)
      ]
    ];
  }

-- what the code has of it
module _ (m n p : RunMap) (tiled : IsTiled m) (at f : ℕ) (up : Run) (upper : IsUpperOf m at (Some up)) (is_first : f ≡ get_or up.numbers.items 0 0) (updates : Updates nat_cmp m n f (Some up))
    (r low : Run) (found : get nat_cmp n at ≡ Some r) where
  parts_here : Parts m at f upper.0 up
  parts_here = parts_of m at f up upper is_first

  same_run : upper.0 ≡ r
  same_run = one_run n at at upper.0 r (still m tiled at f upper.0 up parts_here n (updated f (Some up) m n updates)) refl found

  pub long_enough : 32 < length r.numbers.items
  long_enough = subst (λ (t : Run). 32 < length t.numbers.items) same_run parts_here.more

  module _ (through : WritesThrough nat_cmp (nat_cmp at) n low p) (is_low : low.numbers.items ≡ take 32 r.numbers.items) where
    low_of : low.numbers.items ≡ take 32 upper.0.numbers.items
    low_of = is_low ∙ sym (ap (λ (t : Run). take 32 t.numbers.items) same_run)

    pub tiled_cut : IsTiled p
    tiled_cut = tiled_divided m n p tiled at f upper.0 up low parts_here (updated f (Some up) m n updates) (written at n p r low found through) low_of

    pub same_cut : SameNumbers (Has m) (Has p)
    same_cut = same_divided m n p tiled at f upper.0 up low parts_here (updated f (Some up) m n updates) (written at n p r low found through) low_of

-- ---- a number that is put into its run, or refused
module _ {A E : Type 0} (m n : RunMap) (tiled : IsTiled m) (x at : ℕ) (last : IsLastBegun m x (Some at)) (r s : Run) (found : get nat_cmp m at ≡ Some r) (through : WritesThrough nat_cmp (nat_cmp at) m s n) where
  pub tiled_insert : (result : Result A E) → OnOk result (Adds x (IsIn r.numbers.items) (IsIn s.numbers.items)) → OnErr result (s.numbers.items ≡ r.numbers.items) → IsTiled n
  tiled_insert (Ok v) adds same = tiled_put m tiled x at last n r s found (written at m n r s found through) adds
  tiled_insert (Err e) adds same = tiled_same m n tiled at r s found (written at m n r s found through) same

  pub adds_insert : (result : Result A E) → OnOk result (Adds x (IsIn r.numbers.items) (IsIn s.numbers.items)) → OnOk result (Adds x (Has m) (Has n))
  adds_insert (Ok v) adds = adds_put m tiled x at last n r s found (written at m n r s found through) adds
  adds_insert (Err e) adds = tt

  pub same_insert : (result : Result A E) → OnErr result (s.numbers.items ≡ r.numbers.items) → OnErr result (SameNumbers (Has m) (Has n))
  same_insert (Ok v) same = tt
  same_insert (Err e) same = same_alters m n at r s found (written at m n r s found through) same

-- after a run was divided
module _ {A E : Type 0} (x : ℕ) (m n p : RunMap) (divided : SameNumbers (Has m) (Has n)) where
  pub adds_after : (result : Result A E) → OnOk result (Adds x (Has n) (Has p)) → OnOk result (Adds x (Has m) (Has p))
  adds_after (Ok v) adds = adds_on x m n p divided adds
  adds_after (Err e) adds = tt

  pub same_after : (result : Result A E) → OnErr result (SameNumbers (Has n) (Has p)) → OnErr result (SameNumbers (Has m) (Has p))
  same_after (Ok v) same = tt
  same_after (Err e) same = same_on m n p divided same

-- ---- the next number
module _ (m : RunMap) (tiled : IsTiled m) (x at : ℕ) (last : IsLastBegun m x (Some at)) (r : Run) (found : get nat_cmp m at ≡ Some r) where
  none_within : IsNextFrom (IsIn r.numbers.items) x None → HasNoneOf m x
  none_within none k y q is le in_q more =
      let some : IsSome (get nat_cmp m k) = rw is refl in
      let up : k ≤ at = last.2 k le some in
      let down : at ≤ k = home m tiled x at last k y q is in_q more in
      none y more (in_other q r y (one_run m k at q r is (omega (arith, up, down)) found) in_q)

  next_here : (v : ℕ) → IsNextFrom (IsIn r.numbers.items) x (Some v) → IsNextFrom (Has m) x (Some v)
  next_here v next = (
    (at, r, found, next.0),
    next.1,
    λ y le has. elim (cases_eq has.0 at) [
      | inl e ↦ next.2 y le (in_other has.1 r y (one_run m has.0 at has.1 r has.2 e found) has.3)
      | inr ne ↦
          let down : at ≤ has.0 = home m tiled x at last has.0 y has.1 has.2 has.3 le in
          let less : v < has.0 = tiled.before at has.0 v r found next.0 (rw has.2 refl) (omega (arith, down, ne)) in
          let from : has.0 ≤ y = tiled.from has.0 y has.1 has.2 has.3 in
          omega (arith, less, from)
    ],
  )

  -- the next number of the last run that begins there or before is the next of all, if there is one
  pub next_of_last : (next : Option ℕ) → IsNextFrom (IsIn r.numbers.items) x next → IsNextWithin m x next
  next_of_last None none = none_within none
  next_of_last (Some v) next = next_here v next

pub next_beyond : (m : RunMap) → IsTiled m → (x : ℕ) → HasNoneOf m x → (found : Option ℕ) → IsFirstBeyond m x found → IsNextFrom (Has m) x found
next_beyond m tiled x none None first = λ y le has. elim (cases_lt x has.0) [
  | inl beyond ↦ let both : Some has.1 ≡ None = sym has.2 ∙ first has.0 beyond in absurd cc
  | inr within ↦ none has.0 y has.1 has.2 within has.3 le
]
next_beyond m tiled x none (Some v) first =
    let k = first.0 in
    let r = first.1 in
    let at = first.2 in
    let in_r : IsIn r.numbers.items v = (0, r.filled, first.5) in (
      (k, r, at, in_r),
      (let from : k ≤ v = tiled.from k v r at in_r in let more : x < k = first.3 in omega (arith, from, more)),
      λ y le has. elim (cases_lt x has.0) [
        | inr within ↦ absurd (none has.0 y has.1 has.2 within has.3 le)
        | inl beyond ↦
            let least : k ≤ has.0 = first.4 has.0 beyond (rw has.2 refl) in
            elim (cases_eq has.0 k) [
              | inl e ↦
                  let is : IsIn r.numbers.items y = in_other has.1 r y (one_run m has.0 k has.1 r has.2 e at) has.3 in
                  let up : get_or r.numbers.items 0 0 ≤ get_or r.numbers.items is.0 0 = rises_le r.numbers.items r.rises 0 is.0 (omega arith) is.1 in
                  let one : get_or r.numbers.items 0 0 ≡ v = first.5 in
                  let two : get_or r.numbers.items is.0 0 ≡ y = is.2 in
                  omega (arith, up, one, two)
              | inr ne ↦
                  let less : v < has.0 = tiled.before k has.0 v r at in_r (rw has.2 refl) (omega (arith, least, ne)) in
                  let from : has.0 ≤ y = tiled.from has.0 y has.1 has.2 has.3 in
                  omega (arith, less, from)
            ]
      ],
    )

-- the only number of a run that is known
pub only_here : (m : RunMap) (at x : ℕ) (r : Run) → get nat_cmp m at ≡ Some r → IsOnlyOf m at x → (length r.numbers.items ≡ 1) × (get_or r.numbers.items 0 0 ≡ x)
only_here m at x r found only =
    let e = one_run m at at only.0 r only.1 refl found in
    (subst (λ (t : Run). length t.numbers.items ≡ 1) e only.2, subst (λ (t : Run). get_or t.numbers.items 0 0 ≡ x) e only.3)

-- the upper part of a run that is known
pub upper_here : {E : Type 0} (m : RunMap) (at : ℕ) (r : Run) → get nat_cmp m at ≡ Some r → (result : Result (Option Run) E) → IfOk result (IsUpperPart r.numbers.items) → IfOk result (IsUpperOf m at)
upper_here m at r found (Ok None) is = tt
upper_here m at r found (Ok (Some part)) is = (r, found, is)
upper_here m at r found (Err e) is = tt

-- what holds holds where something failed
pub on_err : {A E P : Type 0} (result : Result A E) → P → OnErr result P
on_err (Ok v) p = tt
on_err (Err e) p = p
