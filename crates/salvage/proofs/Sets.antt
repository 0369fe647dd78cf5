-- Sets of numbers after one is inserted.
use Rattle.std.specs.Prelude.{◌≡◌, ◌≢◌, ◌⊎◌, ◌↔◌, ◌<◌, ◌≤◌, ◌+◌, ℕ, true, List, length, slice_get, Some}
use Rattle.std.proofs.Common.{sym, ◌∙◌, ap, inl, inr, arith}
use Rattle.std.proofs.lemmas.Bool.{cases_eq, cases_lt, cond-true, cond-false}
use Rattle.std.proofs.lemmas.Option.{slice_get_within}
use Rattle.std.specs.BTreeMap.{is_at}
use Rattle.std.specs.BTreeSet as set
use Rattle.std.specs.BTreeSet.{BTreeSet}
use Rattle.std.specs.Cmp.{nat_cmp_is}
use Rattle.std.specs.List.{Contains}
use Rattle.std.specs.Ordering.{nat_cmp, is_eq}
use Rattle.std.specs.declared.cmp.Ordering.TheVariants as orderings
use Rattle.volume_terms.specs.laws.Number.{not_at}
use Rattle.salvage.specs.Orphans.{Adds}
use Rattle.salvage.proofs.Elements.{at_place, place_of}

at_same : (k q : ℕ) → q ≡ k → is_at (nat_cmp k) q ≡ true
at_same k q same = ap is_eq (sym (nat_cmp_is k q orderings.Equal (sym same)))

module _ (old new : BTreeSet ℕ) (k : ℕ) (u : set.Updates nat_cmp old new k true) where
  pub has_here : (q : ℕ) → q ≡ k → set.contains nat_cmp new q ≡ true
  has_here q same = u.0 q ∙ cond-true _ _ _ (at_same k q same)

  pub has_there : (q : ℕ) → q ≢ k → set.contains nat_cmp new q ≡ set.contains nat_cmp old q
  has_there q ne = u.0 q ∙ cond-false _ _ _ (not_at k q ne)

  -- the one number is added
  pub adds_one : Adds (λ q. q ≡ k) old new
  adds_one q = (
    λ is. elim (cases_eq q k) [ inl same ↦ inr same | inr ne ↦ inl (sym (has_there q ne) ∙ is) ],
    λ any. elim (cases_eq q k) [
      | inl same ↦ has_here q same
      | inr ne ↦ elim any [ inl is ↦ has_there q ne ∙ is | inr same ↦ absurd (ne same) ]
    ],
  )

-- ---- numbers that are added in turn

pub adds_none : (P : ℕ → Type 0) (s : BTreeSet ℕ) → ((q : ℕ) → P q → ⊥) → Adds P s s
adds_none P s no' q = (λ is. inl is, λ any. elim any [ inl is ↦ is | inr p ↦ absurd (no' q p) ])

pub adds_on : (P Q R : ℕ → Type 0) (a b c : BTreeSet ℕ) → Adds P a b → Adds Q b c → ((q : ℕ) → R q ↔ (P q ⊎ Q q)) → Adds R a c
adds_on P Q R a b c x y both q = (
  λ is. elim ((y q).0 is) [
    | inl was ↦ elim ((x q).0 was) [ inl first ↦ inl first | inr p ↦ inr ((both q).1 (inl p)) ]
    | inr w ↦ inr ((both q).1 (inr w))
  ],
  λ any. elim any [
    | inl first ↦ (y q).1 (inl ((x q).1 (inl first)))
    | inr r ↦ elim ((both q).0 r) [ inl p ↦ (y q).1 (inl ((x q).1 (inr p))) | inr w ↦ (y q).1 (inr w) ]
  ],
)

pub adds_same : (P Q : ℕ → Type 0) (a b : BTreeSet ℕ) → ((q : ℕ) → P q ↔ Q q) → Adds P a b → Adds Q a b
adds_same P Q a b same x q = (
  λ is. elim ((x q).0 is) [ inl was ↦ inl was | inr p ↦ inr ((same q).0 p) ],
  λ any. elim any [ inl was ↦ (x q).1 (inl was) | inr w ↦ (x q).1 (inr ((same q).1 w)) ],
)

-- ---- the numbers of a list

-- it is one of the first n numbers
pub record IsAmong (list : List ℕ) (n q : ℕ) : Type 0 where
  pub place : ℕ
  pub within : place < n
  pub there : slice_get list place ≡ Some q

pub among_none : (list : List ℕ) (s : BTreeSet ℕ) → Adds (IsAmong list 0) s s
among_none list s = adds_none (IsAmong list 0) s (λ q a. let lt = a.within in omega (arith, lt))

pub among_more : (list : List ℕ) (n k : ℕ) (a b c : BTreeSet ℕ) → Adds (IsAmong list n) a b → slice_get list n ≡ Some k → set.Updates nat_cmp b c k true → Adds (IsAmong list (n + 1)) a c
among_more list n k a b c first at u = adds_on (IsAmong list n) (λ q. q ≡ k) (IsAmong list (n + 1)) a b c first (adds_one b c k u) both where
  both : (q : ℕ) → IsAmong list (n + 1) q ↔ (IsAmong list n q ⊎ (q ≡ k))
  both q = (
    λ w. elim (cases_lt w.place n) [
      | inl before ↦ inl (record { place = w.place; within = before; there = w.there })
      | inr last ↦
          let place : w.place ≡ n = omega (arith, last, w.within) in
          let two : Some q ≡ Some k = sym w.there ∙ ap (slice_get list) place ∙ at in
          inr cc
    ],
    λ any. elim any [
      | inl w ↦ record { place = w.place; within = omega (arith, w.within); there = w.there }
      | inr same ↦ record { place = n; within = omega arith; there = at ∙ ap Some (sym same) }
    ],
  )

pub among_all : (list : List ℕ) (n : ℕ) (a b : BTreeSet ℕ) → Adds (IsAmong list n) a b → length list ≤ n → Adds (Contains list) a b
among_all list n a b first all = adds_same (IsAmong list n) (Contains list) a b (λ q. (
  λ w. at_place list w.place q w.there,
  λ at. let p = place_of list q at in record { place = p.0; within = omega (arith, all, slice_get_within list p.0 q p.1); there = p.1 },
)) first
