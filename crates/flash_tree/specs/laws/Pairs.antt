-- Lists of keys and values, and the maps that they make.
use Rattle.std.specs.Prelude.{◌≡◌, ◌≢◌, ℕ, zero, suc, true, false, List, [], ◌∷◌, slice_get, Some}
use Rattle.std.specs.declared.cmp.Ordering.{Ordering}
use Rattle.std.proofs.Common.{refl, sym, ◌∙◌, ap, inl, inr, arith}
use Rattle.std.proofs.lemmas.Bool.{cases_Bool, cond-true, cond-false}
use Rattle.std.specs.Ordering.{eq_by_cmp}
use Rattle.std.specs.Cmp.{IsTotalOrder}
use Rattle.std.specs.FinMap as map
use Rattle.posix_profile.specs.laws.Map.{same_key, eq_same}

module _ {K : Type 0} {R : K → K → Ordering} (order : IsTotalOrder R) (exact : map.IsAntisymmetric R) where
  ne_test : (a b : K) → a ≢ b → eq_by_cmp R a b ≡ false
  ne_test a b ne = elim (cases_Bool (eq_by_cmp R a b)) [ inl e ↦ absurd (ne (same_key order exact a b e)) | inr e ↦ e ]

module _ {K V : Type 0} {R : K → K → Ordering} (order : IsTotalOrder R) (exact : map.IsAntisymmetric R) where
  -- a pair is found by its key, where no other place has the key
  pub find_at : (es : List (K × V)) (i : ℕ) (k : K) (v : V) → slice_get es i ≡ Some (k, v) → ((j : ℕ) (e : K × V) → slice_get es j ≡ Some e → e.0 ≡ k → j ≡ i) → map.find R k es ≡ Some v
  find_at [] i k v is once = absurd cc
  find_at (e ∷ es) zero k v is once =
      let same : e ≡ (k, v) = cc in
      let test : eq_by_cmp R k e.0 ≡ true = eq_same order exact k e.0 (ap (λ (x : K × V). x.0) (sym same)) in
      cond-true _ (Some e.1) _ test ∙ ap (λ (x : K × V). Some x.1) same
  find_at (e ∷ es) (suc i) k v is once =
      let test : eq_by_cmp R k e.0 ≡ false = ne_test order exact k e.0 (λ same. let one : zero ≡ suc i = once zero e refl (sym same) in absurd (omega arith)) in
      cond-false _ (Some e.1) _ test ∙ find_at es i k v is (λ j x at same. let one : suc j ≡ suc i = once (suc j) x at same in omega arith)

  -- what is found has a place
  pub at_find : (es : List (K × V)) (k : K) (v : V) → map.find R k es ≡ Some v → (i : ℕ) × (slice_get es i ≡ Some (k, v))
  at_find [] k v is = absurd cc
  at_find (e ∷ es) k v is = elim (cases_Bool (eq_by_cmp R k e.0)) [
    | inl test ↦
        let value : Some e.1 ≡ Some v = sym (cond-true _ (Some e.1) (map.find R k es) test) ∙ is in
        let key : e.0 ≡ k = sym (same_key order exact k e.0 test) in
        let v_is : e.1 ≡ v = cc in
        (zero, ap Some (λ i. (key i, v_is i)))
    | inr test ↦ let rest = at_find es k v (sym (cond-false _ (Some e.1) (map.find R k es) test) ∙ is) in (suc rest.0, rest.1)
  ]
