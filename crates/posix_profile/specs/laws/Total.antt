-- Sums over the values of a finite map.
use Rattle.std.specs.Prelude.{◌≡◌, ◌≤◌, ℕ, ◌+◌, T, List, [], ◌∷◌, length, map as list_map, sum_by, Some, None, cond}
use Rattle.std.proofs.Common.{refl, sym, ◌∙◌, ap, inl, inr, arith}
use Rattle.std.proofs.lemmas.Bool.{and_parts}
use Rattle.std.proofs.lemmas.List.Sums.{sum_by-cons}
use Rattle.std.specs.declared.cmp.Ordering.{Ordering}
use Rattle.std.specs.declared.cmp.Ordering.TheVariants.{Less, Equal, Greater}
use Rattle.std.specs.Ordering.{is_eq}
use Rattle.std.specs.Cmp.{IsTotalOrder}
use Rattle.std.specs.FinMap as map
use Rattle.std.specs.FinMap.Entries.{find, put, by_order, is_sorted, below_all}
use Rattle.posix_profile.specs.laws.Map.{Member, cases_key, get_here, get_there, get_removed, removed_none, member_get, above_differs, true_of, of_true}

-- the sum over the values
abbrev pub total : {K X : Type 0} {R : K → K → Ordering} → (X → ℕ) → map.FinMap R X → ℕ
total f m = sum_by f (map.values m)

abbrev entries_total : {K X : Type 0} → (X → ℕ) → List (K × X) → ℕ
entries_total {K} {X} f es = sum_by f (list_map (λ (e : K × X). e.1) es)

total_cons : {K X : Type 0} (f : X → ℕ) (e : K × X) (es : List (K × X)) → entries_total f (e ∷ es) ≡ f e.1 + entries_total f es
total_cons {K} {X} f e es = sum_by-cons f e.1 (list_map (λ (e : K × X). e.1) es)

module _ {K X : Type 0} {R : K → K → Ordering} (o : IsTotalOrder R) (same : map.IsAntisymmetric R) (f : X → ℕ) where
  total_put : (k : K) (v : X) (es : List (K × X)) → find R k es ≡ None → entries_total f (put R k v es) ≡ f v + entries_total f es
  total_put k v [] none = total_cons f (k, v) []
  total_put k v (e ∷ es) none = go (R k e.0) none (total_put k v es)
    where
      go : (r : Ordering) → cond (is_eq r) (Some e.1) (find R k es) ≡ None → (find R k es ≡ None → entries_total f (put R k v es) ≡ f v + entries_total f es)
          → entries_total f (by_order r ((k, v) ∷ e ∷ es) ((e.0, v) ∷ es) (e ∷ put R k v es)) ≡ f v + entries_total f (e ∷ es)
      go Less is rest = total_cons f (k, v) (e ∷ es)
      go Equal is rest = absurd cc
      go Greater is rest = omega (arith, rest is, total_cons f e (put R k v es), total_cons f e es)

  pub total_insert : (m : map.FinMap R X) (k : K) (v : X) → map.get m k ≡ None → total f (map.insert m k v) ≡ f v + total f m
  total_insert m k v none = ap (entries_total f) (map.entries-insert o m k v) ∙ total_put k v (map.entries m) (sym (map.get-entries m k) ∙ none)

  put_back : (m : map.FinMap R X) (k : K) (v : X) → map.get m k ≡ Some v → map.insert (map.remove m k) k v ≡ m
  put_back m k v is = map.same_map o same _ _ (λ q. elim (cases_key o same q k) [
    | inl e ↦ ap (map.get (map.insert (map.remove m k) k v)) e ∙ get_here o same (map.remove m k) k v ∙ sym is ∙ ap (map.get m) (sym e)
    | inr ne ↦ get_there o same (map.remove m k) k v q ne ∙ get_removed o same m k q ne
  ])

  -- a value taken out
  pub total_without : (m : map.FinMap R X) (k : K) (v : X) → map.get m k ≡ Some v → total f m ≡ f v + total f (map.remove m k)
  total_without m k v is = ap (total f) (sym (put_back m k v is)) ∙ total_insert (map.remove m k) k v (removed_none o same m k)

  -- a value in the place of another
  pub total_replace : (m : map.FinMap R X) (k : K) (v : X) → total f (map.insert m k v) ≡ f v + total f (map.remove m k)
  total_replace m k v =
      let again : map.insert m k v ≡ map.insert (map.remove m k) k v = map.same_map o same _ _ (λ q. elim (cases_key o same q k) [
        | inl e ↦ ap (map.get (map.insert m k v)) e ∙ get_here o same m k v ∙ sym (get_here o same (map.remove m k) k v) ∙ ap (map.get (map.insert (map.remove m k) k v)) (sym e)
        | inr ne ↦ get_there o same m k v q ne ∙ sym (get_removed o same m k q ne) ∙ sym (get_there o same (map.remove m k) k v q ne)
      ]) in
      ap (total f) again ∙ total_insert (map.remove m k) k v (removed_none o same m k)

  total_entries : (es : List (K × X)) (m : map.FinMap R X) → T (is_sorted R es) → ((e : K × X) → Member es e → (v : X) × (map.get m e.0 ≡ Some v) × (f e.1 ≤ f v))
      → entries_total f es ≤ total f m
  total_entries [] m sorted less = omega arith
  total_entries (e ∷ es) m sorted less =
      let p = and_parts (below_all R e.0 es) (is_sorted R es) (true_of _ sorted) in
      let here = less e (inl refl) in
      let rest : entries_total f es ≤ total f (map.remove m e.0) =
      total_entries es (map.remove m e.0) (of_true _ p.1) (λ x is.
      let there = less x (inr is) in
      (there.0, get_removed o same m e.0 x.0 (above_differs o same e.0 es x (of_true _ p.0) is) ∙ there.1, there.2)) in
      omega (arith, total_cons f e es, total_without m e.0 here.0 here.1, here.2, rest)

  -- a map whose values are among another's, or cost less, costs no more
  pub total_le : (n m : map.FinMap R X) → ((k : K) (v : X) → map.get n k ≡ Some v → (w : X) × (map.get m k ≡ Some w) × (f v ≤ f w)) → total f n ≤ total f m
  total_le n m less = total_entries (map.entries n) m (map.entries_sorted n) (λ e is. less e.0 e.1 (member_get o same n e is))

-- where each value counts at least one, the sum is at least the number of the values
count_le : {K X : Type 0} (f : X → ℕ) (es : List (K × X)) → ((x : X) → 1 ≤ f x) → length es ≤ entries_total f es
count_le f [] some = omega arith
count_le f (e ∷ es) some = omega (arith, total_cons f e es, some e.1, count_le f es some)

pub len_le : {K X : Type 0} {R : K → K → Ordering} (f : X → ℕ) (m : map.FinMap R X) → ((x : X) → 1 ≤ f x) → map.len m ≤ total f m
len_le f m some = omega (arith, map.len-entries m, count_le f (map.entries m) some)
