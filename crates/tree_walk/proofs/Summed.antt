-- A sum over the numbers of all objects is the sum over the objects.
use Rattle.std.specs.Prelude.{◌≡◌, ◌≢◌, ℕ, zero, suc, List, [], ◌∷◌, length, map as list_map, slice_get, sum_by, Some}
use Rattle.std.proofs.Common.{refl, sym, ◌∙◌, ap, arith}
use Rattle.std.proofs.lemmas.List.Sums.{sum_by-cons}
use Rattle.std.specs.Ordering.{nat_cmp}
use Rattle.std.specs.Cmp.{nat_cmp_total}
use Rattle.std.specs.FinMap as map
use Rattle.std.proofs.lemmas.List.{nil_from_length}
use Rattle.posix_profile.specs.State.{Object, Objects}
use Rattle.posix_profile.specs.laws.Map.{get_removed, remove_cases}
use Rattle.posix_profile.specs.laws.Total.{total, total_without}
use Rattle.tree_walk.specs.Walks.{IsOn, IsOnce}
use Rattle.tree_walk.proofs.Elements.{none_of}

pub summed : (f : Object → ℕ) (g : ℕ → ℕ) (xs : List ℕ) (m : Objects) → IsOnce xs → ((i o : ℕ) → slice_get xs i ≡ Some o → (x : Object) × (map.get m o ≡ Some x) × (g o ≡ f x))
    → ((o : ℕ) (x : Object) → map.get m o ≡ Some x → IsOn xs o) → sum_by g xs ≡ total f m
summed f g [] m once there listed =
    let none : m ≡ map.empty = map.same_map nat_cmp_total map.nat_cmp-IsAntisymmetric m map.empty (λ q.
    none_of (map.get m q) (λ x is. nothing q (listed q x is)) ∙ sym (map.get-empty nat_cmp q)) in
    let len : length (map.entries m) ≡ 0 = sym (map.len-entries m) ∙ ap map.len none ∙ map.len-empty nat_cmp Object in
    sym (ap (λ (es : List (ℕ × Object)). sum_by f (list_map (λ (e : ℕ × Object). e.1) es)) (nil_from_length (map.entries m) len))
  where
    nothing : (q : ℕ) → IsOn [] q → ⊥
    nothing q (i, is) = cc
summed f g (o ∷ xs) m once there listed =
    let here = there zero o refl in
    let rest : sum_by g xs ≡ total f (map.remove m o) = summed f g xs (map.remove m o)
    (λ i j c is is'. let one : suc i ≡ suc j = once (suc i) (suc j) c is is' in omega (arith, one))
    (λ i c is.
    let t = there (suc i) c is in
    let other : c ≢ o = (λ same. let one : suc i ≡ zero = once (suc i) zero c is (ap Some (sym same)) in omega (arith, one)) in
    (t.0, get_removed nat_cmp_total map.nat_cmp-IsAntisymmetric m o c other ∙ t.1, t.2))
    (λ c x is. let r = remove_cases nat_cmp_total map.nat_cmp-IsAntisymmetric m o c x is in later c r.0 (listed c x r.1)) in
    omega (arith, sum_by-cons g o xs, total_without nat_cmp_total map.nat_cmp-IsAntisymmetric f m o here.0 here.1, here.2, rest)
  where
    later : (c : ℕ) → c ≢ o → IsOn (o ∷ xs) c → IsOn xs c
    later c other (zero, is) = let same : o ≡ c = cc in absurd (other (sym same))
    later c other (suc i, is) = (i, is)
