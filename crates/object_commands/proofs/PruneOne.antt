-- What a prune leaves where one object at most is committed by nothing.
use Rattle.std.specs.Prelude.{◌≡◌, ◌≢◌, ℕ, Bool, true, false, ◌||◌, Option, Some, None, nat_eq, cond}
use Rattle.std.proofs.Common.{refl, sym, ◌∙◌, ap, inl, inr}
use Rattle.std.proofs.lemmas.Bool.{cases_eq, or_cases, or_left, or_right, eqb-true, eq-eqb, cond-true, cond-false, false_from_ne_true}
use Rattle.std.specs.Cmp.{nat_cmp_total}
use Rattle.std.specs.FinMap as map
use Rattle.volume_terms.specs.Sizes.{root_number}
use Rattle.posix_profile.specs.State.{Object, State}
use Rattle.posix_profile.specs.Names.{is_named, is_open, prune}
use Rattle.posix_profile.specs.laws.Map.{get_removed, removed_none, get_retained}
use Rattle.posix_profile.specs.laws.Name.{named_from_test, test_from_named, open_from_test, test_from_open}
use Rattle.posix_profile.specs.laws.Prune.{IsCommittedKey}

abbrev keep_test : State → ℕ → Bool
keep_test s o = nat_eq o root_number || is_named s.objects o || is_open s o

committed_from_test : (s : State) (o : ℕ) → keep_test s o ≡ true → IsCommittedKey s o
committed_from_test s o e = elim (or_cases (nat_eq o root_number || is_named s.objects o) (is_open s o) e) [
  | inl f ↦ elim (or_cases (nat_eq o root_number) (is_named s.objects o) f) [
    | inl top ↦ inl (eqb-true o root_number top)
    | inr named ↦ inr (inl (named_from_test s.objects o named))
  ]
  | inr open' ↦ inr (inr (open_from_test s o open'))
]

test_from_committed : (s : State) (o : ℕ) → IsCommittedKey s o → keep_test s o ≡ true
test_from_committed s o (inl top) = or_left (nat_eq o root_number || is_named s.objects o) (is_open s o) (or_left (nat_eq o root_number) (is_named s.objects o) (eq-eqb o root_number top))
test_from_committed s o (inr (inl named)) = or_left (nat_eq o root_number || is_named s.objects o) (is_open s o) (or_right (nat_eq o root_number) (is_named s.objects o) (test_from_named s.objects o named))
test_from_committed s o (inr (inr open')) = or_right (nat_eq o root_number || is_named s.objects o) (is_open s o) (test_from_open s o open')

none_left : (b : Bool) (x : Option Object) → x ≡ None → cond b x None ≡ x
none_left true x e = refl
none_left false x e = sym e

-- what the prune leaves of an object that is committed
stays : (s : State) (o : ℕ) → ((x : Object) → map.get s.objects o ≡ Some x → IsCommittedKey s o) → map.get (prune s).objects o ≡ map.get s.objects o
stays s o committed = get_retained nat_cmp_total map.nat_cmp-IsAntisymmetric s.objects (keep_test s) o ∙ go (map.get s.objects o) refl
  where
    go : (x : Option Object) → map.get s.objects o ≡ x → cond (keep_test s o) (map.get s.objects o) None ≡ map.get s.objects o
    go None e = none_left (keep_test s o) (map.get s.objects o) e
    go (Some x) e = cond-true _ _ _ (test_from_committed s o (committed x e))

pub prune_none : (s : State) → ((k : ℕ) (x : Object) → map.get s.objects k ≡ Some x → IsCommittedKey s k) → (prune s).objects ≡ s.objects
prune_none s committed = map.same_map nat_cmp_total map.nat_cmp-IsAntisymmetric _ _ (λ k. stays s k (committed k))

pub prune_one : (s : State) (o : ℕ) → ((k : ℕ) (x : Object) → k ≢ o → map.get s.objects k ≡ Some x → IsCommittedKey s k) → (IsCommittedKey s o → ⊥) → (prune s).objects ≡ map.remove s.objects o
prune_one s o committed not' = map.same_map nat_cmp_total map.nat_cmp-IsAntisymmetric _ _ (λ k. elim (cases_eq k o) [
  | inl is ↦
      get_retained nat_cmp_total map.nat_cmp-IsAntisymmetric s.objects (keep_test s) k
      ∙ cond-false _ _ _ (false_from_ne_true _ (λ e. not' (committed_from_test s o (ap (keep_test s) (sym is) ∙ e))))
      ∙ sym (removed_none nat_cmp_total map.nat_cmp-IsAntisymmetric s.objects o) ∙ ap (map.get (map.remove s.objects o)) (sym is)
  | inr ne ↦ stays s k (λ x. committed k x ne) ∙ sym (get_removed nat_cmp_total map.nat_cmp-IsAntisymmetric s.objects o k ne)
])
