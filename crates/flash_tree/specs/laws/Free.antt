-- Free blocks, by a test that picks them.
use Rattle.std.specs.Prelude.{◌≡◌, ◌<◌, ◌≤◌, ℕ, zero, suc, ◌+◌, Bool, true, cond, List, [], ◌∷◌, length, None, Some, slice_get, count_by}
use Rattle.std.specs.List.{range_with_len}
use Rattle.std.proofs.Common.{refl, sym, ◌∙◌, ap, inl, inr, arith}
use Rattle.std.proofs.lemmas.Bool.{cases_Bool}
use Rattle.std.proofs.lemmas.List.Sums.{sum_by-cons}
use Rattle.nand_model.specs.Flash.{Flash}
use Rattle.nand_model.specs.declared.geometry.Geometry.{Geometry}
use Rattle.posix_profile.specs.State.{Objects}
use Rattle.volume_terms.specs.Sizes.{Sizes}
use Rattle.flash_tree.specs.Mount.{IsFree, HasFree}

-- so many different numbers from a on, below a + n, that a test picks
record IsChoice (f : ℕ → Bool) (a n count : ℕ) : Type 0 where
  chosen : List ℕ
  size : length chosen ≡ count
  once : (i j b : ℕ) → slice_get chosen i ≡ Some b → slice_get chosen j ≡ Some b → i ≡ j
  each : (i b : ℕ) → slice_get chosen i ≡ Some b → (a ≤ b) × (b < a + n) × (f b ≡ true)

no_choice : (f : ℕ → Bool) (a n : ℕ) → IsChoice f a n 0
no_choice f a n = record {
  chosen = [];
  size = refl;
  once = λ i j b is. let two : None ≡ Some b = is in absurd cc;
  each = λ i b is. let two : None ≡ Some b = is in absurd cc;
}

-- the first number, before others
choice_cons : (f : ℕ → Bool) (a n count : ℕ) → f a ≡ true → IsChoice f (a + 1) n count → IsChoice f a (suc n) (suc count)
choice_cons f a n count is rest = record { chosen = a ∷ rest.chosen; size = omega (arith, rest.size); once = once; each = each } where
  each : (i b : ℕ) → slice_get (a ∷ rest.chosen) i ≡ Some b → (a ≤ b) × (b < a + suc n) × (f b ≡ true)
  each zero b at = let same : a ≡ b = cc in (omega (arith, same), omega (arith, same), ap f (sym same) ∙ is)
  each (suc i) b at = let other = rest.each i b at in (omega (arith, other.0), omega (arith, other.1), other.2)

  once : (i j b : ℕ) → slice_get (a ∷ rest.chosen) i ≡ Some b → slice_get (a ∷ rest.chosen) j ≡ Some b → i ≡ j
  once zero zero b x y = refl
  once zero (suc j) b x y = let same : a ≡ b = cc in absurd (omega (arith, same, (rest.each j b y).0))
  once (suc i) zero b x y = let same : a ≡ b = cc in absurd (omega (arith, same, (rest.each i b x).0))
  once (suc i) (suc j) b x y = ap suc (rest.once i j b x y)

choice_later : (f : ℕ → Bool) (a n count : ℕ) → IsChoice f (a + 1) n count → IsChoice f a (suc n) count
choice_later f a n count rest = record {
  chosen = rest.chosen;
  size = rest.size;
  once = rest.once;
  each = λ i b at. let other = rest.each i b at in (omega (arith, other.0), omega (arith, other.1), other.2);
}

-- as many as there are can be chosen
choose : (f : ℕ → Bool) (a n count : ℕ) → count ≤ count_by f (range_with_len a n) → IsChoice f a n count
choose f a n zero le = no_choice f a n
choose f a zero (suc count) le = absurd (omega (arith, le))
choose f a (suc n) (suc count) le =
    let all : count_by f (range_with_len a (suc n)) ≡ cond (f a) 1 0 + count_by f (range_with_len (a + 1) n) = sum_by-cons (λ k. cond (f k) 1 0) a (range_with_len (a + 1) n) in
    elim (cases_Bool (f a)) [
      | inl is ↦ let one : cond {A = ℕ} (f a) 1 0 ≡ 1 = ap (λ b. cond b 1 0) is in choice_cons f a n count is (choose f (a + 1) n count (omega (arith, le, all, one)))
      | inr not ↦ let none : cond {A = ℕ} (f a) 1 0 ≡ 0 = ap (λ b. cond b 1 0) not in choice_later f a n (suc count) (choose f (a + 1) n (suc count) (omega (arith, le, all, none)))
    ]

-- so many blocks as a test picks, where it picks only free ones, are free
pub free_of_picked : (g : Geometry) (flash : Flash) (z : Sizes) (objects : Objects) (f : ℕ → Bool) (count : ℕ)
    → ((b : ℕ) → b < g.blocks → f b ≡ true → IsFree g flash z objects b) → count ≤ count_by f (range_with_len 0 g.blocks) → HasFree g flash z objects count
free_of_picked g flash z objects f count free le =
    let choice = choose f 0 g.blocks count le in
    record {
      blocks = choice.chosen;
      size = choice.size;
      once = choice.once;
      each = λ i b at. let is = choice.each i b at in free b (omega (arith, is.1)) is.2;
    }
