-- Which block may have a checkpoint, once another has none.
use Rattle.std.specs.Prelude.{◌≡◌, ◌≢◌, ◌⊎◌, ℕ, Option, Some, None}
use Rattle.std.proofs.Common.{sym, ◌∙◌, ap, inl, inr, arith}
use Rattle.std.proofs.lemmas.Bool.{cases_eq}
use Rattle.block_state.specs.Table.{other_than}

-- what may have one besides a block is not in it
pub other_is_other : (b c : ℕ) (x : Option ℕ) → other_than b x ≡ Some c → (x ≡ Some c) × (c ≢ b)
other_is_other b c None is = let two : None ≡ Some c = is in absurd cc
other_is_other b c (Some k) is = elim (cases_eq k b) [
  | inl same ↦ let two : None ≡ Some c = sym (hidden k same) ∙ is in absurd cc
  | inr ne ↦ let both : Some k ≡ Some c = sym (left k ne) ∙ is in let e : k ≡ c = cc in (both, λ at. ne (e ∙ at))
] where
  hidden : (k : ℕ) → k ≡ b → other_than b (Some k) ≡ None
  hidden k same = grind (arith, same)

  left : (k : ℕ) → k ≢ b → other_than b (Some k) ≡ Some k
  left k ne = grind (arith, ne)

-- and where only the block may have one, none has one besides
pub other_than_it : (b : ℕ) (x : Option ℕ) → (x ≡ None) ⊎ (x ≡ Some b) → other_than b x ≡ None
other_than_it b x (inl none) = ap (other_than b) none
other_than_it b x (inr here) = ap (other_than b) here ∙ grind arith
