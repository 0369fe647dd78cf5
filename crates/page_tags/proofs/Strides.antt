-- Zeros in the parts of bytes.
use Rattle.std.proofs.Common.{◌≡◌, ◌<◌, ℕ, ◌+◌, ◌-◌, List, length, drop, get_or, sym, ap, ◌∙◌, inl, inr, subst, EachIndex, length-drop, arith}
use Rattle.std.proofs.lemmas.Bool.{cases_lt}
use Rattle.std.proofs.lemmas.List.{get_or-drop}

-- the first of them and as many after these
pub zero_in_both :
    (bytes : List ℕ) (half : ℕ) → ((k : ℕ) → k < half → (get_or bytes k 0 ≡ 0) × (get_or bytes (half + k) 0 ≡ 0))
    → (i : ℕ) → i < half + half → get_or bytes i 0 ≡ 0
zero_in_both bytes half zero i within = elim (cases_lt i half) [
  | inl low ↦ (zero i low).0
  | inr high ↦
      let behind : i - half < half = omega (arith, high, within) in
      let same : half + (i - half) ≡ i = omega (arith, high) in
      subst (λ k. get_or bytes k 0 ≡ 0) same (zero (i - half) behind).1
]

-- the first n of them and the rest
pub each_from_parts :
    (bytes rest : List ℕ) (n : ℕ) → rest ≡ drop n bytes → ((i : ℕ) → i < n → get_or bytes i 0 ≡ 0) → EachIndex rest (λ i. get_or rest i 0 ≡ 0)
    → EachIndex bytes (λ i. get_or bytes i 0 ≡ 0)
each_from_parts bytes rest n is first zeros i within = elim (cases_lt i n) [
  | inl low ↦ first i low
  | inr high ↦
      let len : length rest ≡ length bytes - n = ap length is ∙ length-drop n bytes in
      let behind : i - n < length rest = omega (arith, high, within, len) in
      let same : n + (i - n) ≡ i = omega (arith, high) in
      subst (λ k. get_or bytes k 0 ≡ 0) same (sym (get_or-drop n bytes (i - n) 0) ∙ sym (ap (λ xs. get_or xs (i - n) 0) is) ∙ zeros (i - n) behind)
]

pub rest_from_each : (bytes rest : List ℕ) (n : ℕ) → rest ≡ drop n bytes → EachIndex bytes (λ i. get_or bytes i 0 ≡ 0) → EachIndex rest (λ i. get_or rest i 0 ≡ 0)
rest_from_each bytes rest n is zeros i within =
    let len : length rest ≡ length bytes - n = ap length is ∙ length-drop n bytes in
    let low : n + i < length bytes = omega (arith, within, len) in
    ap (λ xs. get_or xs i 0) is ∙ get_or-drop n bytes i 0 ∙ zeros (n + i) low
