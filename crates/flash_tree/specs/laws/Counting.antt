-- Counting over the numbers from a on, one by one.
use Rattle.std.specs.Prelude.{◌≡◌, ℕ, zero, suc, ◌+◌, Bool, true, false, cond, [], count_by}
use Rattle.std.specs.List.{range_with_len}
use Rattle.std.proofs.Common.{◌∙◌, ap, arith}
use Rattle.std.proofs.Math.Numerals.{add-one}
use Rattle.std.proofs.lemmas.List.Sums.{sum_by-cons}

-- one more number is in the count where it passes
count_longer : (p : ℕ → Bool) (a n : ℕ) → count_by p (range_with_len a (suc n)) ≡ count_by p (range_with_len a n) + cond (p (a + n)) 1 0
count_longer p a zero =
    let w : ℕ → ℕ = λ x. cond (p x) 1 0 in
    let here : count_by p (range_with_len a 1) ≡ w a + count_by p (range_with_len a 0) = sum_by-cons w a [] in
    let at : w (a + 0) ≡ w a = ap w (omega arith) in
    omega (arith, here, at)
count_longer p a (suc n) =
    let w : ℕ → ℕ = λ x. cond (p x) 1 0 in
    let here : count_by p (range_with_len a (suc (suc n))) ≡ w a + count_by p (range_with_len (a + 1) (suc n)) = sum_by-cons w a (range_with_len (a + 1) (suc n)) in
    let less : count_by p (range_with_len a (suc n)) ≡ w a + count_by p (range_with_len (a + 1) n) = sum_by-cons w a (range_with_len (a + 1) n) in
    let rest = count_longer p (a + 1) n in
    let at : w (a + 1 + n) ≡ w (a + suc n) = ap w (omega arith) in
    omega (arith, here, less, rest, at)

-- the next number passes, or it doesn't
pub totaled : (p : ℕ → Bool) (n : ℕ) → p n ≡ true → count_by p (range_with_len 0 (n + 1)) ≡ count_by p (range_with_len 0 n) + 1
totaled p n is =
    let at : p (0 + n) ≡ true = ap p (omega arith) ∙ is in
    rw (add-one n) (count_longer p 0 n ∙ ap (λ b. count_by p (range_with_len 0 n) + cond b 1 0) at)

pub passed_over : (p : ℕ → Bool) (n : ℕ) → p n ≡ false → count_by p (range_with_len 0 (n + 1)) ≡ count_by p (range_with_len 0 n)
passed_over p n not =
    let at : p (0 + n) ≡ false = ap p (omega arith) ∙ not in
    rw (add-one n) (count_longer p 0 n ∙ ap (λ b. count_by p (range_with_len 0 n) + cond b 1 0) at ∙ omega arith)
