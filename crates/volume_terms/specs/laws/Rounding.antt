-- Quotients: rounded down and up, and the parts of n that something takes.
use Rattle.std.specs.Prelude.{◌≡◌, ◌<◌, ◌≤◌, ℕ, ◌+◌, ◌-◌, ◌*◌, ◌/◌, ◌%◌, min}
use Rattle.std.proofs.Common.{inl, inr, arith}
use Rattle.std.proofs.Math.Nat.{div-mul-le_self, mul-le-mul_right}
use Rattle.std.proofs.lemmas.Bool.{cases_lt}
use Rattle.std.proofs.lemmas.Grind.{common_steps, div_ceil_times}
use Rattle.std.specs.Int.{div_ceil}
use Rattle.volume_terms.specs.Rounding.{ceiling}

-- two ways to round up
pub ceiling_is : (n d : ℕ) → 0 < d → div_ceil n d ≡ ceiling n d
ceiling_is n d some = grind (arith, common_steps)

-- a greater number has no smaller quotient
pub div_le : (m n d : ℕ) → m ≤ n → m / d ≤ n / d
div_le m n d le = grind arith

-- nor one that is rounded up
pub ceiling_le : (m n d : ℕ) → m ≤ n → ceiling m d ≤ ceiling n d
ceiling_le m n d le = div_le _ _ d (omega arith)

-- in parts of n, each that len takes begins within it
pub part_begins : (len n c : ℕ) → 1 ≤ n → c < div_ceil len n → c * n < len
part_begins len n c some less =
    let le : (c + 1) * n ≤ (len / n + min 1 (len % n)) * n = mul-le-mul_right n (omega (arith, less)) in
    let times = div_ceil_times len n some in
    omega (arith, le, times.1, some)

-- and together they reach its end
pub parts_reach : (len n c : ℕ) → 1 ≤ n → div_ceil len n ≤ c → len ≤ c * n
parts_reach len n c some more =
    let le : (len / n + min 1 (len % n)) * n ≤ c * n = mul-le-mul_right n more in
    let times = div_ceil_times len n some in
    omega (arith, le, times.0)

-- part c ends where the next one begins, or at the end
pub part_end : (n len c count : ℕ) → count ≡ min n (len - c * n) → min len (c * n) + count ≡ min len ((c + 1) * n)
part_end n len c count is = grind arith

-- the part of a place within len is one that len takes
pub part_within : (i len n : ℕ) → 1 ≤ n → i < len → i / n < div_ceil len n
part_within i len n some less = elim (cases_lt (i / n) (div_ceil len n)) [
  | inl under ↦ under
  | inr over ↦ let high = parts_reach len n (i / n) some over in absurd (omega (arith, high, less, div-mul-le_self i n))
]

-- parts of 272 that fit a size are no more than its quotient
pub slots_fit : (n size count : ℕ) → n ≡ size → 272 * count ≤ size → count ≤ n / 272
slots_fit n size count same room = omega (arith, same, room)
