-- Counts and sums over the blocks.
use Rattle.std.specs.Prelude.{ℕ, Bool, count_by}
use Rattle.std.specs.List.{range_with_len, sum_by}

-- how many of the numbers below n have the property
abbrev pub how_many : (ℕ → Bool) → ℕ → ℕ
how_many f n = count_by f (range_with_len 0 n)

-- the sum of what the numbers below n have
abbrev pub sum_below : (ℕ → ℕ) → ℕ → ℕ
sum_below f n = sum_by f (range_with_len 0 n)
