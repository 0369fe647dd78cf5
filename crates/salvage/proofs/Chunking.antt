-- Which slots a chunk of a directory has.
use Rattle.std.specs.Prelude.{◌≡◌, ◌<◌, ◌≤◌, ℕ, ◌+◌, ◌-◌, ◌*◌, min}
use Rattle.std.specs.Int.{div_ceil}
use Rattle.std.proofs.Common.{sym, ◌∙◌, ap, arith}
use Rattle.volume_terms.specs.laws.Rounding.{part_begins, parts_reach, part_end}

-- chunk c of those that hold so many slots, n on a page
pub record IsChunk (len n c count : ℕ) : Type 0 where
  pub start : min len (c * n) ≡ c * n
  pub most : c * n + count ≤ len
  pub end : c * n + count ≡ min len ((c + 1) * n)

pub is_chunk : (len n c count : ℕ) → 1 ≤ n → c < div_ceil len n → count ≡ min n (len - c * n) → IsChunk len n c count
is_chunk len n c count some less is =
    let within : c * n < len = part_begins len n c some less in
    let start : min len (c * n) ≡ c * n = grind arith in
    record {
      start = start;
      most = grind arith;
      end = ap (λ k. k + count) (sym start) ∙ part_end n len c count is;
    }

-- after the last chunk there are all
pub all_chunks : (len n c : ℕ) → 1 ≤ n → div_ceil len n ≤ c → min len (c * n) ≡ len
all_chunks len n c some more = let all = parts_reach len n c some more in grind arith
