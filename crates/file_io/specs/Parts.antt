-- The part of a range of a file that lies in one of its chunks.
use Rattle.std.specs.Prelude.{◌<◌, ℕ, ◌+◌, ◌-◌, ◌*◌, List, take, drop, min, max}

-- a range of bytes has some in chunk k: the chunk begins before the end of the range, and ends behind where this begins
pub record MeetsChunk (d k off end : ℕ) : Type 0 where
  pub begins : k * d < end
  pub ends : off < k * d + d

-- where the part begins and where it ends
abbrev pub part_from : ℕ → ℕ → ℕ → ℕ
part_from d k off = max off (k * d)

abbrev pub part_to : ℕ → ℕ → ℕ → ℕ
part_to d k end = min end (k * d + d)

-- the bytes of the part of chunk k
abbrev pub part_of : (d k off end : ℕ) → List ℕ → List ℕ
part_of d k off end all = take (part_to d k end - part_from d k off) (drop (part_from d k off) all)
