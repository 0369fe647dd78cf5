-- The hash of a name.
use Rattle.std.specs.Prelude.{ℕ, ◌*◌, ◌^◌, ◌%◌, List, bit_xor}
use Rattle.std.specs.List.{fold}

-- FNV-1a of 32 bits, a byte more: the exclusive or with the byte, times the prime
abbrev pub fnv1a_step : ℕ → ℕ → ℕ
fnv1a_step hash byte = (bit_xor hash byte * 16777619) % 2 ^ 32

-- FNV-1a of 32 bits: from its offset basis on, byte by byte
abbrev pub fnv1a : List ℕ → ℕ
fnv1a bytes = fold fnv1a_step 2166136261 bytes
