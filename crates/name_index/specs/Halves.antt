-- The upper part of a full run.
use Rattle.std.specs.Prelude.{◌≡◌, ◌<◌, ℕ, List, length, drop, Option, Some, None}
use Rattle.name_index.specs.declared.run.Run.{Run}

-- there is none, or it has the numbers from the thirty-second on
abbrev pub IsUpperPart : List ℕ → Option Run → Type 0
IsUpperPart xs None = Unit {0}
IsUpperPart xs (Some upper) = (32 < length xs) × (upper.numbers.items ≡ drop 32 xs)
