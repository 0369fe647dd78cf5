-- How a number stands to a run.
use Rattle.std.specs.Prelude.{◌<◌, ◌≤◌, ℕ, List, length}
use Rattle.name_index.specs.Lists.{IsIn}
use Rattle.name_index.specs.declared.standing.Standing.{Standing}
use Rattle.name_index.specs.declared.standing.Standing.TheVariants as standings

-- the run has the number, or has not and is not full, or has not and is full
abbrev pub IsStanding : List ℕ → ℕ → Standing → Type 0
IsStanding xs x standings.Held = IsIn xs x
IsStanding xs x standings.Fits = (IsIn xs x → ⊥) × (length xs < 64)
IsStanding xs x standings.Full = (IsIn xs x → ⊥) × (64 ≤ length xs)
