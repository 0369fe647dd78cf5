-- What a call keeps that is a step of a loop.
use Rattle.std.specs.Prelude.{ℕ, ◌+◌, Result, OnOk}

-- once the call is done, what held before it holds after it
abbrev pub Keeps : {S T E : Type 0} → (S → Type 0) → (old new : S) → Result T E → Type 0
Keeps P old new result = P old → OnOk result (P new)

-- once the call is done, what held before it of the first n holds after it of one more
abbrev pub Extends : {S T E : Type 0} → (ℕ → S → Type 0) → ℕ → (old new : S) → Result T E → Type 0
Extends P n old new result = P n old → OnOk result (P (n + 1) new)
