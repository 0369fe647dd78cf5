-- What a call keeps that is a step of a loop.
-- From: this project.
use Rattle.std.specs.Prelude.{ℕ, ◌+◌, Result, OnOk}

-- once the call is done, what held before it of the first n holds after it of so many more
abbrev pub ExtendsBy : {S T E : Type 0} → (count : ℕ) → (ℕ → S → Type 0) → ℕ → (old new : S) → Result T E → Type 0
ExtendsBy count P n old new result = P n old → OnOk result (P (n + count) new)
