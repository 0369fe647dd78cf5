-- What a function that writes a text leaves in a writer, where that is known.
use Rattle.std.specs.Prelude.{◌≡◌, ◌≤◌, List, ℕ, ◌++◌, length, Option, Result, Ok, Err}
use Rattle.std.specs.Io.KnownBytes.{Appends}

-- the writer holds a first part of the text more, and not the whole
pub record AppendsPart (old new : Option (List ℕ)) (text : List ℕ) : Type 0 where
  pub part : List ℕ
  pub rest : List ℕ
  pub whole : text ≡ part ++ rest
  pub short : 1 ≤ length rest
  pub appended : Appends old new part

-- the text was written, or where that failed a first part of it alone
abbrev pub Writes : {E : Type 0} → Option (List ℕ) → Option (List ℕ) → List ℕ → Result (Unit {0}) E → Type 0
Writes old new text (Ok done) = Appends old new text
Writes old new text (Err fault) = AppendsPart old new text
