-- The pieces of a word.
use Rattle.std.specs.Prelude.{◌≡◌, ◌≤◌, ℕ, List, drop, length, Option, Some, None}
use Rattle.line_shell.specs.Words.{onto, unescaped}

-- the byte before the text, if there is one
abbrev pub before : Option ℕ → Option (List ℕ) → Option (List ℕ)
before None rest = rest
before (Some byte) rest = onto byte rest

-- the first bytes of the word, so many, represent this byte or for none
pub record IsPiece (word : List ℕ) (byte : Option ℕ) (size : ℕ) : Type 0 where
  pub some : 1 ≤ size
  pub within : size ≤ length word
  pub reads : unescaped word ≡ before byte (unescaped (drop size word))
