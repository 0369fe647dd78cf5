-- What reading a line does to the bytes that a reader has left, where these are known.
use Rattle.std.specs.Prelude.{◌≡◌, ◌≢◌, ◌<◌, ◌≤◌, ◌+◌, ℕ, Bool, true, false, List, [], ◌∷◌, ◌++◌, length, All, Option, Some, None, IfSome, OnSome, Result, Ok, Err}
use Rattle.std.specs.Io.KnownBytes.{Keeps, Consumes, IsAtEnd}
use Rattle.line_shell.specs.Lines.{whole_lines, without_end, line_size, longest_line}
use Rattle.line_shell.specs.Replies.{newline}
use Rattle.line_shell.specs.declared.fault.ShellFault.{ShellFault}
use Rattle.line_shell.specs.declared.fault.ShellFault.TheVariants as faults
use Rattle.line_shell.specs.declared.input.Stop.{Stop}
use Rattle.line_shell.specs.declared.input.Stop.TheVariants as stops

-- no byte is a newline
abbrev pub IsWithoutNewline : List ℕ → Type 0
IsWithoutNewline bytes = All (λ b. b ≢ newline) bytes

-- the input begins with so many bytes without a newline that, after those before them, they are more than a line may have
pub record IsTooLong (before : ℕ) (input : List ℕ) : Type 0 where
  pub front : List ℕ
  pub rest : List ℕ
  pub begins : input ≡ front ++ rest
  pub no_newline : IsWithoutNewline front
  pub long : longest_line < before + length front

-- the input was at its end, and is
abbrev pub IsEnded : Option (List ℕ) → Option (List ℕ) → Type 0
IsEnded old new = IsAtEnd old × Keeps old new

-- a line grew by the bytes that were taken, which have no newline
pub record Takes (old new : Option (List ℕ)) (before after ended : List ℕ) : Type 0 where
  pub more : List ℕ
  pub grown : after ≡ before ++ more
  pub no_newline : IsWithoutNewline more
  pub taken : Consumes old new (more ++ ended)

-- what one look at the reader did to the line
abbrev pub TakesSome : Option (List ℕ) → Option (List ℕ) → List ℕ → List ℕ → Result Stop ShellFault → Type 0
TakesSome old new before after (Ok stops.Newline) = Takes old new before after (newline ∷ [])
TakesSome old new before after (Ok stops.Pause) = Takes old new before after []
TakesSome old new before after (Ok stops.End) = (after ≡ before) × IsEnded old new
TakesSome old new before after (Err faults.TooLong) = IfSome old (λ input. IsTooLong (length before) input)
TakesSome old new before after (Err faults.Write) = ⊥
TakesSome old new before after (Err fault) = Unit {0}

-- what is taken up to a newline, or to the end of the input
abbrev pub TakesLine : Option (List ℕ) → Option (List ℕ) → List ℕ → Result Bool ShellFault → Type 0
TakesLine old new line (Ok true) = IsWithoutNewline line × Consumes old new (line ++ (newline ∷ []))
TakesLine old new line (Ok false) = IsWithoutNewline line × Consumes old new line × OnSome old (IsAtEnd new)
TakesLine old new line (Err faults.TooLong) = IfSome old (λ input. IsTooLong 0 input)
TakesLine old new line (Err faults.Write) = ⊥
TakesLine old new line (Err fault) = Unit {0}

-- the lines of the input begin with this one
abbrev pub NextLine : Option (List ℕ) → Option (List ℕ) → List ℕ → Type 0
NextLine None new line = Unit {0}
NextLine (Some input) None line = ⊥
NextLine (Some input) (Some rest) line = whole_lines input ≡ line ∷ whole_lines rest

-- a line that is not too long was read
pub record ReadsNext (old new : Option (List ℕ)) (line : List ℕ) : Type 0 where
  pub whole : List ℕ
  pub text : line ≡ without_end whole
  pub short : line_size whole ≤ longest_line
  pub next : NextLine old new whole

-- the first line of the input is too long
pub record LineIsTooLong (input : List ℕ) : Type 0 where
  pub next : List ℕ
  pub rest : List (List ℕ)
  pub lines : whole_lines input ≡ next ∷ rest
  pub long : longest_line < line_size next

-- the next line is read, or the input is at its end, or the line is too long
abbrev pub ReadsLine : Option (List ℕ) → Option (List ℕ) → List ℕ → Result Bool ShellFault → Type 0
ReadsLine old new line (Ok true) = ReadsNext old new line
ReadsLine old new line (Ok false) = IsEnded old new
ReadsLine old new line (Err faults.TooLong) = IfSome old LineIsTooLong
ReadsLine old new line (Err faults.Write) = ⊥
ReadsLine old new line (Err fault) = Unit {0}

-- whether the input has more bytes; where not, it is at its end
abbrev pub ReportsMore : Option (List ℕ) → Option (List ℕ) → Result Bool ShellFault → Type 0
ReportsMore old new (Ok true) = IfSome old (λ input. 0 < length input)
ReportsMore old new (Ok false) = IsEnded old new
ReportsMore old new (Err faults.Read) = Unit {0}
ReportsMore old new (Err fault) = ⊥
