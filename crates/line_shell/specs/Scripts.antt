-- The commands that an input asks for.
use Rattle.std.specs.Prelude.{◌≡◌, ◌⊎◌, ◌<◌, ◌≤◌, ℕ, List, [], ◌∷◌, ◌++◌, length, map, All, Option, Some, None, IfSome, OnSome, option_map, Result, Ok, Err}
use Rattle.std.specs.Global.{Vec}
use Rattle.std.specs.Io.KnownBytes.{IsAtEnd}
use Rattle.posix_profile.specs.declared.command.Stamped.{Stamped}
use Rattle.line_shell.specs.Commands.{line_of}
use Rattle.line_shell.specs.Lines.{whole_lines, without_end, line_size, longest_line, most_lines, lines_of}
use Rattle.line_shell.specs.declared.line.Line.{Line}
use Rattle.line_shell.specs.declared.line.Line.TheVariants as lines
use Rattle.line_shell.specs.declared.fault.ShellFault.{ShellFault}
use Rattle.line_shell.specs.declared.fault.ShellFault.TheVariants as shell_faults
use Rattle.line_shell.specs.declared.script.ScriptFault.{ScriptFault}
use Rattle.line_shell.specs.declared.script.ScriptFault.TheVariants as faults

-- the moment of what comes after a line
abbrev pub moment_after : ℕ → Line → ℕ
moment_after moment lines.Nothing = moment
moment_after moment (lines.Now next) = next
moment_after moment (lines.Do command) = moment
moment_after moment lines.Bad = moment

-- the command of a line, if it asks for one, before the commands after it; none where the line is bad
abbrev pub with_line : ℕ → Line → Option (List Stamped) → Option (List Stamped)
with_line moment lines.Nothing later = later
with_line moment (lines.Now next) later = later
with_line moment (lines.Do command) later = option_map (λ commands. record { moment = moment; command = command } ∷ commands) later
with_line moment lines.Bad later = None

-- the commands that lines ask for, in order, where the first has this moment; none where one of the lines is bad
unfoldable pub commands_of : ℕ → List (List ℕ) → Option (List Stamped)
commands_of moment [] = Some []
commands_of moment (line ∷ rest) = with_line moment (line_of line) (commands_of (moment_after moment (line_of line)) rest)

-- a fault of the reading of lines, as one of the reading of a script
abbrev pub script_fault : ShellFault → ScriptFault
script_fault shell_faults.Read = faults.Read
script_fault shell_faults.TooLong = faults.TooLong
script_fault shell_faults.Write = faults.Read
script_fault shell_faults.NoMemory = faults.NoMemory

-- what a line asks for was added to the commands; a bad line is a fault
abbrev pub Collects : Line → ℕ → List Stamped → List Stamped → Result ℕ ScriptFault → Type 0
Collects lines.Nothing moment old new (Ok next) = (new ≡ old) × (next ≡ moment)
Collects (lines.Now later) moment old new (Ok next) = (new ≡ old) × (next ≡ later)
Collects (lines.Do command) moment old new (Ok next) = (new ≡ old ++ (record { moment = moment; command = command } ∷ [])) × (next ≡ moment)
Collects lines.Bad moment old new (Ok next) = ⊥
Collects line moment old new (Err faults.Line) = line ≡ lines.Bad
Collects line moment old new (Err faults.NoMemory) = Unit {0}
Collects line moment old new (Err fault) = ⊥

-- no line of the input is too long, there are not too many of them, and these are the commands that they ask for
pub record IsScript (input : List ℕ) (commands : List Stamped) : Type 0 where
  pub short : All (λ line. line_size line ≤ longest_line) (whole_lines input)
  pub within_limit : length (whole_lines input) ≤ most_lines
  pub issued : commands_of 0 (lines_of input) ≡ Some commands

-- a line of the input is bad, and none before it; up to it no line is too long or one too many
pub record HasBadLine (input : List ℕ) : Type 0 where
  pub before : List (List ℕ)
  pub line : List ℕ
  pub rest : List (List ℕ)
  pub commands : List Stamped
  pub lines_are : whole_lines input ≡ before ++ (line ∷ rest)
  pub short : All (λ line. line_size line ≤ longest_line) (before ++ (line ∷ []))
  pub within_limit : length before < most_lines
  pub good : commands_of 0 (map without_end before) ≡ Some commands
  pub bad : line_of (without_end line) ≡ lines.Bad

-- a line of the input is too long, or one too many, and none before it is bad
pub record HasLongLine (input : List ℕ) : Type 0 where
  pub before : List (List ℕ)
  pub line : List ℕ
  pub rest : List (List ℕ)
  pub commands : List Stamped
  pub lines_are : whole_lines input ≡ before ++ (line ∷ rest)
  pub good : commands_of 0 (map without_end before) ≡ Some commands
  pub long : (longest_line < line_size line) ⊎ (length before ≡ most_lines)

-- all commands of an input were read, or why they were not
abbrev pub IsReadAs : List ℕ → Result (Vec Stamped) ScriptFault → Type 0
IsReadAs input (Ok script) = IsScript input script.items
IsReadAs input (Err faults.Line) = HasBadLine input
IsReadAs input (Err faults.TooLong) = HasLongLine input
IsReadAs input (Err faults.Read) = Unit {0}
IsReadAs input (Err faults.NoMemory) = Unit {0}

-- where all commands were read the input is at its end
abbrev pub IsReadToEnd : Option (List ℕ) → Option (List ℕ) → Result (Vec Stamped) ScriptFault → Type 0
IsReadToEnd input left (Ok script) = OnSome input (IsAtEnd left)
IsReadToEnd input left (Err fault) = Unit {0}

-- an input was read as a script, where its bytes are known
pub record ReadsScript (input left : Option (List ℕ)) (result : Result (Vec Stamped) ScriptFault) : Type 0 where
  pub reported : IfSome input (λ bytes. IsReadAs bytes result)
  pub read : IsReadToEnd input left result
