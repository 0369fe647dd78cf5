-- What a shell does with the lines of its input.
use Rattle.std.specs.Prelude.{◌≡◌, ◌⊎◌, ◌<◌, ◌≤◌, ℕ, List, [], ◌∷◌, ◌++◌, length, map, All, Option, IfSome, OnSome, Result, Ok, Err}
use Rattle.std.specs.Io.KnownBytes.{Keeps, Appends, IsAtEnd}
use Rattle.posix_profile.specs.declared.command.Stamped.{Stamped}
use Rattle.posix_profile.specs.declared.reply.Reply.{Reply}
use Rattle.posix_profile.specs.declared.reply.Reply.TheVariants as replies
use Rattle.line_shell.specs.Commands.{line_of}
use Rattle.line_shell.specs.Lines.{whole_lines, without_end, line_size, longest_line, most_lines}
use Rattle.line_shell.specs.Replies.{reply_text, bad_line_text}
use Rattle.line_shell.specs.Written.{AppendsPart}
use Rattle.line_shell.specs.declared.line.Line.{Line}
use Rattle.line_shell.specs.declared.line.Line.TheVariants as lines
use Rattle.line_shell.specs.declared.fault.ShellFault.{ShellFault}
use Rattle.line_shell.specs.declared.fault.ShellFault.TheVariants as faults

-- what is between two lines: the moment that commands get, and what serves them
pub record Session (V : Type 0) : Type 0 where
  pub moment : ℕ
  pub volume : V

-- a line is answered with the text, and leads from one session to the next
abbrev pub Answers : {V : Type 0} → (V → Stamped → Reply → V → Type 0) → Line → Session V → List ℕ → Session V → Type 0
Answers serves lines.Nothing old text new = (text ≡ []) × (new ≡ old)
Answers serves (lines.Now moment) old text new = (text ≡ reply_text replies.Done) × (new ≡ record old { moment = moment })
Answers serves (lines.Do command) old text new =
    (reply : Reply) × (text ≡ reply_text reply) × serves old.volume (record { moment = old.moment; command = command }) reply new.volume × (new.moment ≡ old.moment)
Answers serves lines.Bad old text new = (text ≡ bad_line_text) × (new ≡ old)

-- the lines are answered in turn, each from the session that the one before it left
unfoldable pub Run : {V : Type 0} → (V → Stamped → Reply → V → Type 0) → List (List ℕ) → Session V → List ℕ → Session V → Type 0
Run serves [] old text new = (text ≡ []) × (new ≡ old)
Run {V} serves (line ∷ lines) old text new =
    (first : List ℕ) × (rest : List ℕ) × (middle : Session V) × (text ≡ first ++ rest)
    × Answers serves (line_of line) old first middle × Run serves lines middle rest new

-- the text is out, unless the writer failed
abbrev pub IsStated : Option (List ℕ) → Option (List ℕ) → List ℕ → Result (Unit {0}) ShellFault → Type 0
IsStated old new text (Ok done) = Appends old new text
IsStated old new text (Err faults.Write) = AppendsPart old new text
IsStated old new text (Err fault) = ⊥

-- a command was called, and its reply written
pub record Calls {V : Type 0} (serves : V → Stamped → Reply → V → Type 0) (command : Stamped) (old new : V) (before after : Option (List ℕ)) (result : Result (Unit {0}) ShellFault) : Type 0 where
  pub reply : Reply
  pub served : serves old command reply new
  pub reported : IsStated before after (reply_text reply) result

-- what a line asks for was done, and the answer written
abbrev pub Obeys : {V : Type 0} → (V → Stamped → Reply → V → Type 0) → Line → Session V → Option (List ℕ) → Option (List ℕ) → V → Result ℕ ShellFault → Type 0
Obeys serves line old before after new (Ok moment) =
    (text : List ℕ) × Answers serves line old text (record { moment = moment; volume = new }) × Appends before after text
Obeys serves line old before after new (Err faults.Write) =
    (text : List ℕ) × (moment : ℕ) × Answers serves line old text (record { moment = moment; volume = new }) × AppendsPart before after text
Obeys serves line old before after new (Err fault) = ⊥

-- a line was answered, unless memory was refused before anything was done
abbrev pub AnswersLine : {V : Type 0} → (V → Stamped → Reply → V → Type 0) → List ℕ → Session V → Option (List ℕ) → Option (List ℕ) → V → Result ℕ ShellFault → Type 0
AnswersLine serves line old before after new (Err faults.NoMemory) = (new ≡ old.volume) × Keeps before after
AnswersLine serves line old before after new result = Obeys serves (line_of line) old before after new result

-- Lines were answered in turn, from the moment 0 on, and the answers are out.
pub record AnswersAll {V : Type 0} (serves : V → Stamped → Reply → V → Type 0) (lines : List (List ℕ)) (before after : Option (List ℕ)) (old new : V) : Type 0 where
  pub text : List ℕ
  pub moment : ℕ
  pub run : Run serves (map without_end lines) (record { moment = 0; volume = old }) text (record { moment = moment; volume = new })
  pub reported : Appends before after text

-- Lines were answered in turn, from the moment 0 on, until the writer failed: what the last line asks for was done, the answers to the lines before it are out, and of its own a first part, not the whole.
pub record StopsAt {V : Type 0} (serves : V → Stamped → Reply → V → Type 0) (lines : List (List ℕ)) (before after : Option (List ℕ)) (old new : V) : Type 0 where
  pub front : List (List ℕ)
  pub last : List ℕ
  pub text : List ℕ
  pub part : List ℕ
  pub rest : List ℕ
  pub middle : Session V
  pub moment : ℕ
  pub lines_are : lines ≡ front ++ (last ∷ [])
  pub run : Run serves (map without_end front) (record { moment = 0; volume = old }) text middle
  pub answer : Answers serves (line_of (without_end last)) middle (part ++ rest) (record { moment = moment; volume = new })
  pub short : 1 ≤ length rest
  pub reported : Appends before after (text ++ part)

-- the lines were answered and the answers are out, but for the answer in which the writer failed
abbrev pub AreReported : {V : Type 0} → (V → Stamped → Reply → V → Type 0) → List (List ℕ) → Option (List ℕ) → Option (List ℕ) → V → V → Result (Unit {0}) ShellFault → Type 0
AreReported serves lines before after old new (Err faults.Write) = StopsAt serves lines before after old new
AreReported serves lines before after old new result = AnswersAll serves lines before after old new

-- which lines of the input were answered: all of them, those before one that is too long or one too many, or some first ones
abbrev pub AreAnswered : List ℕ → List (List ℕ) → Result (Unit {0}) ShellFault → Type 0
AreAnswered input answered (Ok done) = whole_lines input ≡ answered
AreAnswered input answered (Err faults.TooLong) =
    (next : List ℕ) × (rest : List (List ℕ)) × (whole_lines input ≡ answered ++ (next ∷ rest)) × ((longest_line < line_size next) ⊎ (length answered ≡ most_lines))
AreAnswered input answered (Err fault) = (rest : List (List ℕ)) × (whole_lines input ≡ answered ++ rest)

-- the input is read to its end where all was answered
abbrev pub IsRead : Option (List ℕ) → Option (List ℕ) → Result (Unit {0}) ShellFault → Type 0
IsRead input left (Ok done) = OnSome input (IsAtEnd left)
IsRead input left (Err fault) = Unit {0}

-- What a shell did with something that serves: it answered lines, neither too long nor too many, and written the answers.
pub record Shell {V : Type 0} (serves : V → Stamped → Reply → V → Type 0) (input left before after : Option (List ℕ)) (old new : V) (result : Result (Unit {0}) ShellFault) : Type 0 where
  pub answered : List (List ℕ)
  pub reported : AreReported serves answered before after old new result
  pub short : All (λ line. line_size line ≤ longest_line) answered
  pub within_limit : length answered ≤ most_lines
  pub lines : IfSome input (λ bytes. AreAnswered bytes answered result)
  pub read : IsRead input left result
