-- A run of a shell, line by line.
use Rattle.std.proofs.Common.{◌≡◌, ◌<◌, ◌≤◌, ◌+◌, ℕ, zero, suc, true, false, cond, eqb, List, [], ◌∷◌, ◌++◌, length, map, All, Option, Some, None, IfSome, OnSome, Ok, Err, refl, sym, ap, ◌∙◌, subst, inl, inr, arith, append-nil, append_assoc, length-append}
use Rattle.std.proofs.lemmas.List.{map-append}
use Rattle.std.proofs.lemmas.List.Elements.{All-append}
use Rattle.std.proofs.KnownBytes.{Appends-nil, Appends-trans, Appends-kept}
use Rattle.std.specs.Io.KnownBytes.{Appends, IsAtEnd}
use Rattle.posix_profile.specs.declared.command.Stamped.{Stamped}
use Rattle.posix_profile.specs.declared.reply.Reply.{Reply}
use Rattle.line_shell.specs.Commands.{line_of}
use Rattle.line_shell.specs.Lines.{whole_lines, without_end, line_size, longest_line, most_lines}
use Rattle.line_shell.specs.Reading.{IsEnded, NextLine, ReadsNext, LineIsTooLong, ReadsLine, ReportsMore}
use Rattle.line_shell.specs.Replies.{newline}
use Rattle.std.specs.List.{onto_first}
use Rattle.line_shell.specs.Runs.{Session, Answers, Run, IsStated, Obeys, AnswersLine, AnswersAll, AreReported, AreAnswered, Shell}
use Rattle.line_shell.specs.declared.line.Line.{Line}
use Rattle.line_shell.specs.declared.fault.ShellFault.{ShellFault}
use Rattle.line_shell.specs.declared.fault.ShellFault.TheVariants as faults

-- a run, and one line more
run_more : {V : Type 0} (serves : V → Stamped → Reply → V → Type 0) (lines : List (List ℕ)) (line : List ℕ) (old mid new : Session V) (text more : List ℕ)
    → Run serves lines old text mid → Answers serves (line_of line) mid more new → Run serves (lines ++ line ∷ []) old (text ++ more) new
unfolding Run
run_more serves [] line old mid new text more run answers =
    (more, [], new, ap (λ l. l ++ more) run.0 ∙ sym (append-nil more), subst (λ s. Answers serves (line_of line) s more new) run.1 answers, (refl, refl))
run_more serves (first ∷ lines) line old mid new text more run answers =
    (run.0, run.1 ++ more, run.2, ap (λ l. l ++ more) run.3 ∙ append_assoc run.0 run.1 more, run.4, run_more serves lines line run.2 mid new run.1 more run.5 answers)

-- the lines of the input are those answered, and those of what is left
abbrev pub LinesLeft : Option (List ℕ) → Option (List ℕ) → List (List ℕ) → Type 0
LinesLeft None left answered = Unit {0}
LinesLeft (Some input) None answered = ⊥
LinesLeft (Some input) (Some rest) answered = whole_lines input ≡ answered ++ whole_lines rest

-- what a shell has done after so many lines
pub record SoFar {V : Type 0} (serves : V → Stamped → Reply → V → Type 0) (input left before after : Option (List ℕ)) (old : V) (now : Session V) (count : ℕ) : Type 0 where
  answered : List (List ℕ)
  text : List ℕ
  run : Run serves (map without_end answered) (record { moment = 0; volume = old }) text now
  short : All (λ line. line_size line ≤ longest_line) answered
  totaled : length answered ≡ count
  reported : Appends before after text
  lines : LinesLeft input left answered

pub lines_none : (input : Option (List ℕ)) → LinesLeft input input []
lines_none None = tt
lines_none (Some input) = refl

pub lines_more : (input left next : Option (List ℕ)) (answered : List (List ℕ)) (line : List ℕ) → LinesLeft input left answered → NextLine left next line → LinesLeft input next (answered ++ line ∷ [])
lines_more None left next answered line so_far read = tt
lines_more (Some xs) None next answered line so_far read = absurd so_far
lines_more (Some xs) (Some ys) None answered line so_far read = absurd read
lines_more (Some xs) (Some ys) (Some zs) answered line so_far read = so_far ∙ ap (λ l. answered ++ l) read ∙ sym (append_assoc answered (line ∷ []) (whole_lines zs))

-- some lines are left, or none
pub lines_some : (input left : Option (List ℕ)) (answered : List (List ℕ)) → LinesLeft input left answered → IfSome input (λ bytes. (rest : List (List ℕ)) × (whole_lines bytes ≡ answered ++ rest))
lines_some None left answered so_far = tt
lines_some (Some xs) None answered so_far = absurd so_far
lines_some (Some xs) (Some ys) answered so_far = (whole_lines ys, so_far)

-- an input that is not empty has a line
pub lines_there : (b : ℕ) (bs : List ℕ) → (line : List ℕ) × (lines : List (List ℕ)) × (whole_lines (b ∷ bs) ≡ line ∷ lines)
unfolding whole_lines
lines_there b bs = elim (eqb b newline) as (λ t. (line : List ℕ) × (lines : List (List ℕ)) × (cond t ((b ∷ []) ∷ whole_lines bs) (onto_first b (whole_lines bs)) ≡ line ∷ lines)) [
  | true ↦ (b ∷ [], whole_lines bs, refl)
  | false ↦ at (whole_lines bs)
]
  where
    at : (ls : List (List ℕ)) → (line : List ℕ) × (lines : List (List ℕ)) × (onto_first b ls ≡ line ∷ lines)
    at [] = (b ∷ [], [], refl)
    at (l ∷ ls) = (b ∷ l, ls, refl)

pub lines_all : (input left : Option (List ℕ)) (answered : List (List ℕ)) → LinesLeft input left answered → IsAtEnd left → IfSome input (λ bytes. whole_lines bytes ≡ answered)
unfolding whole_lines
lines_all None left answered so_far end = tt
lines_all (Some xs) None answered so_far end = absurd so_far
lines_all (Some xs) (Some ys) answered so_far end = so_far ∙ ap (λ l. answered ++ whole_lines l) end ∙ append-nil answered

pub ended_left : (input left next : Option (List ℕ)) (answered : List (List ℕ)) → LinesLeft input left answered → IsEnded left next → OnSome input (IsAtEnd next)
ended_left None left next answered so_far end = tt
ended_left (Some xs) None next answered so_far end = absurd so_far
ended_left (Some xs) (Some ys) None answered so_far end = absurd end.1
ended_left (Some xs) (Some ys) (Some zs) answered so_far end = end.1 ∙ end.0

pub all_one : (P : List ℕ → Type 0) (x : List ℕ) → P x → All P (x ∷ [])
all_one P x p zero d lt = p
all_one P x p (suc k) d lt = absurd (omega arith)

module _ {V : Type 0} (serves : V → Stamped → Reply → V → Type 0) where
  pub starts : (input before : Option (List ℕ)) (old : V) → SoFar serves input input before before old (record { moment = 0; volume = old }) 0
  unfolding Run
  starts input before old = record {
    answered = [];
    text = [];
    run = (refl, refl);
    short = λ k d lt. absurd (omega arith);
    totaled = refl;
    reported = Appends-nil before;
    lines = lines_none input;
  }

  module _ (input left before after : Option (List ℕ)) (old : V) (now : Session V) (count : ℕ) (so_far : SoFar serves input left before after old now count) where
    -- the run of the lines so far and of one more
    run_on : (next : Option (List ℕ)) (line : List ℕ) (new : Session V) (more : List ℕ) (read : ReadsNext left next line) → Answers serves (line_of line) now more new
        → Run serves (map without_end (so_far.answered ++ read.whole ∷ [])) (record { moment = 0; volume = old }) (so_far.text ++ more) new
    run_on next line new more read answers =
        subst (λ l. Run serves l (record { moment = 0; volume = old }) (so_far.text ++ more) new)
        (sym (map-append without_end so_far.answered (read.whole ∷ [])))
        (run_more serves (map without_end so_far.answered) (without_end read.whole) (record { moment = 0; volume = old }) now new so_far.text more
        so_far.run (subst (λ l. Answers serves (line_of l) now more new) read.text answers))

    -- one line more
    pub goes_further : (next later : Option (List ℕ)) (line : List ℕ) (new : V) (moment : ℕ) → ReadsNext left next line → AnswersLine serves line now after later new (Ok moment)
        → SoFar serves input next before later old (record { moment = moment; volume = new }) (count + 1)
    goes_further next later line new moment read did = record {
      answered = so_far.answered ++ read.whole ∷ [];
      text = so_far.text ++ did.0;
      run = run_on next line (record { moment = moment; volume = new }) did.0 read did.1;
      short = All-append (λ line. line_size line ≤ longest_line) so_far.answered (read.whole ∷ []) so_far.short (all_one (λ line. line_size line ≤ longest_line) read.whole read.short);
      totaled = omega (arith, length-append so_far.answered (read.whole ∷ []), so_far.totaled);
      reported = Appends-trans before after later so_far.text did.0 so_far.reported did.2;
      lines = lines_more input left next so_far.answered read.whole so_far.lines read.next;
    }

    -- the answers so far are out
    all_reported : AnswersAll serves so_far.answered before after old now.volume
    all_reported = record { text = so_far.text; moment = now.moment; run = so_far.run; reported = so_far.reported }

    -- the end of the input
    pub comes_to_end : (next : Option (List ℕ)) → count ≤ most_lines → IsEnded left next → Shell serves input next before after old now.volume (Ok tt)
    comes_to_end next within_limit end = record {
      answered = so_far.answered;
      reported = all_reported;
      short = so_far.short;
      within_limit = omega (arith, so_far.totaled);
      lines = lines_all input left so_far.answered so_far.lines end.0;
      read = ended_left input left next so_far.answered so_far.lines end;
    }

    -- a fault, and which lines were answered before it
    stops : (next : Option (List ℕ)) (fault : ShellFault) → count ≤ most_lines → (fault ≡ faults.Write → ⊥) → IfSome input (λ bytes. AreAnswered bytes so_far.answered (Err fault))
        → Shell serves input next before after old now.volume (Err fault)
    stops next fault within_limit other lines = record {
      answered = so_far.answered;
      reported = at fault other;
      short = so_far.short;
      within_limit = omega (arith, so_far.totaled);
      lines = lines;
      read = tt;
    }
      where
        at : (fault : ShellFault) → (fault ≡ faults.Write → ⊥) → AreReported serves so_far.answered before after old now.volume (Err fault)
        at faults.Read other = all_reported
        at faults.NoMemory other = all_reported
        at faults.TooLong other = all_reported
        at faults.Write other = absurd (other refl)

    -- a line that was not read
    pub stops_reading : (next : Option (List ℕ)) (line : List ℕ) (fault : ShellFault) → count ≤ most_lines → ReadsLine left next line (Err fault) → Shell serves input next before after old now.volume (Err fault)
    stops_reading next line faults.Read within_limit read = stops next faults.Read within_limit (λ e. cc) (lines_some input left so_far.answered so_far.lines)
    stops_reading next line faults.NoMemory within_limit read = stops next faults.NoMemory within_limit (λ e. cc) (lines_some input left so_far.answered so_far.lines)
    stops_reading next line faults.Write within_limit read = absurd read
    stops_reading next line faults.TooLong within_limit read = stops next faults.TooLong within_limit (λ e. cc) (at input left so_far.lines read)
      where
        at : (input left : Option (List ℕ)) → LinesLeft input left so_far.answered → IfSome left LineIsTooLong → IfSome input (λ bytes. AreAnswered bytes so_far.answered (Err faults.TooLong))
        at None left so read = tt
        at (Some xs) None so read = absurd so
        at (Some xs) (Some ys) so read = (read.next, read.rest, so ∙ ap (λ l. so_far.answered ++ l) read.lines, inl read.long)

    -- what comes after the most lines
    pub stops_after : (next : Option (List ℕ)) (fault : ShellFault) → count ≡ most_lines → ReportsMore left next (Err fault) → Shell serves input next before after old now.volume (Err fault)
    stops_after next faults.Read all reported = stops next faults.Read (omega arith) (λ e. cc) (lines_some input left so_far.answered so_far.lines)
    stops_after next faults.NoMemory all reported = absurd reported
    stops_after next faults.Write all reported = absurd reported
    stops_after next faults.TooLong all reported = absurd reported

    pub too_many : (next : Option (List ℕ)) → count ≡ most_lines → ReportsMore left next (Ok true) → Shell serves input next before after old now.volume (Err faults.TooLong)
    too_many next all more = stops next faults.TooLong (omega arith) (λ e. cc) (at input left so_far.lines more)
      where
        some : (bytes : List ℕ) → 0 < length bytes → (line : List ℕ) × (lines : List (List ℕ)) × (whole_lines bytes ≡ line ∷ lines)
        some [] more = absurd (omega arith)
        some (b ∷ bs) more = lines_there b bs

        at : (input left : Option (List ℕ)) → LinesLeft input left so_far.answered → IfSome left (λ bytes. 0 < length bytes) → IfSome input (λ bytes. AreAnswered bytes so_far.answered (Err faults.TooLong))
        at None left so more = tt
        at (Some xs) None so more = absurd so
        at (Some xs) (Some ys) so more =
            let first = some ys more in
            (first.0, first.1, so ∙ ap (λ l. so_far.answered ++ l) first.2, inr (so_far.totaled ∙ all))

    -- a line that was read, but not answered whole
    pub stops_answering : (next later : Option (List ℕ)) (line : List ℕ) (new : V) (fault : ShellFault) → count < most_lines → ReadsNext left next line
        → AnswersLine serves line now after later new (Err fault) → Shell serves input next before later old new (Err fault)
    stops_answering next later line new faults.Read within_limit read did = absurd did
    stops_answering next later line new faults.TooLong within_limit read did = absurd did
    stops_answering next later line new faults.NoMemory within_limit read did = record {
      answered = so_far.answered;
      reported = record {
        text = so_far.text;
        moment = now.moment;
        run = subst (λ v. Run serves (map without_end so_far.answered) (record { moment = 0; volume = old }) so_far.text (record { moment = now.moment; volume = v })) (sym did.0) so_far.run;
        reported = Appends-kept before after later so_far.text so_far.reported did.1;
      };
      short = so_far.short;
      within_limit = omega (arith, so_far.totaled);
      lines = lines_some input left so_far.answered so_far.lines;
      read = tt;
    }
    stops_answering next later line new faults.Write within_limit read did =
        record {
          answered = so_far.answered ++ read.whole ∷ [];
          reported = record {
            front = so_far.answered;
            last = read.whole;
            text = so_far.text;
            part = did.3.part;
            rest = did.3.rest;
            middle = now;
            moment = did.1;
            lines_are = refl;
            run = so_far.run;
            answer =
                subst (λ l. Answers serves (line_of l) now (did.3.part ++ did.3.rest) (record { moment = did.1; volume = new })) read.text
                (subst (λ t. Answers serves (line_of line) now t (record { moment = did.1; volume = new })) did.3.whole did.2);
            short = did.3.short;
            reported = Appends-trans before after later so_far.text did.3.part so_far.reported did.3.appended;
          };
          short = All-append (λ line. line_size line ≤ longest_line) so_far.answered (read.whole ∷ []) so_far.short (all_one (λ line. line_size line ≤ longest_line) read.whole read.short);
          within_limit = omega (arith, length-append so_far.answered (read.whole ∷ []), so_far.totaled);
          lines = lines_some input next (so_far.answered ++ read.whole ∷ []) (lines_more input left next so_far.answered read.whole so_far.lines read.next);
          read = tt;
        }

-- an answer that was not reported whole
pub obeys_stops : {V : Type 0} (serves : V → Stamped → Reply → V → Type 0) (line : Line) (old : Session V) (before after : Option (List ℕ)) (text : List ℕ) (moment : ℕ) (new : V) (fault : ShellFault)
    → Answers serves line old text (record { moment = moment; volume = new }) → IsStated before after text (Err fault) → Obeys serves line old before after new (Err fault)
obeys_stops serves line old before after text moment new faults.Write answers reported = (text, moment, answers, reported)
obeys_stops serves line old before after text moment new faults.Read answers reported = absurd reported
obeys_stops serves line old before after text moment new faults.TooLong answers reported = absurd reported
obeys_stops serves line old before after text moment new faults.NoMemory answers reported = absurd reported
