-- The reading of a script, line by line.
use Rattle.std.proofs.Common.{◌≡◌, ◌<◌, ◌≤◌, ◌+◌, ℕ, true, List, [], ◌∷◌, ◌++◌, length, map, All, Option, Some, None, IfSome, OnSome, option_map, Ok, Err, refl, sym, ap, ◌∙◌, subst, inl, inr, arith, append-nil, append_assoc, length-append}
use Rattle.std.proofs.lemmas.List.{map-append}
use Rattle.std.proofs.lemmas.List.Elements.{All-append}
use Rattle.std.specs.Io.KnownBytes.{IsAtEnd}
use Rattle.posix_profile.specs.declared.command.Stamped.{Stamped}
use Rattle.line_shell.specs.Commands.{line_of}
use Rattle.line_shell.specs.Lines.{whole_lines, without_end, line_size, longest_line, most_lines}
use Rattle.line_shell.specs.Reading.{IsEnded, ReadsNext, LineIsTooLong, ReadsLine, ReportsMore}
use Rattle.line_shell.specs.Scripts.{moment_after, with_line, commands_of, script_fault, Collects, IsScript, HasBadLine, HasLongLine, IsReadAs, ReadsScript}
use Rattle.line_shell.specs.declared.line.Line.{Line}
use Rattle.line_shell.specs.declared.line.Line.TheVariants as lines
use Rattle.line_shell.specs.declared.fault.ShellFault.{ShellFault}
use Rattle.line_shell.specs.declared.fault.ShellFault.TheVariants as shell_faults
use Rattle.line_shell.specs.declared.script.ScriptFault.{ScriptFault}
use Rattle.line_shell.specs.declared.script.ScriptFault.TheVariants as faults
use Rattle.line_shell.proofs.Running.{LinesLeft, lines_none, lines_more, lines_there, lines_all, ended_left, all_one}

-- the commands so far, before those of any lines after them
abbrev pub AreAsked : List (List ℕ) → ℕ → List Stamped → Type 0
AreAsked taken moment script = (rest : List (List ℕ)) → commands_of 0 (taken ++ rest) ≡ option_map (λ more. script ++ more) (commands_of moment rest)

-- what was read after so many lines
pub record SoFar (input left : Option (List ℕ)) (moment : ℕ) (script : List Stamped) (count : ℕ) : Type 0 where
  taken : List (List ℕ)
  short : All (λ line. line_size line ≤ longest_line) taken
  totaled : length taken ≡ count
  lines_are : LinesLeft input left taken
  issued : AreAsked (map without_end taken) moment script

pub starts : (input : Option (List ℕ)) → SoFar input input 0 [] 0
starts input = record { taken = []; short = λ k d lt. absurd (omega arith); totaled = refl; lines_are = lines_none input; issued = λ rest. at (commands_of 0 rest) }
  where
    at : (commands : Option (List Stamped)) → commands ≡ option_map (λ more. [] ++ more) commands
    at None = refl
    at (Some commands) = refl

-- a line's command comes after the script so far
one_more : (line : Line) (moment next : ℕ) (old new : List Stamped) → Collects line moment old new (Ok next)
    → (rest : Option (List Stamped)) → option_map (λ more. old ++ more) (with_line moment line rest) ≡ option_map (λ more. new ++ more) rest
one_more lines.Nothing moment next old new did rest = ap (λ xs. option_map (λ more. xs ++ more) rest) (sym did.0)
one_more (lines.Now later) moment next old new did rest = ap (λ xs. option_map (λ more. xs ++ more) rest) (sym did.0)
one_more (lines.Do command) moment next old new did None = refl
one_more (lines.Do command) moment next old new did (Some commands) =
    ap Some (sym (append_assoc old (record { moment = moment; command = command } ∷ []) commands) ∙ ap (λ xs. xs ++ commands) (sym did.0))
one_more lines.Bad moment next old new did rest = absurd did

-- and its moment is that of the lines after it
next_moment : (line : Line) (moment next : ℕ) (old new : List Stamped) → Collects line moment old new (Ok next) → moment_after moment line ≡ next
next_moment lines.Nothing moment next old new did = sym did.1
next_moment (lines.Now later) moment next old new did = sym did.1
next_moment (lines.Do command) moment next old new did = sym did.1
next_moment lines.Bad moment next old new did = absurd did

asked_more : (taken : List (List ℕ)) (line : List ℕ) (moment next : ℕ) (old new : List Stamped) → AreAsked taken moment old → Collects (line_of line) moment old new (Ok next)
    → AreAsked (taken ++ line ∷ []) next new
unfolding commands_of
asked_more taken line moment next old new issued did rest =
    ap (commands_of 0) (append_assoc taken (line ∷ []) rest) ∙ issued (line ∷ rest)
    ∙ one_more (line_of line) moment next old new did (commands_of (moment_after moment (line_of line)) rest)
    ∙ ap (λ n. option_map (λ more. new ++ more) (commands_of n rest)) (next_moment (line_of line) moment next old new did)

-- the commands so far are all, where no line is left
asked_all : (taken : List (List ℕ)) (moment : ℕ) (script : List Stamped) → AreAsked taken moment script → commands_of 0 taken ≡ Some script
unfolding commands_of
asked_all taken moment script issued = ap (commands_of 0) (sym (append-nil taken)) ∙ issued [] ∙ ap Some (append-nil script)

module _ (input left : Option (List ℕ)) (moment : ℕ) (script : List Stamped) (count : ℕ) (so_far : SoFar input left moment script count) where
  -- the lines so far are short, and one more is
  short_more : (whole : List ℕ) → line_size whole ≤ longest_line → All (λ line. line_size line ≤ longest_line) (so_far.taken ++ whole ∷ [])
  short_more whole short = All-append (λ line. line_size line ≤ longest_line) so_far.taken (whole ∷ []) so_far.short (all_one (λ line. line_size line ≤ longest_line) whole short)

  -- one line more
  pub goes_further : (next : Option (List ℕ)) (line : List ℕ) (later : ℕ) (longer : List Stamped) → ReadsNext left next line → Collects (line_of line) moment script longer (Ok later)
      → SoFar input next later longer (count + 1)
  goes_further next line later longer read did = record {
    taken = so_far.taken ++ read.whole ∷ [];
    short = short_more read.whole read.short;
    totaled = omega (arith, length-append so_far.taken (read.whole ∷ []), so_far.totaled);
    lines_are = lines_more input left next so_far.taken read.whole so_far.lines_are read.next;
    issued = subst (λ l. AreAsked l later longer) (sym (map-append without_end so_far.taken (read.whole ∷ [])))
        (asked_more (map without_end so_far.taken) (without_end read.whole) moment later script longer so_far.issued (subst (λ l. Collects (line_of l) moment script longer (Ok later)) read.text did));
  }

  good : commands_of 0 (map without_end so_far.taken) ≡ Some script
  good = asked_all (map without_end so_far.taken) moment script so_far.issued

  -- the end of the input
  all_read : count ≤ most_lines → (bytes : List ℕ) → whole_lines bytes ≡ so_far.taken → IsScript bytes script
  all_read within_limit bytes same = record {
    short = subst (λ l. All (λ line. line_size line ≤ longest_line) l) (sym same) so_far.short;
    within_limit = omega (arith, so_far.totaled, ap length same);
    issued = ap (λ l. commands_of 0 (map without_end l)) same ∙ good;
  }

  pub comes_to_end : (next : Option (List ℕ)) → count ≤ most_lines → IsEnded left next → IfSome input (λ bytes. IsScript bytes script) × OnSome input (IsAtEnd next)
  comes_to_end next within_limit end = (at input (lines_all input left so_far.taken so_far.lines_are end.0), ended_left input left next so_far.taken so_far.lines_are end)
    where
      at : (input : Option (List ℕ)) → IfSome input (λ bytes. whole_lines bytes ≡ so_far.taken) → IfSome input (λ bytes. IsScript bytes script)
      at None same = tt
      at (Some bytes) same = all_read within_limit bytes same

  too_long : IfSome left LineIsTooLong → IfSome input HasLongLine
  too_long read = at input left so_far.lines_are read
    where
      at : (input left : Option (List ℕ)) → LinesLeft input left so_far.taken → IfSome left LineIsTooLong → IfSome input HasLongLine
      at None left so read = tt
      at (Some xs) None so read = absurd so
      at (Some xs) (Some ys) so read = record {
        before = so_far.taken;
        line = read.next;
        rest = read.rest;
        commands = script;
        lines_are = so ∙ ap (λ l. so_far.taken ++ l) read.lines;
        good = good;
        long = inl read.long;
      }

  -- a line that was not read
  pub stops_reading : (next : Option (List ℕ)) (line : List ℕ) (fault : ShellFault) → ReadsLine left next line (Err fault) → ReadsScript input next (Err (script_fault fault))
  stops_reading next line shell_faults.Read read = record { reported = unknown input; read = tt }
    where
      unknown : (input : Option (List ℕ)) → IfSome input (λ bytes. Unit {0})
      unknown None = tt
      unknown (Some bytes) = tt
  stops_reading next line shell_faults.NoMemory read = record { reported = unknown input; read = tt }
    where
      unknown : (input : Option (List ℕ)) → IfSome input (λ bytes. Unit {0})
      unknown None = tt
      unknown (Some bytes) = tt
  stops_reading next line shell_faults.Write read = absurd read
  stops_reading next line shell_faults.TooLong read = record { reported = too_long read; read = tt }

  -- what comes after the most lines
  pub stops_after : (next : Option (List ℕ)) (fault : ShellFault) → ReportsMore left next (Err fault) → ReadsScript input next (Err (script_fault fault))
  stops_after next shell_faults.Read reported = record { reported = unknown input; read = tt }
    where
      unknown : (input : Option (List ℕ)) → IfSome input (λ bytes. Unit {0})
      unknown None = tt
      unknown (Some bytes) = tt
  stops_after next shell_faults.NoMemory reported = absurd reported
  stops_after next shell_faults.Write reported = absurd reported
  stops_after next shell_faults.TooLong reported = absurd reported

  pub too_many : (next : Option (List ℕ)) → count ≡ most_lines → ReportsMore left next (Ok true) → ReadsScript input next (Err faults.TooLong)
  too_many next all more = record { reported = at input left so_far.lines_are more; read = tt }
    where
      some : (bytes : List ℕ) → 0 < length bytes → (line : List ℕ) × (lines : List (List ℕ)) × (whole_lines bytes ≡ line ∷ lines)
      some [] more = absurd (omega arith)
      some (b ∷ bs) more = lines_there b bs

      at : (input left : Option (List ℕ)) → LinesLeft input left so_far.taken → IfSome left (λ bytes. 0 < length bytes) → IfSome input HasLongLine
      at None left so more = tt
      at (Some xs) None so more = absurd so
      at (Some xs) (Some ys) so more =
          let first = some ys more in
          record {
            before = so_far.taken;
            line = first.0;
            rest = first.1;
            commands = script;
            lines_are = so ∙ ap (λ l. so_far.taken ++ l) first.2;
            good = good;
            long = inr (so_far.totaled ∙ all);
          }

  -- a line that was read, but not taken
  pub stops_collecting : (next : Option (List ℕ)) (line : List ℕ) (longer : List Stamped) (fault : ScriptFault) → count < most_lines → ReadsNext left next line → Collects (line_of line) moment script longer (Err fault)
      → ReadsScript input next (Err fault)
  stops_collecting next line longer fault within_limit read did = record { reported = at fault did; read = tt }
    where
      bad : (input left next : Option (List ℕ)) → LinesLeft input next (so_far.taken ++ read.whole ∷ []) → line_of line ≡ lines.Bad → IfSome input HasBadLine
      bad None left next so is = tt
      bad (Some xs) left None so is = absurd so
      bad (Some xs) left (Some ys) so is = record {
        before = so_far.taken;
        line = read.whole;
        rest = whole_lines ys;
        commands = script;
        lines_are = so ∙ append_assoc so_far.taken (read.whole ∷ []) (whole_lines ys);
        short = short_more read.whole read.short;
        within_limit = omega (arith, so_far.totaled);
        good = good;
        bad = ap line_of (sym read.text) ∙ is;
      }

      unknown : (input : Option (List ℕ)) → IfSome input (λ bytes. Unit {0})
      unknown None = tt
      unknown (Some bytes) = tt

      at : (fault : ScriptFault) → Collects (line_of line) moment script longer (Err fault) → IfSome input (λ bytes. IsReadAs bytes (Err fault))
      at faults.Line did = bad input left next (lines_more input left next so_far.taken read.whole so_far.lines_are read.next) did
      at faults.NoMemory did = unknown input
      at faults.Read did = absurd did
      at faults.TooLong did = absurd did
