-- What was read, where the reader's bytes are known.
use Rattle.std.proofs.Common.{◌≡◌, ◌≢◌, ◌<◌, ◌≤◌, ◌+◌, ℕ, Bool, true, false, not, eqb, List, [], ◌∷◌, ◌++◌, length, take, drop, Option, Some, None, IfSome, OnSome, Ok, Err, sym, ap, ◌∙◌, subst, arith, append-nil, append_assoc, length-append, take-append-drop, take-take, length-take, eqb-true}
use Rattle.std.proofs.lemmas.Bool.{eqb-false}
use Rattle.std.proofs.lemmas.List.{length-take-le}
use Rattle.std.proofs.lemmas.List.Elements.{All-append}
use Rattle.std.proofs.KnownBytes.{Keeps-trans}
use Rattle.std.specs.Io.{StartsWith}
use Rattle.std.specs.Io.KnownBytes.{Keeps, Consumes, IsAtEnd}
use Rattle.std.specs.Io.BufRead.{strip_last}
use Rattle.line_shell.specs.Lines.{carriage_return, longest_line, whole_lines}
use Rattle.line_shell.specs.Replies.{newline}
use Rattle.line_shell.specs.Reading.{IsWithoutNewline, IsTooLong, IsEnded, TakesSome, TakesLine, NextLine, ReadsNext, LineIsTooLong, ReadsLine, ReportsMore}
use Rattle.line_shell.specs.declared.fault.ShellFault.{ShellFault}
use Rattle.line_shell.specs.declared.fault.ShellFault.TheVariants as faults
use Rattle.line_shell.proofs.Lines.{without_end_yes, size_yes, without_end_no, size_no, first_ended, first_last, first_begins, size_begins}

-- where nothing is shown, nothing is left
pub ended : (old new : Option (List ℕ)) (shown : List ℕ) → IfSome old (λ xs. length shown ≡ 0 → xs ≡ []) → Keeps old new → length shown ≡ 0 → IsEnded old new
ended None new shown end committed none = (tt, tt)
ended (Some xs) new shown end committed none = (end none, committed)

-- where something is shown, something is left
some_left : (old : Option (List ℕ)) (shown : List ℕ) → IfSome old (λ xs. StartsWith xs shown) → 0 < length shown → IfSome old (λ xs. 0 < length xs)
some_left None shown front some = tt
some_left (Some xs) shown front some = omega (arith, ap length front, length-take (length shown) xs)

-- whether bytes are shown returns whether there are more
pub reports : (old mid new : Option (List ℕ)) (shown : List ℕ) (empty : Bool) → Keeps old mid → IfSome mid (λ xs. StartsWith xs shown) → IfSome mid (λ xs. length shown ≡ 0 → xs ≡ [])
    → Keeps mid new → empty ≡ eqb (length shown) 0 → ReportsMore old new (Ok (not empty))
reports old mid new shown true before front end committed is =
    let both = ended mid new shown end committed (eqb-true (length shown) 0 (sym is)) in
    (at old mid before both.0, Keeps-trans old mid new before both.1)
  where
    at : (old mid : Option (List ℕ)) → Keeps old mid → IsAtEnd mid → IsAtEnd old
    at None mid before none = tt
    at (Some xs) None before none = absurd before
    at (Some xs) (Some ys) before none = sym before ∙ none
reports old mid new shown false before front end committed is =
    at old mid before (some_left mid shown front (omega (arith, eqb-false (length shown) 0 (sym is))))
  where
    at : (old mid : Option (List ℕ)) → Keeps old mid → IfSome mid (λ xs. 0 < length xs) → IfSome old (λ xs. 0 < length xs)
    at None mid before some = tt
    at (Some xs) None before some = absurd before
    at (Some xs) (Some ys) before some = subst (λ l. 0 < length l) before some

-- so many bytes without a newline are shown that the line is too long
pub too_long : (old : Option (List ℕ)) (shown : List ℕ) (before count : ℕ) → IfSome old (λ xs. StartsWith xs shown) → count ≤ length shown → IsWithoutNewline (take count shown)
    → longest_line < before + count → IfSome old (λ input. IsTooLong before input)
too_long None shown before count front within clean long = tt
too_long (Some xs) shown before count front within clean long =
    let same : take count shown ≡ take count xs = ap (take count) (sym front) ∙ take-take count (length shown) xs within in
    let size = length-take-le count shown within in
    record {
      front = take count shown;
      rest = drop count xs;
      begins = sym (take-append-drop count xs) ∙ ap (λ l. l ++ drop count xs) (sym same);
      no_newline = clean;
      long = subst (λ n. longest_line < before + n) (sym size) long;
    }

-- a line goes on past what was taken before, and is too long
pub stops_line : (old mid new : Option (List ℕ)) (before after : List ℕ) (fault : ShellFault) → IsWithoutNewline before → Consumes old mid before → TakesSome mid new before after (Err fault)
    → TakesLine old new after (Err fault)
stops_line old mid new before after faults.Read clean taken some = tt
stops_line old mid new before after faults.NoMemory clean taken some = tt
stops_line old mid new before after faults.Write clean taken some = some
stops_line old mid new before after faults.TooLong clean taken some = at old mid taken some
  where
    at : (old mid : Option (List ℕ)) → Consumes old mid before → IfSome mid (λ input. IsTooLong (length before) input) → IfSome old (λ input. IsTooLong 0 input)
    at None mid taken some = tt
    at (Some xs) None taken some = absurd taken
    at (Some xs) (Some ys) taken some = record {
      front = before ++ some.front;
      rest = some.rest;
      begins = taken ∙ ap (λ l. before ++ l) some.begins ∙ sym (append_assoc before some.front some.rest);
      no_newline = All-append (λ b. b ≢ newline) before some.front clean some.no_newline;
      long = omega (arith, some.long, length-append before some.front);
    }

-- the first line of an input that begins so is too long
first_too_long : (input : List ℕ) → IsTooLong 0 input → LineIsTooLong input
first_too_long input long = at long.front long.no_newline long.begins long.long
  where
    at : (front : List ℕ) → IsWithoutNewline front → input ≡ front ++ long.rest → longest_line < 0 + length front → LineIsTooLong input
    at [] clean begins big = absurd (omega arith)
    at (b ∷ bs) clean begins big =
        let first = first_begins b bs long.rest clean in
        record {
          next = b ∷ bs ++ first.0;
          rest = first.1;
          lines = ap whole_lines begins ∙ first.2;
          long = omega (arith, size_begins (b ∷ bs) first.0 clean);
        }

-- a fault of a line is one of the next line
pub stops_next : (old new : Option (List ℕ)) (line : List ℕ) (fault : ShellFault) → TakesLine old new line (Err fault) → ReadsLine old new line (Err fault)
stops_next old new line faults.Read took = tt
stops_next old new line faults.NoMemory took = tt
stops_next old new line faults.Write took = took
stops_next None new line faults.TooLong took = tt
stops_next (Some input) new line faults.TooLong took = first_too_long input took

-- a line that a newline ends
pub reads_ended : (old new : Option (List ℕ)) (taken line : List ℕ) → IsWithoutNewline taken → Consumes old new (taken ++ newline ∷ []) → length taken ≤ longest_line
    → line ≡ strip_last carriage_return taken → ReadsNext old new line
reads_ended old new taken line clean took fits is = record {
  whole = taken ++ newline ∷ [];
  text = is ∙ sym (without_end_yes taken);
  short = rw (size_yes taken) fits;
  next = at old new took;
}
  where
    at : (old new : Option (List ℕ)) → Consumes old new (taken ++ newline ∷ []) → NextLine old new (taken ++ newline ∷ [])
    at None new took = tt
    at (Some xs) None took = absurd took
    at (Some xs) (Some ys) took = ap whole_lines (took ∙ append_assoc taken (newline ∷ []) ys) ∙ first_ended taken ys clean

-- a last line that none ends
pub reads_last : (old new : Option (List ℕ)) (line : List ℕ) → 0 < length line → IsWithoutNewline line → Consumes old new line → OnSome old (IsAtEnd new) → length line ≤ longest_line → ReadsNext old new line
unfolding whole_lines
reads_last old new [] some clean took end fits = absurd (omega arith)
reads_last old new (b ∷ bs) some clean took end fits = record {
  whole = b ∷ bs;
  text = sym (without_end_no (b ∷ bs) clean);
  short = rw (size_no (b ∷ bs) clean) fits;
  next = at old new took end;
}
  where
    at : (old new : Option (List ℕ)) → Consumes old new (b ∷ bs) → OnSome old (IsAtEnd new) → NextLine old new (b ∷ bs)
    at None new took end = tt
    at (Some xs) None took end = absurd took
    at (Some xs) (Some ys) took end =
        ap whole_lines (took ∙ ap (λ l. b ∷ bs ++ l) end ∙ append-nil (b ∷ bs)) ∙ first_last b bs clean ∙ ap (λ l. (b ∷ bs) ∷ whole_lines l) (sym end)

-- an input that gave no byte at its end was at its end
pub reads_none : (old new : Option (List ℕ)) (line : List ℕ) → length line ≡ 0 → Consumes old new line → OnSome old (IsAtEnd new) → IsEnded old new
reads_none None new line none took end = (tt, tt)
reads_none (Some xs) None line none took end = absurd took
reads_none (Some xs) (Some ys) [] none took end = (took ∙ end, sym took)
reads_none (Some xs) (Some ys) (b ∷ bs) none took end = absurd (omega arith)

-- where no newline came, the input is at its end
pub reads_at_end : (old new : Option (List ℕ)) (line : List ℕ) (empty : Bool) → TakesLine old new line (Ok false) → length line ≤ longest_line → empty ≡ eqb (length line) 0
    → ReadsLine old new line (Ok (not empty))
reads_at_end old new line true took fits is = reads_none old new line (eqb-true (length line) 0 (sym is)) took.1 took.2
reads_at_end old new line false took fits is = reads_last old new line (omega (arith, eqb-false (length line) 0 (sym is))) took.0 took.1 took.2 fits
