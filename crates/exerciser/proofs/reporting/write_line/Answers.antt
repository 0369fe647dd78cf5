use Rattle.std.proofs.Common.{ℕ, List, [], ◌∷◌, ◌++◌, codes}
use Rattle.line_shell.specs.Replies.{newline, numbers_text}
use Rattle.exerciser.specs.Lines.{finding_text}
use Rattle.exerciser.specs.declared.finding.Finding.{Finding}
use Rattle.line_shell.specs.laws.Writing.{stops_first, goes_on}
use Rattle.exerciser.proofs.reporting.write_line.Goals as goal

-- the first words, with the number of the session
abbrev first : ℕ → List ℕ
first number = codes "session" ++ numbers_text (number ∷ [])

-- the words for the call that is cut
abbrev second : ℕ → List ℕ
second operation = codes " op" ++ numbers_text (operation ∷ [])

-- what was found, to the end of the line
abbrev third : Finding → ℕ → List ℕ
third finding commands = finding_text finding commands ++ (newline ∷ [])

pub returns-in_err-write_tagged_numbers : goal.returns-in_err-write_tagged_numbers
returns-in_err-write_tagged_numbers g c =
    stops_first _ _ (first c.args.number) (second c.args.operation ++ third c.args.finding c.args.commands) c.from_residual.result c.from_residual.ensures.0 c.in_err-write_tagged_numbers.ensures

pub returns-in_err-write_tagged_numbers-2 : goal.returns-in_err-write_tagged_numbers-2
returns-in_err-write_tagged_numbers-2 g c =
    let r = c.from_residual-in_err-write_tagged_numbers-2 in
    goes_on _ _ _ (first c.args.number) (second c.args.operation ++ third c.args.finding c.args.commands) r.result c.in_ok-write_tagged_numbers.ensures
    (stops_first _ _ (second c.args.operation) (third c.args.finding c.args.commands) r.result r.ensures.0 c.in_err-write_tagged_numbers-2.ensures)

pub returns-in_err-write_finding : goal.returns-in_err-write_finding
returns-in_err-write_finding g c =
    let r = c.from_residual-in_err-write_finding in
    goes_on _ _ _ (first c.args.number) (second c.args.operation ++ third c.args.finding c.args.commands) r.result c.in_ok-write_tagged_numbers.ensures
    (goes_on _ _ _ (second c.args.operation) (third c.args.finding c.args.commands) r.result c.in_ok-write_tagged_numbers-2.ensures
    (stops_first _ _ (finding_text c.args.finding c.args.commands) (newline ∷ []) r.result r.ensures.0 c.in_err-write_finding.ensures))

pub returns : goal.returns
returns g c =
    let r = c.write_bytes in
    goes_on _ _ _ (first c.args.number) (second c.args.operation ++ third c.args.finding c.args.commands) r.result c.in_ok-write_tagged_numbers.ensures
    (goes_on _ _ _ (second c.args.operation) (third c.args.finding c.args.commands) r.result c.in_ok-write_tagged_numbers-2.ensures
    (goes_on _ _ _ (finding_text c.args.finding c.args.commands) (newline ∷ []) r.result c.in_ok-write_finding.ensures r.ensures))
