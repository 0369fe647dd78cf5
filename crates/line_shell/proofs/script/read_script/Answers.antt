use Rattle.std.proofs.Common.{◌≡◌, sym, subst, arith, Ok, Err}
use Rattle.std.proofs.lemmas.Result.{err_from_is_err_and}
use Rattle.line_shell.specs.Commands.{line_of}
use Rattle.line_shell.specs.Lines.{most_lines}
use Rattle.line_shell.specs.Reading.{ReadsLine, ReportsMore}
use Rattle.line_shell.specs.Scripts.{Collects}
use Rattle.line_shell.proofs.Scripting.{SoFar, starts, goes_further, comes_to_end, stops_reading, stops_collecting, stops_after, too_many}
use Rattle.line_shell.proofs.script.read_script.Goals as goal

pub loop-count-init : goal.loop-count-init
loop-count-init g c = subst (λ l. SoFar (g.R.Read.remaining c.args.reader.now) (g.R.Read.remaining c.args.reader.now) 0 l 0) (sym c.new-script.ensures.items) (starts (g.R.Read.remaining c.args.reader.now))

pub returns-in_err-read_line : goal.returns-in_err-read_line
returns-in_err-read_line g c =
    let p = err_from_is_err_and c.from_residual.result c.from_residual.ensures.1 in
    rw (p.1, p.2) (stops_reading _ _ _ _ _ c.loop-count.invariant (g.R.Read.remaining c.read_line.new.reader) c.read_line.new.line.items c.in_err-read_line.field-0.0 c.in_err-read_line.ensures)

pub returns-then-not-branch : goal.returns-then-not-branch
returns-then-not-branch g c =
    let read = subst (λ b. ReadsLine (g.R.Read.remaining c.loop-count.reader) (g.R.Read.remaining c.read_line.new.reader) c.read_line.new.line.items (Ok b)) c.if-not-branch.true c.in_ok-read_line.ensures in
    let end = comes_to_end _ _ _ _ _ c.loop-count.invariant (g.R.Read.remaining c.read_line.new.reader) (omega arith) read in
    record { reported = end.0; read = end.1 }

pub returns-in_err-moment : goal.returns-in_err-moment
returns-in_err-moment g c =
    let p = err_from_is_err_and c.from_residual-in_err-moment.result c.from_residual-in_err-moment.ensures.1 in
    let read = subst (λ b. ReadsLine (g.R.Read.remaining c.loop-count.reader) (g.R.Read.remaining c.read_line.new.reader) c.read_line.new.line.items (Ok b)) c.if-not-branch.false c.in_ok-read_line.ensures in
    let did = subst (λ line. Collects (line_of line) c.loop-count.moment c.loop-count.script.items c.collect.new.script.items (Err c.in_err-moment.field-0.0)) c.deref.ensures.value c.in_err-moment.ensures in
    rw (p.1, p.2) (stops_collecting _ _ _ _ _ c.loop-count.invariant (g.R.Read.remaining c.read_line.new.reader) c.read_line.new.line.items c.collect.new.script.items c.in_err-moment.field-0.0 (omega arith) read did)

pub loop-count-preserved : goal.loop-count-preserved
loop-count-preserved g c =
    let read = subst (λ b. ReadsLine (g.R.Read.remaining c.loop-count.reader) (g.R.Read.remaining c.read_line.new.reader) c.read_line.new.line.items (Ok b)) c.if-not-branch.false c.in_ok-read_line.ensures in
    let did = subst (λ line. Collects (line_of line) c.loop-count.moment c.loop-count.script.items c.collect.new.script.items (Ok c.in_ok-moment.moment)) c.deref.ensures.value c.in_ok-moment.ensures in
    goes_further _ _ _ _ _ c.loop-count.invariant (g.R.Read.remaining c.read_line.new.reader) c.read_line.new.line.items c.in_ok-moment.moment c.collect.new.script.items read did

pub returns-in_err-has_more : goal.returns-in_err-has_more
returns-in_err-has_more g c =
    let p = err_from_is_err_and c.from_residual-in_err-has_more.result c.from_residual-in_err-has_more.ensures.1 in
    rw (p.1, p.2) (stops_after _ _ _ _ _ c.loop-count.invariant (g.R.Read.remaining c.has_more.new.reader) c.in_err-has_more.field-0.0 c.in_err-has_more.ensures.reports)

pub returns-then-branch : goal.returns-then-branch
returns-then-branch g c =
    let all : c.loop-count._count ≡ most_lines = omega arith in
    let more = subst (λ b. ReportsMore (g.R.Read.remaining c.loop-count.reader) (g.R.Read.remaining c.has_more.new.reader) (Ok b)) c.if-branch.true c.in_ok-has_more.ensures.reports in
    too_many _ _ _ _ _ c.loop-count.invariant (g.R.Read.remaining c.has_more.new.reader) all more

pub returns-else-branch : goal.returns-else-branch
returns-else-branch g c =
    let more = subst (λ b. ReportsMore (g.R.Read.remaining c.loop-count.reader) (g.R.Read.remaining c.has_more.new.reader) (Ok b)) c.if-branch.false c.in_ok-has_more.ensures.reports in
    let end = comes_to_end _ _ _ _ _ c.loop-count.invariant (g.R.Read.remaining c.has_more.new.reader) (omega arith) more in
    record { reported = end.0; read = end.1 }
