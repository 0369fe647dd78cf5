use Rattle.std.proofs.Common.{◌≡◌, subst, arith, Ok, Err}
use Rattle.std.proofs.lemmas.Result.{err_from_is_err_and}
use Rattle.line_shell.specs.Lines.{most_lines}
use Rattle.line_shell.specs.Reading.{ReadsLine, ReportsMore}
use Rattle.line_shell.specs.Runs.{AnswersLine}
use Rattle.line_shell.proofs.Running.{starts, goes_further, comes_to_end, stops_reading, stops_answering, stops_after, too_many}
use Rattle.line_shell.proofs.run.shell.Goals as goal

pub loop-count-init : goal.loop-count-init
loop-count-init g c = starts g.V.Answers.serves (g.R.Read.remaining c.args.reader.now) (g.W.Write.contents c.args.writer.now) c.args.volume.now

pub returns-in_err-read_line : goal.returns-in_err-read_line
returns-in_err-read_line g c =
    let p = err_from_is_err_and c.from_residual.result c.from_residual.ensures.1 in
    rw (p.1, p.2) (stops_reading g.V.Answers.serves _ _ _ _ _ _ _ c.loop-count.invariant (g.R.Read.remaining c.read_line.new.reader) c.read_line.new.line.items c.in_err-read_line.field-0.0 (omega arith)
    c.in_err-read_line.ensures)

pub returns-then-not-branch : goal.returns-then-not-branch
returns-then-not-branch g c =
    let read = subst (λ b. ReadsLine (g.R.Read.remaining c.loop-count.reader) (g.R.Read.remaining c.read_line.new.reader) c.read_line.new.line.items (Ok b)) c.if-not-branch.true c.in_ok-read_line.ensures in
    comes_to_end g.V.Answers.serves _ _ _ _ _ _ _ c.loop-count.invariant (g.R.Read.remaining c.read_line.new.reader) (omega arith) read

pub returns-in_err-moment : goal.returns-in_err-moment
returns-in_err-moment g c =
    let p = err_from_is_err_and c.from_residual-in_err-moment.result c.from_residual-in_err-moment.ensures.1 in
    let read = subst (λ b. ReadsLine (g.R.Read.remaining c.loop-count.reader) (g.R.Read.remaining c.read_line.new.reader) c.read_line.new.line.items (Ok b)) c.if-not-branch.false c.in_ok-read_line.ensures in
    let did = subst (λ line. AnswersLine g.V.Answers.serves line (record { moment = c.loop-count.moment; volume = c.loop-count.volume })
    (g.W.Write.contents c.loop-count.writer) (g.W.Write.contents c.answer.new.writer) c.answer.new.volume (Err c.in_err-moment.field-0.0)) c.deref.ensures.value c.in_err-moment.ensures in
    rw (p.1, p.2) (stops_answering g.V.Answers.serves _ _ _ _ _ _ _ c.loop-count.invariant (g.R.Read.remaining c.read_line.new.reader) (g.W.Write.contents c.answer.new.writer)
    c.read_line.new.line.items c.answer.new.volume c.in_err-moment.field-0.0 (omega arith) read did)

pub loop-count-preserved : goal.loop-count-preserved
loop-count-preserved g c =
    let read = subst (λ b. ReadsLine (g.R.Read.remaining c.loop-count.reader) (g.R.Read.remaining c.read_line.new.reader) c.read_line.new.line.items (Ok b)) c.if-not-branch.false c.in_ok-read_line.ensures in
    let did = subst (λ line. AnswersLine g.V.Answers.serves line (record { moment = c.loop-count.moment; volume = c.loop-count.volume })
    (g.W.Write.contents c.loop-count.writer) (g.W.Write.contents c.answer.new.writer) c.answer.new.volume (Ok c.in_ok-moment.moment)) c.deref.ensures.value c.in_ok-moment.ensures in
    goes_further g.V.Answers.serves _ _ _ _ _ _ _ c.loop-count.invariant (g.R.Read.remaining c.read_line.new.reader) (g.W.Write.contents c.answer.new.writer)
    c.read_line.new.line.items c.answer.new.volume c.in_ok-moment.moment read did

pub returns-in_err-has_more : goal.returns-in_err-has_more
returns-in_err-has_more g c =
    let p = err_from_is_err_and c.from_residual-in_err-has_more.result c.from_residual-in_err-has_more.ensures.1 in
    let all : c.loop-count._count ≡ most_lines = omega arith in
    rw (p.1, p.2) (stops_after g.V.Answers.serves _ _ _ _ _ _ _ c.loop-count.invariant (g.R.Read.remaining c.has_more.new.reader) c.in_err-has_more.field-0.0 all c.in_err-has_more.ensures.reports)

pub returns-then-branch : goal.returns-then-branch
returns-then-branch g c =
    let all : c.loop-count._count ≡ most_lines = omega arith in
    let more = subst (λ b. ReportsMore (g.R.Read.remaining c.loop-count.reader) (g.R.Read.remaining c.has_more.new.reader) (Ok b)) c.if-branch.true c.in_ok-has_more.ensures.reports in
    too_many g.V.Answers.serves _ _ _ _ _ _ _ c.loop-count.invariant (g.R.Read.remaining c.has_more.new.reader) all more

pub returns : goal.returns
returns g c =
    let more = subst (λ b. ReportsMore (g.R.Read.remaining c.loop-count.reader) (g.R.Read.remaining c.has_more.new.reader) (Ok b)) c.if-branch.false c.in_ok-has_more.ensures.reports in
    comes_to_end g.V.Answers.serves _ _ _ _ _ _ _ c.loop-count.invariant (g.R.Read.remaining c.has_more.new.reader) (omega arith) more
