use Rattle.std.proofs.Common.{◌∙◌, ap, subst, arith, eqb, Ok}
use Rattle.std.proofs.lemmas.Result.{err_from_is_err_and}
use Rattle.line_shell.specs.Reading.{TakesLine}
use Rattle.line_shell.proofs.Reading.{stops_next, reads_at_end, reads_ended}
use Rattle.line_shell.proofs.input.read_line.Goals as goal

pub returns-in_err-take_line : goal.returns-in_err-take_line
returns-in_err-take_line g c =
    let p = err_from_is_err_and c.from_residual.result c.from_residual.ensures.1 in
    rw (p.1, p.2) (stops_next (g.R.Read.remaining c.args.reader.now) (g.R.Read.remaining c.take_line.new.reader) c.take_line.new.line.items c.in_err-take_line.field-0.0 c.in_err-take_line.ensures.takes)

pub returns-then-not-branch : goal.returns-then-not-branch
returns-then-not-branch g c =
    let line = c.take_line.new.line in
    let took = subst (λ b. TakesLine (g.R.Read.remaining c.args.reader.now) (g.R.Read.remaining c.take_line.new.reader) line.items (Ok b)) c.if-not-branch.true c.in_ok-take_line.ensures.takes in
    reads_at_end (g.R.Read.remaining c.args.reader.now) (g.R.Read.remaining c.take_line.new.reader) line.items c.is_empty.result took
    (omega (arith, c.in_ok-take_line.ensures.room, line.ok.0)) (c.is_empty.ensures ∙ ap (λ n. eqb n 0) line.ok.0)

pub returns : goal.returns
returns g c =
    let line = c.take_line.new.line in
    let took = subst (λ b. TakesLine (g.R.Read.remaining c.args.reader.now) (g.R.Read.remaining c.take_line.new.reader) line.items (Ok b)) c.if-not-branch.false c.in_ok-take_line.ensures.takes in
    reads_ended (g.R.Read.remaining c.args.reader.now) (g.R.Read.remaining c.take_line.new.reader) line.items c.drop_carriage_return.new.line.items took.0 took.1
    (omega (arith, c.in_ok-take_line.ensures.room, line.ok.0)) c.drop_carriage_return.ensures
