use Rattle.std.proofs.lemmas.Result.{err_from_is_err_and}
use Rattle.line_shell.proofs.Reading.{stops_line}
use Rattle.line_shell.proofs.input.take_line.Goals as goal

pub returns-in_err-take_some-clause-takes : goal.returns-in_err-take_some-clause-takes
returns-in_err-take_some-clause-takes g c =
    let p = err_from_is_err_and c.from_residual.result c.from_residual.ensures.1 in
    let so_far = c.loop-turn.invariant in
    rw (p.1, p.2) (stops_line (g.R.Read.remaining c.args.reader.now) (g.R.Read.remaining c.loop-turn.reader) (g.R.Read.remaining c.take_some.new.reader)
    c.loop-turn.line.items c.take_some.new.line.items c.in_err-take_some.field-0.0 so_far.no_newline so_far.taken c.in_err-take_some.ensures.takes)
