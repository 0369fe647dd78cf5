use Rattle.line_shell.proofs.Reading.{reports}
use Rattle.line_shell.proofs.input.has_more.Goals as goal

pub returns-in-Ok-clause-reports : goal.returns-in-Ok-clause-reports
returns-in-Ok-clause-reports g c =
    reports (g.R.Read.remaining c.args.reader.now) (g.R.Read.remaining c.loop-turn.reader) (g.R.Read.remaining c.fill_buf.follows.lender-at-none) c.in-Ok.shown.now c.is_empty.result
    c.loop-turn.invariant c.in-Ok.ensures.front c.in-Ok.ensures.end c.fill_buf.follows.holds-at-none.0 c.is_empty.ensures
