use Rattle.std.proofs.Common.{◌≡◌, ◌<◌, ◌+◌, length, refl, arith, rules}
use Rattle.line_shell.specs.Lines.{longest_line}
use Rattle.line_shell.proofs.Reading.{ended, too_long}
use Rattle.line_shell.proofs.input.take_some.Goals as goal

pub returns-then-is_empty-clause-takes : goal.returns-then-is_empty-clause-takes
returns-then-is_empty-clause-takes g c =
    let none : length c.in-Ok.shown.now ≡ 0 = search rules in
    (refl, ended (g.R.Read.remaining c.args.reader.now) (g.R.Read.remaining c.fill_buf.follows.lender-at-none) c.in-Ok.shown.now c.in-Ok.ensures.end c.fill_buf.follows.holds-at-none.0 none)

pub returns-then-count-len-clause-takes : goal.returns-then-count-len-clause-takes
returns-then-count-len-clause-takes g c =
    let count = c.count_before_newline-count in
    let long : longest_line < length c.args.line.now.items + count.result = omega (arith, c.args.line.now.ok.0) in
    too_long (g.R.Read.remaining c.args.reader.now) c.in-Ok.shown.now (length c.args.line.now.items) count.result c.in-Ok.ensures.front count.ensures.within count.ensures.before long
