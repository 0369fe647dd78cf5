use Rattle.std.proofs.Common.{◌∙◌, ap, Some}
use Rattle.line_shell.proofs.Words.{reads_all}
use Rattle.line_shell.proofs.word.unescape.Goals as goal

pub returns : goal.returns
returns c = ap Some c.new.ensures ∙ reads_all c.args.word.now c.loop-at.text.items c.loop-at.at c.loop-at-test.false c.loop-at.invariant.reads
