use Rattle.line_shell.proofs.LineLaws.{concat-whole_lines}
use Rattle.line_shell.proofs.law.whole_lines_are_the_input.Goals as goal

pub returns : goal.returns
returns c = concat-whole_lines
