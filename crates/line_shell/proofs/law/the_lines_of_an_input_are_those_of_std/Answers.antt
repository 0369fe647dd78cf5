use Rattle.line_shell.proofs.LineLaws.{lines_of_std}
use Rattle.line_shell.proofs.law.the_lines_of_an_input_are_those_of_std.Goals as goal

pub returns : goal.returns
returns c = lines_of_std
