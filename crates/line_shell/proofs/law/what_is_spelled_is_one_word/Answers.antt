use Rattle.line_shell.proofs.WordLaws.{one_word, no_newline, reads_back}
use Rattle.line_shell.proofs.law.what_is_spelled_is_one_word.Goals as goal

pub returns-clause-one_word : goal.returns-clause-one_word
returns-clause-one_word c = one_word

pub returns-clause-no_newline : goal.returns-clause-no_newline
returns-clause-no_newline c = no_newline

pub returns-clause-reads_back : goal.returns-clause-reads_back
returns-clause-reads_back c = reads_back
