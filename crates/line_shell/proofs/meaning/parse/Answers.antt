use Rattle.std.proofs.Common.{◌∙◌, ap, sym, option_map}
use Rattle.line_shell.specs.Commands.{line_of, meaning_of_read}
use Rattle.line_shell.proofs.Words.{words_read}
use Rattle.line_shell.proofs.meaning.parse.Goals as goal

pub returns-in-Some : goal.returns-in-Some
unfolding line_of
returns-in-Some c =
    c.meaning.ensures ∙ ap meaning_of_read (ap (option_map (λ all. all.items)) (sym c.in-Some.is)
    ∙ words_read _ c.args.line.now c.deref.result.now c.in_ok-pieces.pieces.items c.in_ok-words.ensures c.deref.ensures.value c.in_ok-pieces.ensures)
