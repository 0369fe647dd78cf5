use Rattle.std.proofs.Common.{◌∙◌, ◌∷◌, subst}
use Rattle.line_shell.specs.Words.{space, spelled}
use Rattle.line_shell.specs.Written.{AppendsPart}
use Rattle.line_shell.specs.laws.Writing.{stops_at}
use Rattle.line_shell.proofs.output.write_names.Goals as goal

pub returns-in_err-write_spaced_word : goal.returns-in_err-write_spaced_word
returns-in_err-write_spaced_word g c =
    stops_at (λ name. space ∷ spelled name) c.args.names.now c.loop-name.name-index c.name-item.result _ _ _ c.from_residual.result c.loop-name-test.true
    c.loop-name.invariant c.from_residual.ensures.0
    (subst (λ name. AppendsPart (g.W.Write.contents c.loop-name.writer) (g.W.Write.contents c.write_spaced_word.new.writer) (space ∷ spelled name))
    (c.as_slice.ensures ∙ c.name-item.is) c.in_err-write_spaced_word.ensures)
