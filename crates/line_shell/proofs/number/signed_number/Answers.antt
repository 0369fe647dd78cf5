use Rattle.std.proofs.Common.{◌∙◌, subst}
use Rattle.std.specs.Int.{w64}
use Rattle.std.specs.Str.Parse.{ParsesSigned}
use Rattle.line_shell.proofs.Numbers.{signed_no_text, signed_is}
use Rattle.line_shell.proofs.number.signed_number.Goals as goal

pub returns-in_err-text_of : goal.returns-in_err-text_of
returns-in_err-text_of c = rw c.from_residual.ensures (signed_no_text c.args.word.now c.in_err-text_of.ensures)

pub returns : goal.returns
returns c = c.ok.ensures.value
    ∙ signed_is c.args.word.now c.parse.result c.in_ok-text_of.ensures.1 (subst (λ t. ParsesSigned w64 10 t c.parse.result) c.in_ok-text_of.ensures.0 c.parse.ensures.value.0)
