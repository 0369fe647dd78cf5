use Rattle.std.proofs.Common.{sym, ◌∙◌, subst}
use Rattle.std.specs.Str.Parse.{ParsesUnsigned}
use Rattle.line_shell.proofs.Numbers.{number_no_text, number_unread, number_read}
use Rattle.line_shell.proofs.number.number.Goals as goal

pub returns-in_err-text_of : goal.returns-in_err-text_of
returns-in_err-text_of c = rw c.from_residual.ensures (number_no_text c.args.greatest c.args.word.now c.in_err-text_of.ensures)

pub returns-in_err-number : goal.returns-in_err-number
returns-in_err-number c =
    let parsed = subst (λ t. ParsesUnsigned 64 10 t c.parse.result) c.in_ok-text_of.ensures.0 c.parse.ensures.value.0 in
    rw c.from_residual-in_err-number.ensures
    (number_unread c.args.greatest c.args.word.now c.parse.result c.ranges.greatest.fits c.in_ok-text_of.ensures.1 parsed (sym c.ok.ensures.value ∙ c.in_err-number.was))

pub returns-then-number-greatest : goal.returns-then-number-greatest
returns-then-number-greatest c =
    let parsed = subst (λ t. ParsesUnsigned 64 10 t c.parse.result) c.in_ok-text_of.ensures.0 c.parse.ensures.value.0 in
    number_read c.args.greatest c.args.word.now c.parse.result c.in_ok-number.number c.in_ok-text_of.ensures.1 parsed (sym c.ok.ensures.value ∙ c.in_ok-number.was) c.if-number-greatest.true
