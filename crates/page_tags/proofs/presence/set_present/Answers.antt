use Rattle.std.proofs.Common.{◌-◌, ◌%◌, ap, ◌∙◌, sym, eqb, arith}
use Rattle.std.specs.Int.{w8}
use Rattle.std.proofs.lemmas.Nat.Bits.{bit_at_set_same, bit_at_set_other, bit_at_clear_same, bit_at_clear_other}
use Rattle.page_tags.proofs.SetBits.{is_present-set_same, is_present-set_other}
use Rattle.page_tags.proofs.presence.set_present.Goals as goal

pub returns-then-present-clause-here : goal.returns-then-present-clause-here
returns-then-present-clause-here c =
    let place = c.args.chunk - 1 in
    is_present-set_same c.args.bits.now c.args.chunk _ (omega arith)
    ∙ ap (λ n. eqb n 1) (bit_at_set_same w8 _ (place % 8) (omega arith)) ∙ sym c.if-present.true

pub returns-then-present-clause-others : goal.returns-then-present-clause-others
returns-then-present-clause-others c =
    is_present-set_other c.args.bits.now c.args.chunk _ c.requires.not_first (omega arith) (λ i _ ne. bit_at_set_other w8 _ _ (omega arith) i ne)

pub returns-else-present-clause-here : goal.returns-else-present-clause-here
returns-else-present-clause-here c =
    let place = c.args.chunk - 1 in
    is_present-set_same c.args.bits.now c.args.chunk _ (omega arith)
    ∙ ap (λ n. eqb n 1) (bit_at_clear_same w8 _ (place % 8) (omega arith)) ∙ sym c.if-present.false

pub returns-else-present-clause-others : goal.returns-else-present-clause-others
returns-else-present-clause-others c =
    is_present-set_other c.args.bits.now c.args.chunk _ c.requires.not_first (omega arith) (bit_at_clear_other w8 _ _ (omega arith))
