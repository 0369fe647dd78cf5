use Rattle.std.proofs.Common.{◌/◌, ◌+◌, ◌-◌, drop, take, length, sym, ◌∙◌, le-ltb, ne_eqb}
use Rattle.std.proofs.lemmas.Bool.{not_from_true, not_from_false, false_from_ne_true, false≢true}
use Rattle.std.proofs.lemmas.List.{take_rest}
use Rattle.page_tags.specs.laws.Bit.{past_by_byte, past_by_rest, none_past, none_beyond}
use Rattle.page_tags.proofs.Ranges.{IsBytes-from_fits}
use Rattle.page_tags.proofs.header.has_chunk_past.Goals as goal

pub returns-then-bits-byte-ne0 : goal.returns-then-bits-byte-ne0
returns-then-bits-byte-ne0 c =
    let bits = c.args.bits.now in
    (λ _. past_by_byte bits c.args.last (IsBytes-from_fits bits c.type_inv.bits) c.if-bits-byte-ne0.true, λ _. not_from_false _ (ne_eqb _ _ c.if-bits-byte-ne0.true))

pub returns-else-bits-byte-ne0 : goal.returns-else-bits-byte-ne0
returns-else-bits-byte-ne0 c =
    let bits = c.args.bits.now in
    let rest = take (length bits - (c.args.last / 8 + 1)) (drop (c.args.last / 8 + 1) bits) in
    let is = take_rest bits (c.args.last / 8 + 1) in (
      λ said. past_by_rest bits c.args.last (IsBytes-from_fits bits c.type_inv.bits) rest is (λ zeros. false≢true (sym (not_from_true _ (c.are_zero.ensures.1 zeros)) ∙ said)),
      λ past. not_from_false _ (false_from_ne_true _ (λ zeros. none_past bits c.args.last c.if-bits-byte-ne0.false rest is (c.are_zero.ensures.0 zeros) past)),
    )

pub returns-else-byte-bits : goal.returns-else-byte-bits
returns-else-byte-bits c =
    let bits = c.args.bits.now in (
      λ said. absurd (false≢true (sym (le-ltb (c.args.last / 8) (length bits) c.if-byte-bits.false) ∙ said)),
      λ past. absurd (none_beyond bits c.args.last c.if-byte-bits.false past),
    )
