use Rattle.std.proofs.Common.{◌≡◌, ◌-◌, ◌/◌, ◌%◌, get_or, ap, ◌∙◌, sym, eqb, arith}
use Rattle.std.specs.Int.{bit_at}
use Rattle.std.proofs.lemmas.Bool.{ltb-false}
use Rattle.std.proofs.lemmas.Nat.Bits.{shr_and_one}
use Rattle.page_tags.specs.Headers.{is_present}
use Rattle.page_tags.specs.laws.Bit.{is_present_past}
use Rattle.page_tags.proofs.presence.is_present.Goals as goal

pub returns-in-Some : goal.returns-in-Some
unfolding is_present
returns-in-Some c =
    let place = c.args.chunk - 1 in
    let byte : c.in-Some.byte.now ≡ get_or c.args.bits.now (place / 8) 0 = c.in-Some.ensures.lookup.4 (omega arith) 0 in
    ap (λ n. eqb n 1) (shr_and_one c.in-Some.byte.now (place % 8)) ∙ ap (λ n. eqb (bit_at n (place % 8)) 1) byte

pub returns-in-None : goal.returns-in-None
returns-in-None c = sym (is_present_past c.args.bits.now c.args.chunk (ltb-false _ _ (sym c.in-None.ensures.lookup.0)))
