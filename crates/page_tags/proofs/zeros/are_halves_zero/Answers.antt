use Rattle.std.proofs.Common.{arith}
use Rattle.std.proofs.lemmas.Bool.{eqb-true, eq-eqb}
use Rattle.page_tags.proofs.Strides.{zero_in_both}
use Rattle.page_tags.proofs.zeros.are_halves_zero.Goals as goal

pub returns : goal.returns
returns c = (
  λ said i within.
      zero_in_both c.args.bytes.now c.args.half (λ k low. c.loop-i.invariant.zero (eqb-true c.loop-i.greatest 0 said) k (omega (arith, low, c.loop-i-test.false))) i within,
  λ zeros. eq-eqb c.loop-i.greatest 0 (c.loop-i.invariant.none zeros),
)
