use Rattle.std.proofs.Common.{◌≡◌, ◌+◌, ◌-◌, ◌*◌, ◌∙◌, true, false, IsSome, length, sym, ap, subst, inl, inr, arith}
use Rattle.std.proofs.lemmas.Bool.{cases_lt}
use Rattle.page_tags.specs.Headers.{is_present}
use Rattle.page_tags.specs.laws.Bit.{is_present_past}
use Rattle.tree_walk.proofs.file.missing_chunk.Goals as goal

pub returns-clause-all : goal.returns-clause-all
returns-clause-all g c = λ sound chunk from present.
    let bits = c.args.bits.now in
    let one : 1 + (chunk - 1) ≡ chunk = omega (arith, from) in
    elim (cases_lt (chunk - 1) (8 * length bits)) [
      | inl lt ↦ subst (λ n. IsSome ((g.P.Pages.state c.args.pages.now).present c.args.file n)) one
          (c.loop-place.invariant sound (chunk - 1) (omega (arith, lt, c.loop-place-test.false)) (ap (is_present bits) one ∙ present))
      | inr past ↦ let two : true ≡ false = sym present ∙ is_present_past bits chunk (omega (arith, past)) in absurd cc
    ]
