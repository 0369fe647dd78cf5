use Rattle.std.proofs.Common.{refl, sym, ◌∙◌, arith}
use Rattle.plain_volume.proofs.TreesAlike.{same_more, same_all, same_bytes}
use Rattle.plain_volume.proofs.reading.same_names.Goals as goal

pub loop-place-preserved : goal.loop-place-preserved
loop-place-preserved c = record {
  same = same_more c.args.names.now c.args.others.now c.loop-place.place c.index-names-place.result c.index-others-place.result c.loop-place-test.true (omega (arith, c.loop-place-test.true, c.if-names-others.false))
      c.index-names-place.is c.index-others-place.is (sym c.as_slice.ensures ∙ same_bytes c.ne.result _ _ c.ne.ensures c.if-ne.false ∙ c.as_slice-in-loop-place.ensures) c.loop-place.invariant.same;
}

pub returns : goal.returns
returns c = (λ _. same_all c.args.names.now c.args.others.now c.loop-place.place (omega (arith, c.loop-place-test.false, c.loop-place.auto.place-end)) (omega (arith, c.loop-place-test.false, c.loop-place.auto.place-end, c.if-names-others.false)) c.loop-place.invariant.same, λ _. refl)
