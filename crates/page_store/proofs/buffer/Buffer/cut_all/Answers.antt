use Rattle.std.proofs.Common.{◌≡◌, ◌∙◌, List, [], Some, None, ap, arith, take}
use Rattle.std.proofs.Math.Seq.{take-suc}
use Rattle.std.proofs.lemmas.List.{take_all}
use Rattle.std.proofs.Math.Numerals.{add-one}
use Rattle.pages.specs.Maps.{without_cuts}
use Rattle.pages.specs.declared.change.Cut.{Cut}
use Rattle.page_store.specs.Shown.{present_data}
use Rattle.page_store.specs.BufferOf.{contents}
use Rattle.page_store.proofs.BufferCutting.{cutting_more}
use Rattle.page_store.proofs.buffer.Buffer.cut_all.Goals as goal

pub loop-cut-preserved : goal.loop-cut-preserved
loop-cut-preserved c = record {
  cutting = cutting_more c.args.cuts.now c.loop-cut.cut-index _ c.args.index.now c.loop-cut.index c.cut.new.index (contents c.args.self.now) (contents c.loop-cut.self) (contents c.cut.new.self)
      (ap (λ n. take n c.args.cuts.now) (add-one c.loop-cut.cut-index) ∙ take-suc c.args.cuts.now c.loop-cut.cut-index _ c.loop-cut-test.true) c.loop-cut.invariant.cutting c.cut.ensures.buffers c.cut.ensures.committed c.cut.ensures.prepared c.cut.ensures.cuts c.cut.ensures.room;
  sizes = (c.cut.ensures.sizes.0 ∙ c.loop-cut.invariant.sizes.0, c.cut.ensures.sizes.1 ∙ c.loop-cut.invariant.sizes.1);
}

pub returns-clause-cuts : goal.returns-clause-cuts
returns-clause-cuts c = λ flash o k.
    c.loop-cut.invariant.cutting.shown flash o k
    ∙ ap (λ (xs : List Cut). without_cuts xs (present_data c.args.index.now (contents c.args.self.now) flash) o k) (take_all c.loop-cut.cut-index c.args.cuts.now (omega (arith, c.loop-cut-test.false)))

pub returns-clause-fewer : goal.returns-clause-fewer
returns-clause-fewer c =
    let none = c.loop-cut.invariant.cutting.room [] (λ o k i j of more. absurd (let two : None ≡ Some of.page = of.there in cc)) in
    omega (arith, none)
