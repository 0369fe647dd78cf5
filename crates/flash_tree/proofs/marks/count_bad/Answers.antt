use Rattle.std.proofs.Common.{◌+◌, sym, ◌∙◌, ap, arith}
use Rattle.nand_model.specs.Calls.{Device}
use Rattle.flash_tree.specs.laws.Counting.{totaled, passed_over}
use Rattle.flash_tree.proofs.marks.count_bad.Goals as goal
use Rattle.flash_tree.proofs.marks.count_bad.Goals.{then-is_bad, else-is_bad}

pub loop-block-preserved : goal.loop-block-preserved
loop-block-preserved g c =
    let old : Device = g.N.Nand.state c.args.device.now in
    elim c.if-is_bad.branch [
      | then-is_bad w ↦ record {
        totaled = w.bad-is ∙ ap (λ n. n + 1) c.loop-block.invariant.totaled ∙ sym (totaled old.flash.bad c.loop-block.block (sym c.is_bad.ensures ∙ w.if-is_bad.true));
        within_limit = omega (arith, w.bad-is);
      }
      | else-is_bad w ↦ record {
        totaled = w.bad-is ∙ c.loop-block.invariant.totaled ∙ sym (passed_over old.flash.bad c.loop-block.block (sym c.is_bad.ensures ∙ w.if-is_bad.false));
        within_limit = omega (arith, w.bad-is);
      }
    ]
