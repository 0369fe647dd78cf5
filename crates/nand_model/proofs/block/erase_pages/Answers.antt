use Rattle.std.proofs.Common.{below_more, ap, ◌∙◌, ◌≢◌, arith}
use Rattle.nand_model.specs.Plans.{erased}
use Rattle.nand_model.proofs.Whole.{leaves_each}
use Rattle.nand_model.proofs.block.erase_pages.Goals as goal

pub loop-p-preserved : goal.loop-p-preserved
loop-p-preserved c =
    let inv = c.loop-p.invariant in
    let e = c.erase_slot.ensures in
    let p = c.loop-p.p in
    record {
      len = e.len ∙ inv.len;
      done = below_more _ _
          (λ k lt. let ne : k ≢ p = omega arith in e.others k ne ∙ inv.done k lt)
          (e.here ∙ ap (erased c.args.end c.args.fates.now p) (inv.rest p (omega arith)));
      rest = λ k le. let ne : k ≢ p = omega arith in e.others k ne ∙ inv.rest k (omega arith);
      sizes = λ k. e.sizes k ∙ inv.sizes k;
    }

pub returns-clause-leaves : goal.returns-clause-leaves
returns-clause-leaves c = leaves_each c.args.end c.args.fates.now c.args.pages.now.items c.loop-p.pages.items c.loop-p.invariant.len
    (λ k lt. c.loop-p.invariant.done k (omega arith))
