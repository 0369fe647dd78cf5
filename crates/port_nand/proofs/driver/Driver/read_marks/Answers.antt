use Rattle.std.proofs.Common.{refl, sym, ◌∙◌, subst, ◌+◌}
use Rattle.port_nand.specs.Opening.{IssuesMarks, no_marks, mark_asked}
use Rattle.port_nand.proofs.driver.Driver.read_marks.Goals as goal

pub loop-block-init : goal.loop-block-init
loop-block-init g c = record { committed = c.requires.committed; geometry = refl; power = c.requires.power; asks = no_marks }

-- the answer is one, since power is there
pub loop-block-preserved : goal.loop-block-preserved
loop-block-preserved g c =
    let before = c.loop-block.invariant in
    record {
      committed = c.ask.ensures.committed;
      geometry = c.ask.ensures.geometry ∙ before.geometry;
      power = c.if-self.false;
      asks = subst (IssuesMarks _ (c.loop-block.block + 1)) (sym c.ask.ensures.issued) (mark_asked before.asks (sym c.ask.ensures.power ∙ c.if-self.false));
    }
