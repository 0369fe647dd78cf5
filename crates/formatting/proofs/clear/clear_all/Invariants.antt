use Rattle.std.proofs.Common.{◌<◌, ℕ}
use Rattle.formatting.specs.Formatting.{Keeps, EachFailureMarks, IsClear}
use Rattle.formatting.proofs.clear.clear_all.Given as goal

abbrev pub invariant-loop-block : goal.invariant-loop-block
invariant-loop-block g l = record {
  keeps : Keeps (g.N.Nand.state l.fn.device) (g.N.Nand.state l.device);
  each_failure_marks : EachFailureMarks (g.N.Nand.state l.fn.device) (g.N.Nand.state l.device);
  can_write : (b : ℕ) → b < l.block → IsClear (g.N.Nand.state l.device).flash b;
}
