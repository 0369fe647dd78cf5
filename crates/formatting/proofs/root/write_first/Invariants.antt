use Rattle.std.proofs.Common.{◌≡◌, ◌<◌, ◌≤◌, ◌+◌, ℕ, true}
use Rattle.formatting.specs.Formatting.{Keeps, EachFailureMarks, AreClear}
use Rattle.formatting.proofs.root.write_first.Given as goal

abbrev pub invariant-loop-block : goal.invariant-loop-block
invariant-loop-block g l = record {
  keeps : Keeps (g.N.Nand.state l.fn.device) (g.N.Nand.state l.device);
  each_failure_marks : EachFailureMarks (g.N.Nand.state l.fn.device) (g.N.Nand.state l.device);
  failed : (g.N.Nand.state l.device).failures ≡ (g.N.Nand.state l.fn.device).failures + l.failed;
  within_limit : l.failed ≤ l.block;
  bad : (b : ℕ) → b < l.block → (g.N.Nand.state l.device).flash.bad b ≡ true;
  can_write : AreClear (g.N.Nand.state l.device) l.block;
}
