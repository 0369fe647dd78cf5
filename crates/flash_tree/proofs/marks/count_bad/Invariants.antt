use Rattle.std.proofs.Common.{◌≡◌, ◌≤◌, count_by}
use Rattle.std.specs.List.{range_with_len}
use Rattle.flash_tree.proofs.marks.count_bad.Given as goal

abbrev pub invariant-loop-block : goal.invariant-loop-block
invariant-loop-block g l = record {
  totaled : l.bad ≡ count_by (g.N.Nand.state l.fn.device).flash.bad (range_with_len 0 l.block);
  within_limit : l.bad ≤ l.block;
}
