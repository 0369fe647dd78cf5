use Rattle.std.proofs.Common.{◌≡◌, ◌<◌, ℕ, true}
use Rattle.nand_model.specs.Changes.{OnlyReads}
use Rattle.flash_tree.specs.Groups.{IsPart}
use Rattle.flash_tree.specs.Places.{spot_of, group_of}
use Rattle.test_devices.proofs.group.is_whole.Given as goal

abbrev pub invariant-loop-i : goal.invariant-loop-i
invariant-loop-i g l = record {
  reads : OnlyReads (g.N.Nand.state l.fn.device) (g.N.Nand.state l.device);
  parts : (g.N.Nand.state l.fn.device).honest ≡ true → (k : ℕ) → k < l.i → IsPart (g.N.Nand.state l.fn.device).flash (group_of (spot_of l.member)) k;
}
