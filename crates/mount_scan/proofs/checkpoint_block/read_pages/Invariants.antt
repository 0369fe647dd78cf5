use Rattle.std.proofs.Common.{◌≡◌, length}
use Rattle.mount_scan.specs.CheckpointBlocks.{IsBegun}
use Rattle.mount_scan.proofs.ReadCount.{HasRead}
use Rattle.mount_scan.proofs.checkpoint_block.read_pages.Given as goal

abbrev pub invariant-loop-i : goal.invariant-loop-i
invariant-loop-i g l = record {
  read : HasRead l.i (g.N.Nand.state l.fn.device) (g.N.Nand.state l.device);
  size : length l.page ≡ (g.N.Nand.state l.fn.device).geometry.bytes;
  begun : IsBegun (g.N.Nand.state l.fn.device) l.candidate l.n l.i l.entries.items;
}
