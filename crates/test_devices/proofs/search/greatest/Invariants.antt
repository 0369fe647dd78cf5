use Rattle.std.proofs.Common.{◌≡◌, true}
use Rattle.nand_model.specs.Changes.{OnlyReads}
use Rattle.flash_tree.specs.Places.{numbers_of}
use Rattle.test_devices.specs.Searching.{AreGreatestBefore}
use Rattle.test_devices.proofs.search.greatest.Given as goal

abbrev pub invariant-loop-block : goal.invariant-loop-block
invariant-loop-block g l = record {
  reads : OnlyReads (g.N.Nand.state l.fn.device) (g.N.Nand.state l.device);
  greatest : (g.N.Nand.state l.fn.device).honest ≡ true → AreGreatestBefore (g.N.Nand.state l.fn.device).flash l.block 0 (numbers_of l.numbers);
}
