use Rattle.std.proofs.Common.{◌≡◌, true}
use Rattle.nand_model.specs.Changes.{OnlyReads}
use Rattle.test_devices.specs.Searching.{IsPlaced, IsBest}
use Rattle.test_devices.proofs.search.newest_in.Given as goal

abbrev pub invariant-loop-page : goal.invariant-loop-page
invariant-loop-page g l = record {
  reads : OnlyReads (g.N.Nand.state l.fn.device) (g.N.Nand.state l.device);
  placed : IsPlaced (g.N.Nand.state l.fn.device).geometry.blocks (g.N.Nand.state l.fn.device).geometry.pages l.best;
  best : (g.N.Nand.state l.fn.device).honest ≡ true → IsBest (g.N.Nand.state l.fn.device).flash l.key.object l.key.chunk l.block 0 l.fn.best
      → IsBest (g.N.Nand.state l.fn.device).flash l.key.object l.key.chunk l.block l.page l.best;
}
