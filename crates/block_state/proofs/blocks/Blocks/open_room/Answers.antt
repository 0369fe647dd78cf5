use Rattle.std.proofs.Common.{arith}
use Rattle.block_state.proofs.blocks.Blocks.open_room.Goals as goal

pub index-requires : goal.index-requires
index-requires c = let whole = c.args.self.now.whole in omega (arith, whole.count, (whole.open_block c.in-Some.block c.in-Some.is).within)
