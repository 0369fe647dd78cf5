use Rattle.std.proofs.Common.{arith}
use Rattle.chunk_index.proofs.Committed.{length-keys_in}
use Rattle.chunk_index.proofs.index.Index.committed_in_block.Goals as goal

pub list_block-requires : goal.list_block-requires
list_block-requires c = let all = length-keys_in c.args.block c.args.self.now.shelf.objects.entries in omega (arith, all, c.requires)
