use Rattle.std.proofs.Common.{◌^◌}
use Rattle.block_state.specs.TableOf.{table}
use Rattle.chunk_index.specs.Settled.{SettlesWhere}
use Rattle.chunk_index.proofs.Staying.{ahead}
use Rattle.chunk_index.proofs.Noting.{IsPast}
use Rattle.chunk_index.proofs.shelf.Shelf.settle_all.Given as goal

abbrev pub invariant-loop-object : goal.invariant-loop-object
invariant-loop-object l = SettlesWhere l.group (IsPast l.done) l.fn.self.objects l.self.objects (table l.fn.blocks) (table l.blocks)

abbrev pub decreases-loop-object : goal.decreases-loop-object
decreases-loop-object l = ahead l.done (2 ^ 64)
