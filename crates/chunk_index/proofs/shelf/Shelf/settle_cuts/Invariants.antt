use Rattle.block_state.specs.TableOf.{table}
use Rattle.chunk_index.specs.Settled.{SettlesWhere}
use Rattle.chunk_index.proofs.Noting.{IsCutAmong}
use Rattle.chunk_index.proofs.shelf.Shelf.settle_cuts.Given as goal

abbrev pub invariant-loop-from : goal.invariant-loop-from
invariant-loop-from l = SettlesWhere l.group (IsCutAmong l.cuts l.from-index) l.fn.self.objects l.self.objects (table l.fn.blocks) (table l.blocks)
