use Rattle.std.proofs.Common.{◌-◌, length}
use Rattle.block_state.specs.TableOf.{table}
use Rattle.chunk_index.specs.Settled.{SettlesWhere}
use Rattle.chunk_index.proofs.Noting.{IsAmong}
use Rattle.chunk_index.proofs.shelf.Shelf.settle_keys.Given as goal

abbrev pub invariant-loop-done : goal.invariant-loop-done
invariant-loop-done l = SettlesWhere l.group (IsAmong l.keys l.done) l.fn.self.objects l.self.objects (table l.fn.blocks) (table l.blocks)

abbrev pub decreases-loop-done : goal.decreases-loop-done
decreases-loop-done l = length l.keys - l.done
