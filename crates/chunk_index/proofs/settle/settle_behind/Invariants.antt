use Rattle.block_state.specs.TableOf.{table}
use Rattle.chunk_index.proofs.Gathering.{Gathers}
use Rattle.chunk_index.proofs.SettlingEntries.{IsSettledBehind}
use Rattle.chunk_index.proofs.settle.settle_behind.Given as goal

abbrev pub invariant-loop-at : goal.invariant-loop-at
invariant-loop-at l = Gathers (IsSettledBehind l.first l.group l.fn.entries.items) l.fn.entries.items l.at l.entries.items l.kept (table l.fn.blocks) (table l.blocks)
