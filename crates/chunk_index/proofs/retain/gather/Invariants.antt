use Rattle.block_state.specs.TableOf.{table}
use Rattle.chunk_index.proofs.Gathering.{Gathers, IsLeft}
use Rattle.chunk_index.proofs.Retaining.{retained_by}
use Rattle.chunk_index.proofs.retain.gather.Given as goal

abbrev pub invariant-loop-at : goal.invariant-loop-at
invariant-loop-at g l = Gathers (IsLeft (retained_by (g.F.KeyFilter.keeps l.filter l.object))) l.fn.entries.items l.at l.entries.items l.committed (table l.fn.blocks) (table l.blocks)
