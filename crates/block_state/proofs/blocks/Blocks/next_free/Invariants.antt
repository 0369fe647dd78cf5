use Rattle.std.proofs.Common.{IfSome, IfNone}
use Rattle.block_state.specs.Table.{IsNextFree, NoneFree}
use Rattle.block_state.specs.TableOf.{table}
use Rattle.block_state.proofs.blocks.Blocks.next_free.Given as goal

abbrev pub invariant-loop-block : goal.invariant-loop-block
invariant-loop-block l = IfSome l.next (λ b. IsNextFree (table l.self) l.block b) × IfNone l.next (NoneFree (table l.self) l.block)
