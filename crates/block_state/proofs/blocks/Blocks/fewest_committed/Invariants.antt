use Rattle.std.proofs.Common.{IfSome, IfNone}
use Rattle.block_state.specs.Table.{IsFewest, NoneCommitted}
use Rattle.block_state.specs.TableOf.{table}
use Rattle.block_state.proofs.blocks.Blocks.fewest_committed.Given as goal

abbrev pub invariant-loop-block : goal.invariant-loop-block
invariant-loop-block l = IfSome l.fewest (λ b. IsFewest (table l.self) l.block b) × IfNone l.fewest (NoneCommitted (table l.self) l.block)
