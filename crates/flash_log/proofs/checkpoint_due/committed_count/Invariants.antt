use Rattle.std.proofs.Common.{◌≡◌, ◌≤◌, ◌*◌, ◌^◌}
use Rattle.block_state.specs.Counting.{sum_below}
use Rattle.block_state.specs.TableOf.{table}
use Rattle.flash_log.proofs.checkpoint_due.committed_count.Given as goal

abbrev pub invariant-loop-block : goal.invariant-loop-block
invariant-loop-block l = (l.count ≡ sum_below (λ b. ((table l.blocks).entry b).committed) l.block) × (l.count ≤ 2 ^ 32 * l.block)
