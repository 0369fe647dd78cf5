use Rattle.std.proofs.Common.{◌≡◌, ◌+◌, ℕ, suc, ap, arith}
use Rattle.block_state.specs.Counting.{sum_below}
use Rattle.block_state.specs.TableOf.{table}
use Rattle.block_state.specs.declared.blocks.BlockEntry.{BlockEntry}
use Rattle.block_state.specs.laws.Counting.{sum_below-suc}
use Rattle.flash_log.proofs.checkpoint_due.committed_count.Goals as goal

pub loop-block-preserved : goal.loop-block-preserved
loop-block-preserved c =
    let committed : ℕ → ℕ = λ b. ((table c.args.blocks.now).entry b).committed in
    let b : ℕ = c.loop-block.block in
    let sum : sum_below committed (suc b) ≡ sum_below committed b + committed b = sum_below-suc committed b in
    let step : b + 1 ≡ suc b = omega arith in
    let next : sum_below committed (b + 1) ≡ sum_below committed (suc b) = ap (sum_below committed) step in
    let here = ap (λ (e : BlockEntry). e.committed) c.entry.ensures in
    (omega (arith, sum, next, here, c.from-count.ensures, c.loop-block.invariant.0), omega (arith, c.loop-block.invariant.1, c.from-count.ensures))
