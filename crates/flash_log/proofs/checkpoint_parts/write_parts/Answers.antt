use Rattle.std.proofs.Common.{ℕ, ◌+◌, ◌-◌, ◌*◌, arith, length-take, length-drop}
use Rattle.chunk_index.specs.Following.{keys_left}
use Rattle.chunk_index.specs.Maps.{committed_pages}
use Rattle.flash_log.proofs.CheckpointRows.{writes_more}
use Rattle.flash_log.proofs.checkpoint_parts.write_parts.Goals as goal

pub loop-k-preserved : goal.loop-k-preserved
loop-k-preserved c =
    writes_more (committed_pages c.args.index.now) c.args.count c.args.first c.loop-k.k (32 * c.loop-k.k + 32 - 32 * c.loop-k.k) (keys_left c.loop-k.keys) _ c.args.page.now c.loop-k.page _ (omega arith) (omega arith) (omega (arith, c.write_part.auto.part, length-take {A = ℕ}, length-drop {A = ℕ}))
    c.loop-k.invariant c.write_part.ensures.part c.write_part.ensures.keys
