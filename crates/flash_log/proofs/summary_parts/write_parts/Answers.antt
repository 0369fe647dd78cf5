use Rattle.std.proofs.Common.{ℕ, ◌+◌, ◌-◌, ◌*◌, arith, length-take, length-drop}
use Rattle.flash_log.proofs.SummaryRows.{writes_row}
use Rattle.flash_log.proofs.summary_parts.write_parts.Goals as goal

pub loop-k-preserved : goal.loop-k-preserved
loop-k-preserved c =
    writes_row c.args.head.now c.args.entries.now c.args.first c.loop-k.k (32 * c.loop-k.k + 32 - 32 * c.loop-k.k) c.args.page.now c.loop-k.page _ (omega arith) (omega arith) (omega (arith, c.write_part.auto.part, length-take {A = ℕ}, length-drop {A = ℕ}))
    c.loop-k.invariant c.write_part.ensures
