use Rattle.mount_scan.proofs.keeping.gather_last.Goals as goal

pub loop-i-preserved : goal.loop-i-preserved
loop-i-preserved c = c.gather_at-committed.ensures _ c.requires c.loop-i.invariant
