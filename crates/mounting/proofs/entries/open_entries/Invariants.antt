use Rattle.mount_scan.specs.FoundCheckpoint.{checkpoint_of}
use Rattle.page_store.specs.laws.Trust.{trust}
use Rattle.mounting.proofs.entries.open_entries.Given as goal

abbrev pub ghost-go_by : goal.ghost-go_by
ghost-go_by g a = (trust (g.N.Nand.state a.bounded.device) (checkpoint_of a.found.now) a.bounded.within).0
