use Rattle.std.proofs.Common.{◌≡◌, ◌<◌, ℕ, Some, slice_get}
use Rattle.page_tags.specs.declared.check.CheckEntry.{CheckEntry}
use Rattle.mount_scan.specs.FoundCheckpoint.{checkpoint_of}
use Rattle.page_store.specs.Checked.{MayBeCommitted}
use Rattle.page_store.proofs.checkpoint_opening.may_all_be_committed.Given as goal

abbrev pub invariant-loop-entry : goal.invariant-loop-entry
invariant-loop-entry g l = (i : ℕ) (e : CheckEntry) → i < l.entry-index → slice_get l.found.entries.items i ≡ Some e → MayBeCommitted (g.N.Nand.state l.device) (checkpoint_of l.found) e
