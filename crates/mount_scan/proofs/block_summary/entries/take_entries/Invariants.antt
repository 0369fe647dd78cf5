use Rattle.std.proofs.Common.{◌≡◌}
use Rattle.mount_scan.specs.SummaryContents.{AreListed, entries_in}
use Rattle.mount_scan.proofs.block_summary.entries.take_entries.Given as goal

abbrev pub invariant-loop-k : goal.invariant-loop-k
invariant-loop-k l = record { is : l.entries.items ≡ entries_in l.bytes l.k; listed : AreListed l.geometry l.head l.entries.items }
