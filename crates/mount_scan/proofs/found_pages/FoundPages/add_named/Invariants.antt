use Rattle.std.proofs.Common.{take}
use Rattle.mount_scan.specs.Copies.{pages_named}
use Rattle.mount_scan.specs.Keys.{ThinsFound}
use Rattle.mount_scan.specs.Listed.{listed}
use Rattle.mount_scan.proofs.found_pages.FoundPages.add_named.Given as goal

abbrev pub invariant-loop-entry : goal.invariant-loop-entry
invariant-loop-entry l = ThinsFound (take l.entry-index (pages_named l.seq l.entries)) (listed l.fn.self) (listed l.self)
