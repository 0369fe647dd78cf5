use Rattle.std.proofs.Common.{take}
use Rattle.mount_scan.specs.Keys.{ThinsFound}
use Rattle.mount_scan.specs.Listed.{listed}
use Rattle.mount_scan.proofs.found_pages.FoundPages.add_all.Given as goal

abbrev pub invariant-loop-page : goal.invariant-loop-page
invariant-loop-page l = ThinsFound (take l.page-index l.found) (listed l.fn.self) (listed l.self)
