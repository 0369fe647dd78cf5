use Rattle.std.proofs.Common.{subst}
use Rattle.mount_scan.specs.NewestMap.{AreLatestOf}
use Rattle.mount_scan.proofs.NewestMap.{reports_newest}
use Rattle.mount_scan.proofs.whole.scan.Goals as goal

pub returns-clause-newest : goal.returns-clause-newest
returns-clause-newest g c =
    reports_newest (g.N.Nand.state c.args.device.now) c.in_ok-seen.seen.valid_pages.items c.in_ok-newest.newest c.in_ok-seen.ensures.valid_pages
    (subst (λ xs. AreLatestOf xs c.in_ok-newest.newest) c.deref.ensures.value c.in_ok-newest.ensures)
