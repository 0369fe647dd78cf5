use Rattle.mount_scan.proofs.Latest.{lists_newest}
use Rattle.mount_scan.proofs.whole.scan_newest.Goals as goal

pub returns-clause-newest : goal.returns-clause-newest
returns-clause-newest g c = lists_newest (g.N.Nand.state c.args.device.now) _ _ (g.met.N.Nand.within c.args.device.now) c.in_ok-scan.ensures.found c.keep_newest.ensures
