use Rattle.std.proofs.Common.{subst}
use Rattle.mount_scan.specs.Keys.{ThinsFound}
use Rattle.mount_scan.specs.Listed.{listed}
use Rattle.mount_scan.proofs.Latest.{latest_block}
use Rattle.mount_scan.proofs.whole.find_block.Goals as goal

pub returns-clause-found : goal.returns-clause-found
returns-clause-found g c = λ below.
    latest_block (g.N.Nand.state c.args.device.now) c.args.block _ _ _ c.requires (c.in_ok-scan_block.ensures.alone c.clear.ensures.items) (subst (λ xs. ThinsFound xs (listed c.args.found.now) (listed c.add_all.new.self)) c.deref.ensures.value c.in_ok-add_all.ensures) below
