use Rattle.std.proofs.Common.{Some}
use Rattle.flash_log.specs.laws.Snapshots.{snapshot}
use Rattle.mounting.proofs.making.store_pages.Given as goal

abbrev pub ghost-new : goal.ghost-new
ghost-new g a = Some (snapshot (g.N.Nand.state a.device).geometry.pages (g.N.Nand.state a.device).geometry.blocks (g.N.Nand.state a.device).flash)
