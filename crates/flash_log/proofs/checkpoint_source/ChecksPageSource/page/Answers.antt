use Rattle.std.proofs.Common.{◌≡◌, ℕ, ◌*◌, ◌/◌, sym, subst}
use Rattle.nand_model.specs.Calls.{Device}
use Rattle.flash_log.proofs.PageParts.{page_parts}
use Rattle.flash_log.proofs.checkpoint_source.ChecksPageSource.page.Goals as goal

pub write_parts-requires-clause-size : goal.write_parts-requires-clause-size
write_parts-requires-clause-size g c =
    let d : Device = g.N.Nand.state c.args.device.now in
    subst (λ (n : ℕ). 32 * (n / 32) ≡ n) (sym c.requires.size) (page_parts d.geometry)
