use Rattle.std.proofs.Common.{◌<◌, sym, subst, ◌∙◌}
use Rattle.nand_model.specs.declared.geometry.Geometry.{Geometry}
use Rattle.flash_log.proofs.log.Log.written_block.Goals as goal

pub entry-entry-requires : goal.entry-entry-requires
entry-entry-requires g c =
    let can_write = c.args.self.now.can_write in
    subst (λ (x : Geometry). c.in_ok-block.block < x.blocks) (sym can_write.geometry) (can_write.open_block c.in_ok-block.block (sym c.open_block.ensures ∙ c.in_ok-block.was)).within
