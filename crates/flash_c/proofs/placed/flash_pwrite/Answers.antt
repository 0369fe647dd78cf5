use Rattle.std.proofs.Common.{◌∙◌, sym, w64}
use Rattle.std.proofs.lemmas.Int.{to_z-of_z}
use Rattle.flash_c.proofs.Places.{written_in}
use Rattle.flash_c.proofs.placed.flash_pwrite.Goals as goal

pub returns : goal.returns
returns c =
    let number = to_z-of_z w64 c.write_at.result (search (c.write_at.type_inv)) in
    written_in _ c.args.slot.now c.is_full.new.self c.session.result.now c.write_at.new.session (sym c.is_full.ensures.full ∙ c.if-not-is_full.false)
    c.is_full.ensures.same c.session.ensures.session _ _ _ (sym number) (rw (to_z-of_z w64 c.args.offset c.ranges.offset) at c.write_at.ensures)
