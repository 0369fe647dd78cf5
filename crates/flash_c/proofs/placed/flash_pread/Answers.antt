use Rattle.std.proofs.Common.{◌∙◌, sym, w64}
use Rattle.std.proofs.lemmas.Int.{to_z-of_z}
use Rattle.flash_c.proofs.Places.{read_in}
use Rattle.flash_c.proofs.placed.flash_pread.Goals as goal

pub returns : goal.returns
returns c =
    let number = to_z-of_z w64 c.read_at.result (search (c.read_at.type_inv)) in
    read_in _ c.args.slot.now c.is_full.new.self c.session.result.now c.read_at.new.session (sym c.is_full.ensures.full ∙ c.if-not-is_full.false)
    c.is_full.ensures.same c.session.ensures.session _ _ (sym number) (rw (to_z-of_z w64 c.args.offset c.ranges.offset) at c.read_at.ensures)
