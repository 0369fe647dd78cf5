use Rattle.std.proofs.Common.{Ok, subst, sym}
use Rattle.nand_model.specs.Calls.{Erases}
use Rattle.port_nand.specs.Adapted.{unpacked_device}
use Rattle.port_nand.specs.declared.refusals.Refusals.{Refusals}
use Rattle.port_nand.proofs.Erasing.{erased_open}
use Rattle.port_nand.proofs.packed_nand.PackedNandNand.erase.Goals as goal

pub returns-in-Ok-clause-erases : goal.returns-in-Ok-clause-erases
returns-in-Ok-clause-erases g c =
    let b = c.args.block in
    let refusals : Refusals = c.args.self.now.refusals in
    let old = g.N.SmallSpareNand.state c.args.self.now.inner in
    let new = g.N.SmallSpareNand.state c.erase-answer.new.self in
    subst (λ (r : Refusals). Erases b (unpacked_device refusals old) (unpacked_device r new) (Ok tt)) (sym c.open-self.ensures)
    (erased_open b refusals old new c.in-Ok.ensures.erases)
