use Rattle.std.proofs.Common.{List, ℕ, subst, sym}
use Rattle.nand_model.specs.Calls.{Programs}
use Rattle.port_nand.proofs.packed_nand.PackedNandNand.program.Goals as goal

pub returns-in-Some-clause-fits : goal.returns-in-Some-clause-fits
returns-in-Some-clause-fits g c packed says =
    let old = g.N.SmallSpareNand.state c.args.self.now.inner in
    let new = g.N.SmallSpareNand.state c.program-answer.new.self in
    subst (λ (tag : List ℕ). Programs c.args.block c.args.page c.args.bytes.now tag old new c.program-answer.result)
    (sym (c.in-Some.ensures.only packed says)) c.program-answer.ensures.programs
