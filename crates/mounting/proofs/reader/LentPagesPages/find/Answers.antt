use Rattle.std.proofs.Common.{◌∙◌, sym}
use Rattle.mounting.proofs.Lent.{not_absent_lent}
use Rattle.mounting.proofs.reader.LentPagesPages.find.Goals as goal

pub returns-in-Some-clause-absent : goal.returns-in-Some-clause-absent
returns-in-Some-clause-absent g c = λ sound none.
    let self = c.args.self.now in
    absurd (not_absent_lent self.trust.reported (g.N.Nand.state self.device) self.index.now c.args.key.object c.args.key.chunk c.in-Some.at (sym c.committed.ensures ∙ c.in-Some.is) self.committed sound none)
