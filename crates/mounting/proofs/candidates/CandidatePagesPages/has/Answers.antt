use Rattle.mounting.proofs.Zeros.{has_candidate}
use Rattle.mounting.proofs.candidates.CandidatePagesPages.has.Goals as goal

pub returns : goal.returns
returns g c =
    let self = c.args.self.now in
    has_candidate (g.N.Nand.state self.device) self.index.now c.args.key.object c.args.key.chunk c.committed.result c.is_some.result c.is_some.ensures c.committed.ensures
