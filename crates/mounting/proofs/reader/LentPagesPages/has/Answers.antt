use Rattle.mounting.proofs.Lent.{has_lent}
use Rattle.mounting.proofs.reader.LentPagesPages.has.Goals as goal

pub returns : goal.returns
returns g c =
    let self = c.args.self.now in
    has_lent self.trust.reported (g.N.Nand.state self.device) self.index.now c.args.key.object c.args.key.chunk c.committed.result c.is_some.result c.is_some.ensures c.committed.ensures self.committed
