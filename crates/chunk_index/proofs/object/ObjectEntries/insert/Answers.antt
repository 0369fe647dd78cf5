use Rattle.chunk_index.proofs.Altering.{at_absurd}
use Rattle.chunk_index.proofs.object.ObjectEntries.insert.Goals as goal

pub returns-in-Ok-clause-ok : goal.returns-in-Ok-clause-ok
returns-in-Ok-clause-ok c = absurd (at_absurd _ c.args.self.now.rises _ _ c.args.entry c.in-Ok.ensures.found c.requires.absent)
