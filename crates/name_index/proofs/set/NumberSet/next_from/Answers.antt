use Rattle.name_index.proofs.Running.{next_beyond}
use Rattle.name_index.proofs.set.NumberSet.next_from.Goals as goal

pub returns-in-None : goal.returns-in-None
returns-in-None c = next_beyond c.args.self.now.runs c.args.self.now.tiled c.args.from c.in-None.ensures c.first_beyond.result c.first_beyond.ensures
