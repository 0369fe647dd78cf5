use Rattle.object_store.proofs.Edits.{gone_counts}
use Rattle.object_store.proofs.counted_facts.CountedFacts.remove.Goals as goal

pub returns-clause-counts : goal.returns-clause-counts
returns-clause-counts c = λ objects counts can. gone_counts objects c.args.number can.blank can.unnamed c.args.self.now c.take_out.new.self counts can.countable.within_limit c.take_out.ensures.drops
