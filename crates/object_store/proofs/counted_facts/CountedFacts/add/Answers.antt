use Rattle.object_store.proofs.Edits.{fresh_counts}
use Rattle.object_store.proofs.counted_facts.CountedFacts.add.Goals as goal

pub returns-clause-counts : goal.returns-clause-counts
returns-clause-counts c = λ objects x counts fresh.
    fresh_counts objects c.args.number x fresh.free fresh.unnamed fresh.blank c.args.self.now c.put.new.self c.args.facts counts fresh.facts fresh.countable.within_limit c.put.ensures
