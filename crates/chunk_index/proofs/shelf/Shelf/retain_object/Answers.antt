use Rattle.chunk_index.proofs.Staying.{retains_then_same, tallies_then_same, counts_then_same}
use Rattle.chunk_index.proofs.shelf.Shelf.retain_object.Goals as goal

pub returns-clause-retains : goal.returns-clause-retains
returns-clause-retains g c = retains_then_same _ _ _ _ _ c.retain_entries.ensures.retains c.drop_empty.ensures.same

pub returns-clause-tallies : goal.returns-clause-tallies
returns-clause-tallies g c = tallies_then_same _ _ _ c.retain_entries.ensures.tallies c.drop_empty.ensures.same

pub returns-clause-counts : goal.returns-clause-counts
returns-clause-counts g c = counts_then_same _ _ c.args.self.now.objects c.retain_entries.new.self.objects c.drop_empty.new.self.objects c.retain_entries.ensures.counts c.drop_empty.ensures.same
