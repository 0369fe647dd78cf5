use Rattle.object_store.specs.Totaled.{reported_at}
use Rattle.object_store.proofs.Edits.{bytes_counts}
use Rattle.object_store.proofs.Reporting.{file_facts}
use Rattle.object_store.proofs.counted_facts.CountedFacts.set_length.Goals as goal

pub returns-clause-counts : goal.returns-clause-counts
returns-clause-counts c = λ objects bytes counts file is before after.
    let there = file_facts objects c.args.number (reported_at c.args.self.now c.args.number) file (counts.each c.args.number) in
    bytes_counts c.args.self.now c.edit.new.self objects c.args.number c.args.moment c.args.size bytes there.0 counts file is before after there.1 (c.edit.ensures.puts there.0 there.1)
