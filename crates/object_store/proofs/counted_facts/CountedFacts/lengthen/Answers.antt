use Rattle.std.proofs.Common.{◌≡◌, length, max, ap, arith}
use Rattle.std.specs.FinMap as map
use Rattle.object_store.specs.Facts.{bytes_of}
use Rattle.object_store.specs.Totaled.{reported_at}
use Rattle.object_store.proofs.Edits.{bytes_counts}
use Rattle.object_store.proofs.Reporting.{file_facts}
use Rattle.object_store.proofs.counted_facts.CountedFacts.lengthen.Goals as goal

pub returns-clause-counts : goal.returns-clause-counts
returns-clause-counts c = λ objects bytes counts file is before after.
    let there = file_facts objects c.args.number (reported_at c.args.self.now c.args.number) file (counts.each c.args.number) in
    let long : length (bytes_of (map.get objects c.args.number)) ≡ length file.1 = ap (λ x. length (bytes_of x)) file.2 in
    let size : length bytes ≡ max there.0.size c.args.size = omega (arith, is, long, there.2.size) in
    bytes_counts c.args.self.now c.edit.new.self objects c.args.number c.args.moment (max there.0.size c.args.size) bytes there.0 counts file size before after there.1 (c.edit.ensures.puts there.0 there.1)
