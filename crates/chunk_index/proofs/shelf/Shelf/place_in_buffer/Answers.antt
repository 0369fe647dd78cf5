use Rattle.std.proofs.Common.{sym}
use Rattle.chunk_index.specs.InPlace.{with_buffered}
use Rattle.chunk_index.proofs.InPlace.{written_by, size_by}
use Rattle.chunk_index.proofs.shelf.Shelf.place_in_buffer.Goals as goal

pub invariant_of-self : goal.invariant_of-self
invariant_of-self c =
    let old = c.args.self.now.objects in
    let y = c.place_in_buffer.new.self in
    let through = c.get_mut.follows.holds y in
    let n = c.args.page in
    record {
      ordered = through.4;
      totaled = size_by c.args.key.object c.args.key.chunk old (c.get_mut.follows.lender y) c.in-Some.entries.now y (sym c.in-Some.ensures.value) through (with_buffered n) c.place_in_buffer.ensures.alters c.args.self.now.size c.args.self.now.totaled;
      bounded = c.args.self.now.bounded;
    }

pub returns-in-Some-clause-alters : goal.returns-in-Some-clause-alters
returns-in-Some-clause-alters c =
    let y = c.place_in_buffer.new.self in
    written_by _ _ _ (c.get_mut.follows.lender y) c.in-Some.entries.now y (sym c.in-Some.ensures.value) (c.get_mut.follows.holds y) (with_buffered c.args.page) c.place_in_buffer.ensures.alters
