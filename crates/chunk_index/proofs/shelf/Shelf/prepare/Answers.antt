use Rattle.std.proofs.Common.{sym, arith, ◌∙◌}
use Rattle.chunk_index.proofs.Preparing.{prepares_written, more_size}
use Rattle.chunk_index.proofs.Shelving.{written_same}
use Rattle.chunk_index.proofs.shelf.Shelf.prepare.Goals as goal

pub invariant_of-self : goal.invariant_of-self
invariant_of-self c =
    let self = c.args.self.now in
    let y = c.prepare.new.self in
    let through = c.get_mut.follows.holds y in
    record {
      ordered = through.4;
      totaled = more_size c.args.key.object self.objects (c.get_mut.follows.lender y) c.in-Some.entries.now y (sym c.in-Some.ensures.value) through c.in-Ok.put self.size c.in-Ok.ensures.put.0 self.totaled;
      bounded = omega (arith, c.room-room.ensures, c.in-Ok.ensures.put.1);
    }

pub invariant_of-self-in-Err-1 : goal.invariant_of-self-in-Err-1
invariant_of-self-in-Err-1 c =
    let y = c.prepare.new.self in
    let through = c.get_mut.follows.holds y in
    let same = written_same c.args.key.object c.args.self.now.objects (c.get_mut.follows.lender y) c.in-Some.entries.now y (sym c.in-Some.ensures.value) through c.in-Err.ensures.err in
    record { ordered = through.4; totaled = same.weighs (λ e. 1) ∙ c.args.self.now.totaled; bounded = c.args.self.now.bounded }

pub returns-in-Ok-clause-ok : goal.returns-in-Ok-clause-ok
returns-in-Ok-clause-ok c =
    let y = c.prepare.new.self in
    prepares_written c.args.key.object c.args.self.now.objects (c.get_mut.follows.lender y) c.in-Some.entries.now y (sym c.in-Some.ensures.value) (c.get_mut.follows.holds y) c.args.key.chunk c.in-Ok.ensures.ok

pub returns-in-Err-clause-err : goal.returns-in-Err-clause-err
returns-in-Err-clause-err c =
    let y = c.prepare.new.self in
    written_same c.args.key.object c.args.self.now.objects (c.get_mut.follows.lender y) c.in-Some.entries.now y (sym c.in-Some.ensures.value) (c.get_mut.follows.holds y) c.in-Err.ensures.err
