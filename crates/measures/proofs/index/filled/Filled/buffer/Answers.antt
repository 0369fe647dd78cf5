use Rattle.chunk_index.specs.laws.Maps.{agree_same, below_same, below_placed}
use Rattle.measures.proofs.index.filled.Filled.buffer.Goals as goal

pub invariant_of-self : goal.invariant_of-self
invariant_of-self c =
    let self = c.args.self.now in
    record { agree = agree_same _ self.index c.prepare.new.self c.prepare.ensures.committed self.agree; within_limit = below_same 64 self.index c.prepare.new.self c.prepare.ensures.present self.within_limit; pages = self.pages }

pub invariant_of-self-2 : goal.invariant_of-self-2
invariant_of-self-2 c =
    let self = c.args.self.now in
    let within_limit = below_same 64 self.index c.prepare.new.self c.prepare.ensures.present self.within_limit in
    record {
      agree = agree_same _ c.prepare.new.self c.place.new.self c.place.ensures.committed (agree_same _ self.index c.prepare.new.self c.prepare.ensures.committed self.agree);
      within_limit = below_placed 64 c.args.page c.args.key.object c.args.key.chunk c.prepare.new.self c.place.new.self c.place.ensures.places c.requires.page within_limit;
      pages = self.pages;
    }
