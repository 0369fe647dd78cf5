use Rattle.chunk_index.specs.laws.Maps.{agree_same, below_same}
use Rattle.log_tests.proofs.worked_index.Store.prepare.Goals as goal

pub invariant_of-self : goal.invariant_of-self
invariant_of-self c =
    let self = c.args.self.now in
    record { agree = agree_same _ self.index c.prepare.new.self c.prepare.ensures.committed self.agree; within_limit = below_same 8 self.index c.prepare.new.self c.prepare.ensures.present self.within_limit; eight = self.eight; pages = self.pages }
