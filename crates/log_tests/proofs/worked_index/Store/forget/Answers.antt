use Rattle.chunk_index.specs.laws.Maps.{agree_same, below_cut}
use Rattle.log_tests.proofs.worked_index.Store.forget.Goals as goal

pub invariant_of-self : goal.invariant_of-self
invariant_of-self c =
    let self = c.args.self.now in
    record { agree = agree_same _ self.index c.forget.new.self c.forget.ensures.committed self.agree; within_limit = below_cut 8 c.args.object _ self.index c.forget.new.self c.forget.ensures.cuts self.within_limit; eight = self.eight; pages = self.pages }
