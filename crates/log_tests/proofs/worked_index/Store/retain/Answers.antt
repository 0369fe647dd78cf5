use Rattle.std.proofs.Common.{ap, ◌∙◌}
use Rattle.chunk_index.specs.laws.Maps.{below_retained}
use Rattle.log_tests.proofs.worked_index.Store.retain.Goals as goal

pub invariant_of-self : goal.invariant_of-self
invariant_of-self c =
    let self = c.args.self.now in
    record { agree = c.retain.ensures.agree; within_limit = below_retained 8 _ self.index c.retain.new.self c.retain.ensures.retains self.within_limit; eight = ap (λ (g : _). g.blocks) c.retain.ensures.counts.geometry ∙ self.eight; pages = ap (λ (g : _). g.pages) c.retain.ensures.counts.geometry ∙ self.pages }
