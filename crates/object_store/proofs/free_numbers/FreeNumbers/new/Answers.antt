use Rattle.std.proofs.Common.{arith}
use Rattle.object_store.specs.Taken.{taken_in}
use Rattle.object_store.proofs.Free.{mark_knows}
use Rattle.object_store.proofs.free_numbers.FreeNumbers.new.Goals as goal

pub returns : goal.returns
returns c =
    let all = c.first_free-low.ensures in
    mark_knows _ (taken_in c.args.facts.now) c.new-freed.ensures.items (all.low (λ k two lt. absurd (omega arith))) (all.free (λ k two lt. absurd (omega arith))) (all.below (λ k two lt. absurd (omega arith)))
