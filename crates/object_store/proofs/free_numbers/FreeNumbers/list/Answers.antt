use Rattle.std.proofs.Common.{◌∙◌, cond, nat_eq, ℕ, arith}
use Rattle.std.specs.BinaryHeap.{heap_items}
use Rattle.std.specs.declared.cmp.Reverse.{Reverse}
use Rattle.std.proofs.lemmas.List.Sorted.{sum_by_pushed}
use Rattle.object_store.proofs.Free.{gave_back}
use Rattle.object_store.proofs.free_numbers.FreeNumbers.list.Goals as goal

pub returns : goal.returns
returns c = λ before after knows gives. record {
  freed = gave_back before after c.args.self.now.low c.args.number (heap_items c.args.self.now.freed) (heap_items c.push.new.self) knows.freed gives c.requires.first c.requires.below
      (λ n. sum_by_pushed (λ (r : Reverse ℕ). cond (nat_eq n r.0) 1 0) _ (heap_items c.args.self.now.freed) (heap_items c.push.new.self) c.in-Ok.ensures.permutation);
  low = knows.low;
  mark = gives.others c.args.self.now.low (λ is. absurd (omega (arith, is, c.requires.below))) ∙ knows.mark;
}
