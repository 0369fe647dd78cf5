use Rattle.std.proofs.Common.{◌≡◌, length}
use Rattle.std.specs.Vec.Iter.{into_iter_items, into_iter_len}
use Rattle.pages.proofs.Folding.{Folding}
use Rattle.pages.proofs.change.Change.then.Given as goal

abbrev pub invariant-loop-page : goal.invariant-loop-page
invariant-loop-page l = record {
  folds : Folding l.cuts.items l.fn.next.pages.items l.fn.self.pages.items l.pages.items (into_iter_items l.page-iterator);
  len : into_iter_len l.page-iterator ≡ length (into_iter_items l.page-iterator);
}
