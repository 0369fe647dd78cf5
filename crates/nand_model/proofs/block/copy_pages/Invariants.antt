use Rattle.std.proofs.Common.{◌≡◌, ◌<◌, ℕ, length}
use Rattle.nand_model.specs.Memory.{view_at, size_at}
use Rattle.nand_model.proofs.block.copy_pages.Given as goal

abbrev pub invariant-loop-page : goal.invariant-loop-page
invariant-loop-page l = record {
  len : length l.copy.items ≡ l.page-index;
  sizes : (k : ℕ) → k < l.page-index → size_at l.copy.items k ≡ size_at l.pages.items k;
  views : (k : ℕ) → k < l.page-index → view_at l.copy.items k ≡ view_at l.pages.items k;
}
