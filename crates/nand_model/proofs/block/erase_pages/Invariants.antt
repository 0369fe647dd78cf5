use Rattle.std.proofs.Common.{◌≡◌, ◌<◌, ◌≤◌, ℕ, length}
use Rattle.nand_model.specs.Memory.{view_at, size_at}
use Rattle.nand_model.specs.Plans.{erased}
use Rattle.nand_model.proofs.block.erase_pages.Given as goal

abbrev pub invariant-loop-p : goal.invariant-loop-p
invariant-loop-p l = record {
  len : length l.pages.items ≡ length l.fn.pages.items;
  done : (k : ℕ) → k < l.p → view_at l.pages.items k ≡ erased l.end l.fates k (view_at l.fn.pages.items k);
  rest : (k : ℕ) → l.p ≤ k → view_at l.pages.items k ≡ view_at l.fn.pages.items k;
  sizes : (k : ℕ) → size_at l.pages.items k ≡ size_at l.fn.pages.items k;
}
