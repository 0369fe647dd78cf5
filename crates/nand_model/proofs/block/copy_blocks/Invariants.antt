use Rattle.std.proofs.Common.{◌≡◌, ◌<◌, ℕ, length}
use Rattle.nand_model.specs.Memory.{view_at, size_at, pages_at, bad_at, next_at}
use Rattle.nand_model.proofs.block.copy_blocks.Given as goal

abbrev pub invariant-loop-block : goal.invariant-loop-block
invariant-loop-block l = record {
  len : length l.copy.items ≡ l.block-index;
  lens : (k : ℕ) → k < l.block-index → length (pages_at l.copy.items k) ≡ length (pages_at l.blocks.items k);
  sizes : (k p : ℕ) → k < l.block-index → size_at (pages_at l.copy.items k) p ≡ size_at (pages_at l.blocks.items k) p;
  views : (k p : ℕ) → k < l.block-index → view_at (pages_at l.copy.items k) p ≡ view_at (pages_at l.blocks.items k) p;
  bads : (k : ℕ) → k < l.block-index → bad_at l.copy.items k ≡ bad_at l.blocks.items k;
  nexts : (k : ℕ) → k < l.block-index → next_at l.copy.items k ≡ next_at l.blocks.items k;
}
