use Rattle.std.proofs.Common.{◌≡◌, ◌<◌, ◌+◌, ℕ, get_or}
use Rattle.page_tags.proofs.zeros.are_halves_zero.Given as goal

abbrev pub invariant-loop-i : goal.invariant-loop-i
invariant-loop-i l = record {
  zero : l.greatest ≡ 0 → (k : ℕ) → k < l.i → (get_or l.bytes k 0 ≡ 0) × (get_or l.bytes (l.half + k) 0 ≡ 0);
  none : ((k : ℕ) → k < l.half + l.half → get_or l.bytes k 0 ≡ 0) → l.greatest ≡ 0;
}
