use Rattle.std.proofs.Common.{◌≡◌, ◌<◌, ◌≤◌, ℕ, get_or}
use Rattle.file_io.proofs.chunk.clear_from.Given as goal

abbrev pub invariant-loop-i : goal.invariant-loop-i
invariant-loop-i l = record {
  before : (k : ℕ) → k < l.from → get_or l.bytes k 0 ≡ get_or l.initial.bytes k 0;
  cleared : (k : ℕ) → l.from ≤ k → k < l.i → get_or l.bytes k 0 ≡ 0;
}
