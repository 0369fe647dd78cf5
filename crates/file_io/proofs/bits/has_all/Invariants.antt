use Rattle.std.proofs.Common.{◌≡◌, ◌<◌, ◌≤◌, ◌+◌, ℕ, true}
use Rattle.page_tags.specs.Headers.{is_present}
use Rattle.file_io.proofs.bits.has_all.Given as goal

abbrev pub invariant-loop-index : goal.invariant-loop-index
invariant-loop-index l = (k : ℕ) → l.first ≤ k → k < l.index → is_present l.bits (1 + k) ≡ true
