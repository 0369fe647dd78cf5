use Rattle.std.proofs.Common.{◌≡◌, ◌⊎◌, ◌<◌, ◌≤◌, ◌+◌, ℕ}
use Rattle.page_tags.specs.Headers.{is_present}
use Rattle.file_io.proofs.bits.mark.Given as goal

abbrev pub invariant-loop-index : goal.invariant-loop-index
invariant-loop-index l = record {
  here : (k : ℕ) → l.first ≤ k → k < l.index → is_present l.bits (1 + k) ≡ l.present;
  others : (k : ℕ) → (k < l.first) ⊎ (l.end ≤ k) → is_present l.bits (1 + k) ≡ is_present l.initial.bits (1 + k);
}
