use Rattle.std.proofs.Common.{◌≡◌, ◌<◌, ◌+◌, ◌*◌, ℕ, take, drop}
use Rattle.mount_scan.specs.CheckpointParts.{Takes, entry_part}
use Rattle.mount_scan.proofs.checkpoint_part.take_parts.Given as goal

abbrev pub invariant-loop-k : goal.invariant-loop-k
invariant-loop-k l = Takes l.n (l.first + l.k) (λ fs. (i : ℕ) → i < l.k → take 32 (drop (32 * i) l.parts) ≡ entry_part fs (l.first + i)) l.fn.entries.items l.entries.items
