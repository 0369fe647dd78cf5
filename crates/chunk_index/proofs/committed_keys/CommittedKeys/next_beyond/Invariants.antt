use Rattle.std.proofs.Common.{◌≡◌, length}
use Rattle.chunk_index.specs.Following.{all_keys}
use Rattle.chunk_index.proofs.committed_keys.CommittedKeys.next_beyond.Given as goal

abbrev pub invariant-loop-object : goal.invariant-loop-object
invariant-loop-object l = all_keys l.self.objects ≡ all_keys l.fn.self.objects

abbrev pub decreases-loop-object : goal.decreases-loop-object
decreases-loop-object l = length l.self.objects
