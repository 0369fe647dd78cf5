use Rattle.std.proofs.Common.{◌^◌}
use Rattle.chunk_index.proofs.Staying.{ahead}
use Rattle.chunk_index.proofs.Following.{Passed}
use Rattle.chunk_index.proofs.index.Index.next_beyond.Given as goal

abbrev pub invariant-loop-object : goal.invariant-loop-object
invariant-loop-object l = Passed l.self l.fn.after l.last

abbrev pub decreases-loop-object : goal.decreases-loop-object
decreases-loop-object l = ahead l.last (2 ^ 64)
