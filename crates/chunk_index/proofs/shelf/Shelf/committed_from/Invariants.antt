use Rattle.std.proofs.Common.{◌≡◌, length, drop}
use Rattle.chunk_index.specs.Following.{all_keys}
use Rattle.chunk_index.proofs.shelf.Shelf.committed_from.Given as goal

abbrev pub invariant-loop-object : goal.invariant-loop-object
invariant-loop-object l = drop l.left (all_keys l.objects) ≡ drop l.count (all_keys l.self.objects.entries)

abbrev pub decreases-loop-object : goal.decreases-loop-object
decreases-loop-object l = length l.objects
