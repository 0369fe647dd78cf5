use Rattle.std.proofs.Common.{◌≡◌, drop}
use Rattle.chunk_index.specs.Following.{object_keys}
use Rattle.chunk_index.proofs.committed_keys.split_first.Given as goal

abbrev pub invariant-loop-at : goal.invariant-loop-at
invariant-loop-at l = object_keys l.object (drop l.at l.entries) ≡ object_keys l.object l.entries
