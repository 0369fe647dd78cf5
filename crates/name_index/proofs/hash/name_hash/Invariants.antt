use Rattle.std.proofs.Common.{◌≡◌, take}
use Rattle.name_index.specs.Hashes.{fnv1a}
use Rattle.name_index.proofs.hash.name_hash.Given as goal

abbrev pub invariant-loop-byte : goal.invariant-loop-byte
invariant-loop-byte l = l.hash ≡ fnv1a (take l.byte-index l.name)
