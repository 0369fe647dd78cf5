use Rattle.std.proofs.Common.{◌≡◌, ◌≤◌, ◌++◌, drop}
use Rattle.std.specs.Vec.{vec_capacity}
use Rattle.chunk_index.specs.Listing.{keys_of}
use Rattle.chunk_index.proofs.object.ObjectEntries.list_block.Given as goal

abbrev pub invariant-loop-entry : goal.invariant-loop-entry
invariant-loop-entry l = record {
  items : l.keys.items ++ keys_of l.block l.object (drop l.entry-index l.entry-items) ≡ l.fn.keys.items ++ keys_of l.block l.object l.entry-items;
  room : vec_capacity l.fn.keys ≤ vec_capacity l.keys;
}
