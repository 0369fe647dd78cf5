use Rattle.std.proofs.Common.{◌≡◌, ◌≤◌, ◌++◌}
use Rattle.std.specs.Vec.{vec_capacity}
use Rattle.chunk_index.specs.Listing.{keys_in}
use Rattle.chunk_index.proofs.shelf.Shelf.list_block.Given as goal

abbrev pub invariant-loop-object : goal.invariant-loop-object
invariant-loop-object l = record {
  items : l.keys.items ++ keys_in l.block l.object-iterator ≡ l.fn.keys.items ++ keys_in l.block l.fn.self.objects.entries;
  room : vec_capacity l.fn.keys ≤ vec_capacity l.keys;
}
