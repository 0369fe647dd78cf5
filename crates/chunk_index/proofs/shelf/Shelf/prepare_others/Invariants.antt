use Rattle.std.proofs.Common.{◌≡◌}
use Rattle.chunk_index.specs.Shelves.{SameEntries}
use Rattle.chunk_index.proofs.shelf.Shelf.prepare_others.Given as goal

abbrev pub invariant-loop-step : goal.invariant-loop-step
invariant-loop-step l = record {
  same : SameEntries l.fn.self.objects l.self.objects;
  size : l.self.size ≡ l.fn.self.size;
}
