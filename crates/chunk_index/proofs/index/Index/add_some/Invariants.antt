use Rattle.std.proofs.Common.{◌≤◌, ◌-◌, length}
use Rattle.block_state.specs.TableOf.{table}
use Rattle.chunk_index.specs.Adding.{AddsFirst, keys_of}
use Rattle.chunk_index.specs.Counts.{Recounts}
use Rattle.chunk_index.specs.Maps.{count_committed_in, CountsAgree}
use Rattle.chunk_index.proofs.index.Index.add_some.Given as goal

abbrev pub invariant-loop-done : goal.invariant-loop-done
invariant-loop-done l = record {
  adds : AddsFirst (keys_of l.pages) l.done l.fn.self.shelf.objects l.self.shelf.objects;
  within : l.done ≤ length (keys_of l.pages);
  agree : CountsAgree (table l.blocks) l.self;
  counts : Recounts (count_committed_in l.fn.self) (count_committed_in l.self) (table l.fn.blocks) (table l.blocks);
}

abbrev pub decreases-loop-done : goal.decreases-loop-done
decreases-loop-done l = length (keys_of l.pages) - l.done
