use Rattle.std.proofs.Common.{◌≡◌, ◌≢◌, ℕ}
use Rattle.block_state.specs.TableOf.{table}
use Rattle.chunk_index.specs.Maps.{committed_pages, CountsAgree}
use Rattle.flash_log.specs.Lists.{ListsCommitted}
use Rattle.flash_log.specs.Reporting.{Reports}
use Rattle.flash_log.proofs.reporting.report_copies.Given as goal

abbrev pub invariant-loop-i : goal.invariant-loop-i
invariant-loop-i l = record {
  agree : CountsAgree (table l.blocks) l.index;
  geometry : (table l.blocks).geometry ≡ (table l.fn.blocks).geometry;
  reports : (v : ℕ) → ListsCommitted v (committed_pages l.fn.index) l.copies → v ≢ l.place.block
      → Reports v l.i l.place l.copies l.fn.index l.index (table l.fn.blocks) (table l.blocks);
}
