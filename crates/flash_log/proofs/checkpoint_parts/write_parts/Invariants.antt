use Rattle.chunk_index.specs.Following.{keys_left}
use Rattle.chunk_index.specs.Maps.{committed_pages}
use Rattle.flash_log.proofs.CheckpointRows.{WritesParts}
use Rattle.flash_log.proofs.checkpoint_parts.write_parts.Given as goal

abbrev pub invariant-loop-k : goal.invariant-loop-k
invariant-loop-k l = WritesParts (committed_pages l.index) l.count l.first l.k (keys_left l.keys) l.fn.page l.page
