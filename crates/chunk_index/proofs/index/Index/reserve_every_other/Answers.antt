use Rattle.chunk_index.proofs.Shelving.{same_entries}
use Rattle.chunk_index.proofs.index.Index.reserve_every_other.Goals as goal

pub loop-at-init : goal.loop-at-init
loop-at-init c = same_entries _
