use Rattle.std.proofs.Common.{refl}
use Rattle.chunk_index.proofs.Shelving.{same_entries}
use Rattle.chunk_index.proofs.shelf.Shelf.prepare_others.Goals as goal

pub loop-step-init : goal.loop-step-init
loop-step-init c = record { same = same_entries _; size = refl }
