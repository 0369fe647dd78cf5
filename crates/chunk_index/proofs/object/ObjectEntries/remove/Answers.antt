use Rattle.std.proofs.Common.{subst, sym}
use Rattle.chunk_index.specs.Lists.{Rises}
use Rattle.chunk_index.specs.Entries.{chunk}
use Rattle.chunk_index.proofs.Finding.{rises_remove}
use Rattle.chunk_index.proofs.Altering.{alters_remove, gap_absurd}
use Rattle.chunk_index.proofs.object.ObjectEntries.remove.Goals as goal

pub invariant_of-self : goal.invariant_of-self
invariant_of-self c = record { rises = subst (Rises chunk) (sym c.remove.ensures.items) (rises_remove chunk _ c.args.self.now.rises _ _ c.in-Ok.ensures.found) }

pub returns-in-Ok : goal.returns-in-Ok
returns-in-Ok c = rw c.remove.ensures.items (alters_remove _ c.args.self.now.rises _ _ c.remove.result c.in-Ok.ensures.found)

pub returns-in-Err : goal.returns-in-Err
returns-in-Err c = absurd (gap_absurd _ _ _ c.in-Err.ensures.absent c.requires)
