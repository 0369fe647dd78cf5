use Rattle.std.proofs.Common.{subst, sym}
use Rattle.chunk_index.specs.Lists.{Rises}
use Rattle.chunk_index.specs.Entries.{chunk}
use Rattle.chunk_index.proofs.object.ObjectEntries.shrink.Goals as goal

pub invariant_of-self : goal.invariant_of-self
invariant_of-self c = record { rises = subst (Rises chunk) (sym c.shrink_to_fit.ensures.items) c.args.self.now.rises }
