-- Calls that keep the committed pages.
use Rattle.std.proofs.Common.{◌∙◌}
use Rattle.chunk_index.specs.declared.index.Index.{Index}
use Rattle.chunk_index.specs.Maps.{SameCommitted}

pub committed_on : (x y z : Index) → SameCommitted x y → SameCommitted y z → SameCommitted x z
committed_on x y z first then = record { committed = λ o c. then.committed o c ∙ first.committed o c; counts = λ b. then.counts b ∙ first.counts b }
