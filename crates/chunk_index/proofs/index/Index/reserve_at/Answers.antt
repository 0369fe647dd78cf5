use Rattle.std.proofs.Common.{sym, ap, ◌∙◌}
use Rattle.chunk_index.specs.Entries.{same_of}
use Rattle.chunk_index.proofs.index.Index.reserve_at.Goals as goal

pub invariant_of-self : goal.invariant_of-self
invariant_of-self c = record { noted = λ o k not. c.args.self.now.noted o k (sym (ap same_of (c.reserve.ensures.looks o k)) ∙ not) }
