use Rattle.std.proofs.Common.{sym, ap, ◌∙◌}
use Rattle.chunk_index.proofs.Reporting.{settled_same_of}
use Rattle.chunk_index.specs.Entries.{same_of}
use Rattle.chunk_index.proofs.index.Index.settle_group.Goals as goal

pub settle-requires-clause-may : goal.settle-requires-clause-may
settle-requires-clause-may c = record { block = c.requires.block; fits = c.requires.fits; tallies = record { counts = c.requires.agree.counts; within = c.requires.agree.within } }

pub invariant_of-self : goal.invariant_of-self
invariant_of-self c = record { noted = λ o k not. absurd (settled_same_of c.args.group _ (sym (ap same_of (c.settle.ensures.looks o k)) ∙ not)) }
