use Rattle.std.proofs.Common.{sym, ap, ◌∙◌}
use Rattle.chunk_index.specs.Entries.{same_of}
use Rattle.chunk_index.proofs.Retaining.{retained_same_of}
use Rattle.chunk_index.proofs.Staying.{retains_of}
use Rattle.chunk_index.proofs.index.Index.retain.Goals as goal

pub invariant_of-self : goal.invariant_of-self
invariant_of-self g c = record { noted = λ o k not. c.args.self.now.noted o k (retained_same_of (g.F.KeyFilter.keeps c.args.filter.now o k) _ (sym (ap same_of (c.retain.ensures.looks o k)) ∙ not)) }

pub returns-clause-retains : goal.returns-clause-retains
returns-clause-retains g c = retains_of (g.F.KeyFilter.keeps c.args.filter.now) _ _ c.retain.ensures.looks
