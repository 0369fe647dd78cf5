use Rattle.std.proofs.Common.{ℕ, ◌<◌}
use Rattle.pages.specs.Maps.{IsCut}
use Rattle.pages.proofs.change.is_cut.Given as goal

abbrev pub invariant-loop-cut : goal.invariant-loop-cut
invariant-loop-cut l = (k : ℕ) → k < l.cut-index → IsCut l.cuts l.key.object l.key.chunk k → ⊥
