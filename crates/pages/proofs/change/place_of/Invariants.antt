use Rattle.std.proofs.Common.{ℕ, ◌<◌}
use Rattle.pages.specs.Maps.{IsPageOf}
use Rattle.pages.proofs.change.place_of.Given as goal

abbrev pub invariant-loop-place : goal.invariant-loop-place
invariant-loop-place l = (k : ℕ) → k < l.place → IsPageOf l.pages l.key.object l.key.chunk k → ⊥
