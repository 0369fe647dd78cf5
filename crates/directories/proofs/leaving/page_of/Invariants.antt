use Rattle.std.proofs.Common.{◌<◌, ℕ}
use Rattle.pages.specs.Maps.{IsPageOf}
use Rattle.directories.proofs.leaving.page_of.Given as goal

abbrev pub invariant-loop-page : goal.invariant-loop-page
invariant-loop-page l = (k : ℕ) → k < l.page-index → IsPageOf l.pages l.key.object l.key.chunk k → ⊥
