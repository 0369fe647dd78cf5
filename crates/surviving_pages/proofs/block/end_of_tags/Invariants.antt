use Rattle.std.proofs.Common.{◌<◌, ℕ}
use Rattle.std.specs.Prelude.{◌↔◌}
use Rattle.surviving_pages.specs.Tagged.{IsTaggedBetween}
use Rattle.surviving_pages.proofs.block.end_of_tags.Given as goal

abbrev pub invariant-loop-page : goal.invariant-loop-page
invariant-loop-page l = (p : ℕ) → p < l.end ↔ IsTaggedBetween l.tags p l.page
