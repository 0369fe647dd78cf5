use Rattle.std.proofs.Common.{◌≡◌, ◌<◌, ◌+◌, ℕ, true, IsSome}
use Rattle.page_tags.specs.Headers.{is_present}
use Rattle.tree_walk.proofs.file.missing_chunk.Given as goal

abbrev pub invariant-loop-place : goal.invariant-loop-place
invariant-loop-place g l =
    (g.P.Pages.state l.pages).sound ≡ true → (k : ℕ) → k < l.place → is_present l.bits (1 + k) ≡ true → IsSome ((g.P.Pages.state l.pages).present l.file (1 + k))
