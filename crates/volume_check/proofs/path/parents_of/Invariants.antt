use Rattle.pages.specs.State.{OnlyFinds}
use Rattle.volume_check.proofs.path.parents_of.Given as goal

abbrev pub invariant-loop-place : goal.invariant-loop-place
invariant-loop-place g l = OnlyFinds (g.P.Pages.state l.fn.pages) (g.P.Pages.state l.pages)
