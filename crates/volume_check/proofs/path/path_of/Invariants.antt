use Rattle.pages.specs.State.{OnlyFinds}
use Rattle.volume_check.proofs.path.path_of.Given as goal

abbrev pub invariant-loop-round : goal.invariant-loop-round
invariant-loop-round g l = OnlyFinds (g.P.Pages.state l.fn.pages) (g.P.Pages.state l.pages)
