use Rattle.pages.specs.State.{OnlyFinds}
use Rattle.volume_check.proofs.path.name_of.Given as goal

abbrev pub invariant-loop-chunk : goal.invariant-loop-chunk
invariant-loop-chunk g l = OnlyFinds (g.P.Pages.state l.fn.pages) (g.P.Pages.state l.pages)
