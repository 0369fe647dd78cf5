use Rattle.surviving_pages.specs.Tagged.{ListsSurvivors}
use Rattle.surviving_pages.proofs.block.list_survivors.Given as goal

abbrev pub invariant-loop-page : goal.invariant-loop-page
invariant-loop-page l = ListsSurvivors l.block l.tags l.page l.survivors.items
