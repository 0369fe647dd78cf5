use Rattle.surviving_pages.proofs.LostPlaces.{AddsLostBefore}
use Rattle.surviving_pages.proofs.lost.list_lost.Given as goal

abbrev pub invariant-loop-page : goal.invariant-loop-page
invariant-loop-page l = AddsLostBefore l.block l.tags l.page l.fn.lost.items l.lost.items
