use Rattle.posix_calls.specs.Closing.{Closes}
use Rattle.posix_calls.proofs.page_volume.PageVolume.close_all.Given as goal

abbrev pub invariant-loop-fd : goal.invariant-loop-fd
invariant-loop-fd g l = Closes g.P.Pages.state l.fd l.fn.self l.self
