use Rattle.salvage.specs.Orphans.{Adds}
use Rattle.salvage.specs.Reaching.{objects_in}
use Rattle.salvage.proofs.Sets.{IsAmong}
use Rattle.salvage.proofs.orphans.add_all.Given as goal

abbrev pub invariant-loop-place : goal.invariant-loop-place
invariant-loop-place l = Adds (IsAmong (objects_in l.names) l.place) l.fn.named l.named
