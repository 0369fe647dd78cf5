use Rattle.std.proofs.Common.{drop}
use Rattle.salvage.specs.Reaching.{objects_in}
use Rattle.salvage.proofs.Going.{IsPutting}
use Rattle.salvage.proofs.reaching.NamedObjects.put_all.Given as goal

abbrev pub invariant-loop-place : goal.invariant-loop-place
invariant-loop-place l = IsPutting l.fn.self (objects_in l.names) l.self (drop l.place (objects_in l.names))
