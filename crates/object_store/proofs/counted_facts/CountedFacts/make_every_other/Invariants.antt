use Rattle.object_store.specs.Totaled.{CountsTheSame}
use Rattle.object_store.proofs.counted_facts.CountedFacts.make_every_other.Given as goal

abbrev pub invariant-loop-step : goal.invariant-loop-step
invariant-loop-step l = CountsTheSame l.fn.self l.self
