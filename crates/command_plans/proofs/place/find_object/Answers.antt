use Rattle.command_plans.specs.Paths.{place_of}
use Rattle.command_plans.specs.laws.Plan.{finds_object, finds_none}
use Rattle.command_plans.proofs.place.find_object.Goals as goal

pub returns-in-Some-clause-lookups : goal.returns-in-Some-clause-lookups
returns-in-Some-clause-lookups g c z s holds =
    finds_object z s _ (place_of c.in_ok-place.place) c.in-Some.number holds.has.forest (c.in_ok-place.ensures.lookups z s holds) c.in-Some.is

pub returns-in-None-clause-lookups : goal.returns-in-None-clause-lookups
returns-in-None-clause-lookups g c z s holds = finds_none s _ (place_of c.in_ok-place.place) (c.in_ok-place.ensures.lookups z s holds) c.in-None.is
