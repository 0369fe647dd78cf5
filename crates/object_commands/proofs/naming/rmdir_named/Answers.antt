use Rattle.command_plans.specs.Classes.{Changing}
use Rattle.command_plans.specs.laws.Plan.{tries_same, this_object, no_object}
use Rattle.object_commands.proofs.naming.rmdir_named.Goals as goal

pub returns-in-Some : goal.returns-in-Some
returns-in-Some g c z s holds same ends =
    tries_same z Changing s _ _ (this_object s c.args.place.object _ c.in-Some.number c.in-Some.is) c.rmdir_object.result (c.rmdir_object.ensures z s holds same ends c.in-Some.is)

pub returns-in-None : goal.returns-in-None
returns-in-None g c z s holds same ends = no_object s c.args.place.object _ c.in-None.is
