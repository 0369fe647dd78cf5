use Rattle.command_plans.proofs.Walks.{above_is, above_none}
use Rattle.command_plans.proofs.path.walk.parent.Goals as goal

pub returns-in-Some : goal.returns-in-Some
returns-in-Some g c z objects has dir = above_is z objects has.forest c.args.directory dir c.in-Some.above (c.in-Some.ensures z objects has dir)

pub returns-in-None : goal.returns-in-None
returns-in-None g c z objects has dir = above_none z objects has.forest c.args.directory dir (c.in-None.ensures z objects has dir)
