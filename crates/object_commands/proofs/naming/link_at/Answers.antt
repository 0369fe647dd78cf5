use Rattle.std.proofs.Common.{sym, ap}
use Rattle.posix_profile.specs.NameSteps.{link_at}
use Rattle.command_plans.specs.Paths.{place_of}
use Rattle.command_plans.specs.Classes.{Changing}
use Rattle.command_plans.specs.laws.Plan.{tries_same}
use Rattle.object_commands.proofs.naming.link_at.Goals as goal

pub returns-in-Some : goal.returns-in-Some
returns-in-Some g c z s holds file is = ap (link_at z c.args.read_only c.args.moment s c.args.number (place_of c.args.to)) (sym c.in-Some.is)

pub returns-in-None : goal.returns-in-None
returns-in-None g c z s holds file is =
    tries_same z Changing s _ _ (ap (link_at z c.args.read_only c.args.moment s c.args.number (place_of c.args.to)) (sym c.in-None.is)) c.link_absent.result (c.link_absent.ensures z s holds file is c.in-None.is)
