use Rattle.std.proofs.Common.{sym, ap}
use Rattle.posix_profile.specs.NameSteps.{mkdir_at}
use Rattle.command_plans.specs.Paths.{place_of}
use Rattle.command_plans.specs.Classes.{Changing}
use Rattle.command_plans.specs.laws.Plan.{tries_same}
use Rattle.object_commands.proofs.naming.mkdir_at.Goals as goal

pub returns-in-Some : goal.returns-in-Some
returns-in-Some g c z s holds is = ap (mkdir_at z c.args.read_only c.args.moment s (place_of c.args.place)) (sym c.in-Some.is)

pub returns-in-None : goal.returns-in-None
returns-in-None g c z s holds is =
    tries_same z Changing s _ _ (ap (mkdir_at z c.args.read_only c.args.moment s (place_of c.args.place)) (sym c.in-None.is)) c.mkdir_absent.result (c.mkdir_absent.ensures z s holds is c.in-None.is)
