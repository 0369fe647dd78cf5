use Rattle.std.proofs.Common.{ap, not, sym}
use Rattle.std.specs.Prelude.{◌&&◌, Option, is_some, ℕ}
use Rattle.posix_profile.specs.HandleSteps.{open_at}
use Rattle.posix_profile.specs.laws.Place.{found_there}
use Rattle.command_plans.specs.Paths.{last_of, place_of}
use Rattle.command_plans.specs.Classes.{Changing, reports_if}
use Rattle.command_plans.specs.laws.Plan.{tries_kind, tries_same}
use Rattle.object_commands.proofs.opening.open_at.Goals as goal

pub returns-in-Some : goal.returns-in-Some
returns-in-Some g c z s holds same is =
    let there = found_there z s.objects holds.has.forest c.args.place.directory c.in-Some.number (last_of c.args.place.last) c.args.place.object is.directory c.in-Some.is is.ends in
    tries_kind z _ _ s _ (ap (λ (o : Option ℕ). reports_if (is_some o && not c.args.flags.trunc) Changing) (sym c.in-Some.is)) c.open_found.result
    (tries_same z _ s _ _ (ap (open_at z c.args.read_only c.args.moment s c.args.flags (place_of c.args.place)) (sym c.in-Some.is)) c.open_found.result (c.open_found.ensures z s holds same there.0 there.1))

pub returns-in-None : goal.returns-in-None
returns-in-None g c z s holds same is =
    tries_kind z _ _ s _ (ap (λ (o : Option ℕ). reports_if (is_some o && not c.args.flags.trunc) Changing) (sym c.in-None.is)) c.open_absent.result
    (tries_same z _ s _ _ (ap (open_at z c.args.read_only c.args.moment s c.args.flags (place_of c.args.place)) (sym c.in-None.is)) c.open_absent.result (c.open_absent.ensures z s holds same is c.in-None.is))
