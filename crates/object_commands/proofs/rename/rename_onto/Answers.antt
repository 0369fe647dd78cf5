use Rattle.std.proofs.Common.{◌∙◌}
use Rattle.std.proofs.lemmas.Result.{err_from_is_err_and}
use Rattle.posix_profile.specs.laws.Place.{found_there}
use Rattle.command_plans.specs.Paths.{last_of}
use Rattle.command_plans.specs.Classes.{Changing}
use Rattle.command_plans.specs.laws.Plan.{tries_same, refused, passed, passed_all, first_refused, none_refused}
use Rattle.object_commands.proofs.rename.rename_onto.Goals as goal

pub returns-then-read_only : goal.returns-then-read_only
returns-then-read_only g c z s holds same from number to other =
    let at = found_there z s.objects holds.has.forest c.args.from.directory c.args.number (last_of c.args.from.last) c.args.from.object from.place.directory number from.place.ends in
    refused s _ _ _ _ c.if-read_only.true ∙ none_refused s _ _ (c.in_ok-test_onto.ensures z s holds to.place at.0 at.1)

pub returns : goal.returns
returns g c z s holds same from number to other =
    let at = found_there z s.objects holds.has.forest c.args.from.directory c.args.number (last_of c.args.from.last) c.args.from.object from.place.directory number from.place.ends in
    tries_same z Changing s _ _ (passed_all s _ ∙ passed s _ _ _ _ c.if-read_only.false ∙ none_refused s _ _ (c.in_ok-test_onto.ensures z s holds to.place at.0 at.1))
    c.move_name.result (c.move_name.ensures z s holds same from number to other (c.in_ok-test_onto.ensures z s holds to.place at.0 at.1))

pub returns-in_err-test_onto : goal.returns-in_err-test_onto
returns-in_err-test_onto g c z s holds same from number to other =
    let at = found_there z s.objects holds.has.forest c.args.from.directory c.args.number (last_of c.args.from.last) c.args.from.object from.place.directory number from.place.ends in
    let p = err_from_is_err_and c.from_residual.result c.from_residual.ensures.1 in
    rw (p.1, p.2) (first_refused s _ _ _ (c.in_err-test_onto.ensures z s holds to.place at.0 at.1))
