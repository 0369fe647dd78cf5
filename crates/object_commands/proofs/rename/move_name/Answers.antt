use Rattle.std.proofs.Common.{◌∙◌, sym, ap}
use Rattle.std.proofs.lemmas.Bool.{eq-eqb, true≢false}
use Rattle.posix_profile.specs.NameSteps.{is_object, rename_tests_onto}
use Rattle.posix_profile.specs.Paths.{first_error}
use Rattle.posix_profile.specs.laws.Place.{found_there}
use Rattle.command_plans.specs.Paths.{last_of, place_of}
use Rattle.object_commands.proofs.Making.{replaced_names_nothing}
use Rattle.object_commands.proofs.rename.move_name.Goals as goal

pub returns-in-Some : goal.returns-in-Some
returns-in-Some g c z s holds same from number to other none =
    let here = found_there z s.objects holds.has.forest c.args.from.directory c.args.number (last_of c.args.from.last) c.args.from.object from.place.directory number from.place.ends in
    let there = found_there z s.objects holds.has.forest c.args.to.directory c.in-Some.there (last_of c.args.to.last) c.args.to.object to.place.directory c.in-Some.is to.place.ends in
    c.move_onto.ensures z s holds same from number to c.in-Some.is
    (λ is. true≢false (sym (eq-eqb c.args.number c.in-Some.there (sym is)) ∙ sym (ap (is_object c.args.number) c.in-Some.is) ∙ other))
    (replaced_names_nothing s c.args.number c.in-Some.there (place_of c.args.to) here.0 there.0 here.1 there.1
    (none ∙ ap (λ o. first_error (rename_tests_onto s c.args.number (place_of c.args.to) o)) c.in-Some.is))

pub returns-in-None : goal.returns-in-None
returns-in-None g c z s holds same from number to other none = c.move_to_absent.ensures z s holds from number to.place c.in-None.is
