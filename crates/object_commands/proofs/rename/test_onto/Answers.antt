use Rattle.std.proofs.Common.{◌∙◌, ◌&&◌, [], ◌∷◌, not, nat_lt, sym, ap}
use Rattle.std.specs.FinMap as map
use Rattle.posix_profile.specs.laws.Name.{directory_or}
use Rattle.posix_profile.specs.NameSteps.{rename_tests_onto}
use Rattle.posix_profile.specs.Paths.{first_error}
use Rattle.posix_profile.specs.laws.Place.{found_there}
use Rattle.posix_profile.specs.State.{is_file}
use Rattle.posix_profile.specs.declared.reply.Errno.TheVariants as errors
use Rattle.command_plans.specs.Paths.{last_of, place_of}
use Rattle.object_commands.proofs.Moves.{onto_tests}
use Rattle.object_commands.proofs.rename.test_onto.Goals as goal

pub returns-in-Some : goal.returns-in-Some
returns-in-Some g c z s holds is x there =
    let at = found_there z s.objects holds.has.forest c.args.to.directory c.in-Some.there (last_of c.args.to.last) c.args.to.object is.directory c.in-Some.is is.ends in
    let file = c.is_file.ensures z s.objects holds.has in
    let replaced = c.is_file-in-Some.ensures z s.objects holds.has in
    c.test_replaced.ensures
    ∙ ap (λ f. first_error ((f && not c.is_file-in-Some.result, errors.EISDIR) ∷ (not f && c.is_file-in-Some.result, errors.ENOTDIR) ∷ (not f && nat_lt 0 c.entry_count.result, errors.ENOTEMPTY) ∷ [])) file
    ∙ ap (λ t. first_error ((is_file (map.get s.objects c.args.number) && not t, errors.EISDIR) ∷ (not (is_file (map.get s.objects c.args.number)) && t, errors.ENOTDIR) ∷ (not (is_file (map.get s.objects c.args.number)) && nat_lt 0 c.entry_count.result, errors.ENOTEMPTY) ∷ [])) replaced
    ∙ onto_tests s c.args.number c.in-Some.there (place_of c.args.to) x at.0 c.entry_count.result there at.1 (λ no'. c.entry_count.ensures z s.objects holds.has (directory_or s.objects c.in-Some.there at.0 at.1 no'))
    ∙ ap (λ o. first_error (rename_tests_onto s c.args.number (place_of c.args.to) o)) (sym c.in-Some.is)

pub returns-in-None : goal.returns-in-None
returns-in-None g c z s holds is x there =
    c.test_absent.ensures
    ∙ ap (λ f. first_error ((f && c.args.to.slash_follows, errors.ENOTDIR) ∷ [])) (c.is_file-in-None.ensures z s.objects holds.has)
    ∙ ap (λ o. first_error (rename_tests_onto s c.args.number (place_of c.args.to) o)) (sym c.in-None.is)
