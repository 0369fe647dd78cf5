use Rattle.std.proofs.Common.{◌∙◌, sym}
use Rattle.posix_profile.specs.laws.Name.{file_or}
use Rattle.posix_profile.specs.laws.Place.{found_there}
use Rattle.command_plans.specs.Paths.{last_of, place_of}
use Rattle.command_plans.specs.Classes.{Changing}
use Rattle.object_commands.proofs.Making.{file_leads, file_names_nothing}
use Rattle.command_plans.specs.laws.Plan.{plan_same, refused, passed, passed_all}
use Rattle.object_commands.proofs.naming.unlink_object.Goals as goal

pub returns-then-is_directory : goal.returns-then-is_directory
returns-then-is_directory g c z s holds same is object = refused s _ _ _ _ (sym (c.is_directory.ensures z s.objects holds.has) ∙ c.if-is_directory.true)

pub returns-then-read_only : goal.returns-then-read_only
returns-then-read_only g c z s holds same is object =
    refused s _ _ _ _ c.if-read_only.true ∙ passed s _ _ _ _ (sym (c.is_directory.ensures z s.objects holds.has) ∙ c.if-is_directory.false)

pub returns : goal.returns
returns g c z s holds same is object =
    let no' = sym (c.is_directory.ensures z s.objects holds.has) ∙ c.if-is_directory.false in
    let there = found_there z s.objects holds.has.forest c.args.place.directory c.args.number (last_of c.args.place.last) c.args.place.object is.directory object is.ends in
    let file = file_or s.objects c.args.number there.0 there.1 no' in
    let leads = file_leads s.objects (place_of c.args.place) c.args.number is object file in
    plan_same z Changing s _ _ (passed_all s _ ∙ passed s _ _ _ _ c.if-read_only.false ∙ passed s _ _ _ _ no') c.remove_at.result (c.remove_at.ensures z s holds same leads (file_names_nothing s.objects c.args.number file))
