use Rattle.std.proofs.Common.{◌≡◌, ◌∙◌, sym, ap, nat_lt, arith}
use Rattle.std.specs.FinMap as map
use Rattle.posix_profile.specs.State.{entries_of}
use Rattle.std.proofs.lemmas.Bool.{lt-ltb}
use Rattle.std.proofs.Common.{le-ltb}
use Rattle.posix_profile.specs.laws.Name.{directory_or}
use Rattle.posix_profile.specs.laws.Place.{found_there}
use Rattle.command_plans.specs.Paths.{last_of, place_of}
use Rattle.command_plans.specs.Classes.{Changing}
use Rattle.object_commands.proofs.Making.{name_leads, empty_names_nothing}
use Rattle.command_plans.specs.laws.Plan.{plan_same, refused, passed, passed_all}
use Rattle.object_commands.proofs.naming.rmdir_object.Goals as goal

pub returns-then-is_file : goal.returns-then-is_file
returns-then-is_file g c z s holds same ends object = refused s _ _ _ _ (sym (c.is_file.ensures z s.objects holds.has) ∙ c.if-is_file.true)

pub returns-then-entry_count-gt0 : goal.returns-then-entry_count-gt0
returns-then-entry_count-gt0 g c z s holds same ends object =
    let no' = sym (c.is_file.ensures z s.objects holds.has) ∙ c.if-is_file.false in
    let there = found_there z s.objects holds.has.forest c.args.place.directory c.args.number (last_of c.args.place.last) c.args.place.object ends.place.directory object ends.place.ends in
    let count = c.entry_count.ensures z s.objects holds.has (directory_or s.objects c.args.number there.0 there.1 no') in
    refused s _ _ _ _ (ap (nat_lt 0) (sym count) ∙ lt-ltb _ _ c.if-entry_count-gt0.true) ∙ passed s _ _ _ _ no'

pub returns-then-read_only : goal.returns-then-read_only
returns-then-read_only g c z s holds same ends object =
    let no' = sym (c.is_file.ensures z s.objects holds.has) ∙ c.if-is_file.false in
    let there = found_there z s.objects holds.has.forest c.args.place.directory c.args.number (last_of c.args.place.last) c.args.place.object ends.place.directory object ends.place.ends in
    let count = c.entry_count.ensures z s.objects holds.has (directory_or s.objects c.args.number there.0 there.1 no') in
    refused s _ _ _ _ c.if-read_only.true ∙ passed s _ _ _ _ (ap (nat_lt 0) (sym count) ∙ le-ltb _ _ c.if-entry_count-gt0.false) ∙ passed s _ _ _ _ no'

pub returns : goal.returns
returns g c z s holds same ends object =
    let no' = sym (c.is_file.ensures z s.objects holds.has) ∙ c.if-is_file.false in
    let there = found_there z s.objects holds.has.forest c.args.place.directory c.args.number (last_of c.args.place.last) c.args.place.object ends.place.directory object ends.place.ends in
    let count = c.entry_count.ensures z s.objects holds.has (directory_or s.objects c.args.number there.0 there.1 no') in
    let leads = name_leads s.objects (place_of c.args.place) c.args.number ends object in
    plan_same z Changing s _ _ (passed_all s _ ∙ passed s _ _ _ _ c.if-read_only.false ∙ passed s _ _ _ _ (ap (nat_lt 0) (sym count) ∙ le-ltb _ _ c.if-entry_count-gt0.false) ∙ passed s _ _ _ _ no')
    c.remove_at.result (c.remove_at.ensures z s holds same leads (empty_names_nothing s.objects c.args.number (let none : map.len (entries_of (map.get s.objects c.args.number)) ≡ 0 = omega (arith, count, c.if-entry_count-gt0.false) in none)))
