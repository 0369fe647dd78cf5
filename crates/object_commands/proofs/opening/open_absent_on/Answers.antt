use Rattle.std.proofs.Common.{◌≡◌, ◌∙◌, sym, ap, refl}
use Rattle.std.specs.Prelude.{true, false, []}
use Rattle.posix_profile.specs.State.{File}
use Rattle.posix_profile.specs.Charge.{fits}
use Rattle.posix_profile.specs.Changes.{with_object}
use Rattle.posix_profile.specs.HandleSteps.{open_on}
use Rattle.posix_profile.specs.Outcomes.{answer}
use Rattle.posix_profile.specs.Paths.{last_name}
use Rattle.posix_profile.specs.laws.Place.{absent_name}
use Rattle.posix_profile.specs.declared.reply.Kind.TheVariants as kinds
use Rattle.posix_profile.specs.declared.reply.Reply.TheVariants as replies
use Rattle.command_plans.specs.Paths.{last_of, place_of}
use Rattle.command_plans.specs.Classes.{Changing}
use Rattle.object_commands.proofs.Making.{opened_plan, entry_is, absent_at, none_dropped}
use Rattle.command_plans.specs.laws.Plan.{change_fits, change_full, refused, passed, passed_all}
use Rattle.object_commands.proofs.opening.open_absent_on.Goals as goal

pub returns-then-read_only : goal.returns-then-read_only
returns-then-read_only g c z s holds small is none = refused s _ _ _ _ c.if-read_only.true

pub returns-then-not-has_object_room : goal.returns-then-not-has_object_room
returns-then-not-has_object_room g c z s holds small is none =
    let name = absent_name s.objects c.args.place.directory (last_of c.args.place.last) _ none is.ends in
    let full : fits z (with_object s.objects c.args.moment c.args.place.directory (last_name (last_of c.args.place.last)) (File c.args.moment [])) ≡ false =
    sym (c.has_object_room.ensures z s.objects holds.has is.directory (last_name (last_of c.args.place.last)) name.1 kinds.File c.args.moment) ∙ c.if-not-has_object_room.true in
    change_full z s _ _ full ∙ passed_all s _ ∙ passed s _ _ _ _ c.if-read_only.false

pub returns : goal.returns
returns g c z s holds small is none =
    let name = absent_name s.objects c.args.place.directory (last_of c.args.place.last) _ none is.ends in
    let room : fits z (with_object s.objects c.args.moment c.args.place.directory (last_name (last_of c.args.place.last)) (File c.args.moment [])) ≡ true =
    sym (c.has_object_room.ensures z s.objects holds.has is.directory (last_name (last_of c.args.place.last)) name.1 kinds.File c.args.moment) ∙ c.if-not-has_object_room.false in
    let entry = c.entry_at.result in
    let number = c.new_number.ensures z s.objects holds.has in
    opened_plan z Changing s c.args.fd c.new_number.result c.args.flags _ _ _ c.open_on.ensures small
    (record {
      sensible = absent_at s.objects (place_of c.args.place) entry is none c.entry_at.ensures.directory c.entry_at.ensures.name;
      takes = tt;
      empty = none_dropped s.objects;
      fits = entry_is (λ d n. fits z (with_object s.objects c.args.moment d n (File c.args.moment []))) entry _ _ c.entry_at.ensures.directory c.entry_at.ensures.name ∙ room;
    })
    refl
    (entry_is (λ d n. answer (open_on (with_object s.objects c.args.moment d n (File c.args.moment [])) s c.args.fd c.new_number.result c.args.flags) (replies.Fd c.args.fd)) entry _ _ c.entry_at.ensures.directory c.entry_at.ensures.name
    ∙ ap (λ o. answer (open_on (with_object s.objects c.args.moment c.args.place.directory (last_name (last_of c.args.place.last)) (File c.args.moment [])) s c.args.fd o c.args.flags) (replies.Fd c.args.fd)) number
    ∙ change_fits z s _ _ room ∙ passed_all s _ ∙ passed s _ _ _ _ c.if-read_only.false)
