use Rattle.std.proofs.Common.{◌≡◌, ◌∙◌, sym, refl}
use Rattle.std.specs.Prelude.{true, false}
use Rattle.std.specs.FinMap as map
use Rattle.posix_profile.specs.State.{Dir}
use Rattle.posix_profile.specs.Charge.{fits}
use Rattle.posix_profile.specs.Outcomes.{answer}
use Rattle.posix_profile.specs.Changes.{with_object}
use Rattle.posix_profile.specs.Paths.{last_name}
use Rattle.posix_profile.specs.laws.Place.{absent_name}
use Rattle.posix_profile.specs.declared.reply.Kind.TheVariants as kinds
use Rattle.posix_profile.specs.declared.reply.Reply.TheVariants as replies
use Rattle.command_plans.specs.Paths.{last_of, place_of}
use Rattle.object_commands.proofs.Making.{plan_changed, entry_is, absent_at, none_dropped}
use Rattle.command_plans.specs.laws.Plan.{change_fits, change_full, refused, passed, passed_all}
use Rattle.object_commands.proofs.naming.mkdir_absent.Goals as goal

pub returns-then-read_only : goal.returns-then-read_only
returns-then-read_only g c z s holds is none = refused s _ _ _ _ c.if-read_only.true

pub returns-then-not-has_object_room : goal.returns-then-not-has_object_room
returns-then-not-has_object_room g c z s holds is none =
    let name = absent_name s.objects c.args.place.directory (last_of c.args.place.last) _ none is.ends in
    let full : fits z (with_object s.objects c.args.moment c.args.place.directory (last_name (last_of c.args.place.last)) (Dir c.args.moment map.empty)) ≡ false =
    sym (c.has_object_room.ensures z s.objects holds.has is.directory (last_name (last_of c.args.place.last)) name.1 kinds.Directory c.args.moment) ∙ c.if-not-has_object_room.true in
    change_full z s _ replies.Done full ∙ passed_all s _ ∙ passed s _ _ _ _ c.if-read_only.false

pub returns : goal.returns
returns g c z s holds is none =
    let name = absent_name s.objects c.args.place.directory (last_of c.args.place.last) _ none is.ends in
    let room : fits z (with_object s.objects c.args.moment c.args.place.directory (last_name (last_of c.args.place.last)) (Dir c.args.moment map.empty)) ≡ true =
    sym (c.has_object_room.ensures z s.objects holds.has is.directory (last_name (last_of c.args.place.last)) name.1 kinds.Directory c.args.moment) ∙ c.if-not-has_object_room.false in
    let entry = c.entry_at.result in
    plan_changed z s replies.Done _ _ _ c.change.ensures refl
    (record {
      sensible = absent_at s.objects (place_of c.args.place) entry is none c.entry_at.ensures.directory c.entry_at.ensures.name;
      takes = tt;
      empty = none_dropped s.objects;
      fits = entry_is (λ d n. fits z (with_object s.objects c.args.moment d n (Dir c.args.moment map.empty))) entry _ _ c.entry_at.ensures.directory c.entry_at.ensures.name ∙ room;
    })
    (entry_is (λ d n. answer (record { objects = with_object s.objects c.args.moment d n (Dir c.args.moment map.empty); handles = s.handles }) replies.Done) entry _ _ c.entry_at.ensures.directory c.entry_at.ensures.name
    ∙ change_fits z s _ replies.Done room ∙ passed_all s _ ∙ passed s _ _ _ _ c.if-read_only.false)
