use Rattle.std.proofs.Common.{◌≡◌, ◌∙◌, sym, refl}
use Rattle.std.specs.Prelude.{true, false}
use Rattle.posix_profile.specs.Charge.{fits}
use Rattle.posix_profile.specs.Outcomes.{answer}
use Rattle.posix_profile.specs.Changes.{with_name}
use Rattle.posix_profile.specs.Paths.{last_name}
use Rattle.posix_profile.specs.laws.Place.{absent_name}
use Rattle.posix_profile.specs.declared.reply.Reply.TheVariants as replies
use Rattle.command_plans.specs.Paths.{last_of, place_of}
use Rattle.object_commands.proofs.Making.{plan_changed, entry_is, absent_at, none_dropped}
use Rattle.command_plans.specs.laws.Plan.{change_fits, change_full, refused, passed, passed_all}
use Rattle.object_commands.proofs.naming.link_absent.Goals as goal

pub returns-then-to : goal.returns-then-to
returns-then-to g c z s holds file is none = refused s _ _ _ _ c.if-to.true

pub returns-then-read_only : goal.returns-then-read_only
returns-then-read_only g c z s holds file is none = refused s _ _ _ _ c.if-read_only.true ∙ passed s _ _ _ _ c.if-to.false

pub returns-then-not-has_name_room : goal.returns-then-not-has_name_room
returns-then-not-has_name_room g c z s holds file is none =
    let name = absent_name s.objects c.args.to.directory (last_of c.args.to.last) _ none is.ends in
    let full : fits z (with_name s.objects c.args.moment c.args.to.directory (last_name (last_of c.args.to.last)) c.args.number) ≡ false =
    sym (c.has_name_room.ensures z s.objects holds.has is.directory (last_name (last_of c.args.to.last)) name.1 c.args.number c.args.moment) ∙ c.if-not-has_name_room.true in
    change_full z s _ replies.Done full ∙ passed_all s _ ∙ passed s _ _ _ _ c.if-read_only.false ∙ passed s _ _ _ _ c.if-to.false

pub returns : goal.returns
returns g c z s holds file is none =
    let name = absent_name s.objects c.args.to.directory (last_of c.args.to.last) _ none is.ends in
    let room : fits z (with_name s.objects c.args.moment c.args.to.directory (last_name (last_of c.args.to.last)) c.args.number) ≡ true =
    sym (c.has_name_room.ensures z s.objects holds.has is.directory (last_name (last_of c.args.to.last)) name.1 c.args.number c.args.moment) ∙ c.if-not-has_name_room.false in
    let entry = c.entry_at.result in
    plan_changed z s replies.Done _ _ _ c.change.ensures refl
    (record {
      sensible = (absent_at s.objects (place_of c.args.to) entry is none c.entry_at.ensures.directory c.entry_at.ensures.name, file);
      takes = tt;
      empty = none_dropped s.objects;
      fits = entry_is (λ d n. fits z (with_name s.objects c.args.moment d n c.args.number)) entry _ _ c.entry_at.ensures.directory c.entry_at.ensures.name ∙ room;
    })
    (entry_is (λ d n. answer (record { objects = with_name s.objects c.args.moment d n c.args.number; handles = s.handles }) replies.Done) entry _ _ c.entry_at.ensures.directory c.entry_at.ensures.name
    ∙ change_fits z s _ replies.Done room ∙ passed_all s _ ∙ passed s _ _ _ _ c.if-read_only.false ∙ passed s _ _ _ _ c.if-to.false)
