use Rattle.std.proofs.Common.{◌≡◌, ◌∙◌, refl, sym, ap, inl}
use Rattle.posix_profile.specs.Changes.{with_name, without_name}
use Rattle.posix_profile.specs.Charge.{fits}
use Rattle.posix_profile.specs.laws.Entry.{no_name}
use Rattle.posix_profile.specs.Outcomes.{change_to}
use Rattle.posix_profile.specs.Paths.{last_name}
use Rattle.posix_profile.specs.laws.Place.{absent_name}
use Rattle.posix_profile.specs.State.{Objects}
use Rattle.posix_profile.specs.declared.reply.Reply.TheVariants as replies
use Rattle.command_plans.specs.Paths.{place_of, last_of}
use Rattle.object_commands.proofs.Making.{plan_changed, entry_is, leads_at, absent_at, name_leads, none_dropped}
use Rattle.object_commands.proofs.NamesLost.{moved_keeps}
use Rattle.command_plans.specs.laws.Plan.{change_fits, change_full}
use Rattle.object_commands.proofs.rename.move_to_absent.Goals as goal

pub returns-then-not-has_move_room : goal.returns-then-not-has_move_room
returns-then-not-has_move_room g c z s holds from number to none =
    let a = last_name (last_of c.args.from.last) in
    let b = last_name (last_of c.args.to.last) in
    let name = absent_name s.objects c.args.to.directory (last_of c.args.to.last) _ none to.ends in
    let leads = name_leads s.objects (place_of c.args.from) c.args.number from number in
    let committed = moved_keeps z s holds.sound.well_formed c.args.moment c.args.from.directory c.args.to.directory c.args.number a b leads to.directory (λ k. no_name s.objects c.args.to.directory k b name.1) in
    let full = sym (c.has_move_room.ensures z s.objects holds.has to.directory c.args.moment c.args.number a b leads name.1) ∙ c.if-not-has_move_room.true in
    change_full z s _ replies.Done (ap (fits z) (sym committed) ∙ full)

pub returns : goal.returns
returns g c z s holds from number to none =
    let a = last_name (last_of c.args.from.last) in
    let b = last_name (last_of c.args.to.last) in
    let x = c.args.number in
    let f = c.entry_at.result in
    let t = c.entry_at-2.result in
    let name = absent_name s.objects c.args.to.directory (last_of c.args.to.last) _ none to.ends in
    let leads = name_leads s.objects (place_of c.args.from) x from number in
    let committed = moved_keeps z s holds.sound.well_formed c.args.moment c.args.from.directory c.args.to.directory x a b leads to.directory (λ k. no_name s.objects c.args.to.directory k b name.1) in
    let room = sym (c.has_move_room.ensures z s.objects holds.has to.directory c.args.moment x a b leads name.1) ∙ c.if-not-has_move_room.false in
    let same : with_name (without_name s.objects c.args.moment f.directory f.name.now) c.args.moment t.directory t.name.now x ≡ with_name (without_name s.objects c.args.moment c.args.from.directory a) c.args.moment c.args.to.directory b x =
    entry_is (λ d n. with_name (without_name s.objects c.args.moment d n) c.args.moment t.directory t.name.now x) f _ _ c.entry_at.ensures.directory c.entry_at.ensures.name
    ∙ entry_is (λ d n. with_name (without_name s.objects c.args.moment c.args.from.directory a) c.args.moment d n x) t _ _ c.entry_at-2.ensures.directory c.entry_at-2.ensures.name in
    let absent = absent_at s.objects (place_of c.args.to) t to none c.entry_at-2.ensures.directory c.entry_at-2.ensures.name in
    plan_changed z s replies.Done _ _ _ c.change.ensures refl
    (record {
      sensible = (leads_at s.objects (place_of c.args.from) f x leads c.entry_at.ensures.directory c.entry_at.ensures.name, inl (absent, refl));
      takes = sym absent.absent;
      empty = none_dropped s.objects;
      fits = ap (fits z) same ∙ room;
    })
    (change_fits z s (record { objects = with_name (without_name s.objects c.args.moment f.directory f.name.now) c.args.moment t.directory t.name.now x; handles = s.handles }) replies.Done (ap (fits z) same ∙ room)
    ∙ ap (λ (o : Objects). change_to z s (record { objects = o; handles = s.handles }) replies.Done) (same ∙ committed))
