use Rattle.std.proofs.Common.{◌∙◌, refl, sym, ap, inr}
use Rattle.posix_profile.specs.Changes.{with_name, without_name}
use Rattle.posix_profile.specs.laws.Name.{named_entry, namer_directory}
use Rattle.posix_profile.specs.Names.{prune}
use Rattle.posix_profile.specs.Outcomes.{change_to}
use Rattle.posix_profile.specs.Paths.{last_name}
use Rattle.posix_profile.specs.State.{Objects}
use Rattle.posix_profile.specs.declared.reply.Reply.TheVariants as replies
use Rattle.object_store.specs.Changes.{without}
use Rattle.command_plans.specs.Paths.{place_of, last_of}
use Rattle.object_commands.proofs.Making.{plan_changed, entry_is, leads_at, name_leads, dropped_empty}
use Rattle.object_commands.proofs.Moves.{onto_fits}
use Rattle.object_commands.proofs.NamesLost.{moved_unnames}
use Rattle.command_plans.specs.laws.Plan.{change_fits}
use Rattle.command_plans.specs.laws.Room.{without_fits}
use Rattle.object_commands.proofs.rename.move_onto.Goals as goal

pub returns : goal.returns
returns g c z s holds same from number to object ne empty =
    let f = c.entry_at.result in
    let t = c.entry_at-2.result in
    let x = c.args.number in
    let leads = leads_at s.objects (place_of c.args.from) f x (name_leads s.objects (place_of c.args.from) x from number) c.entry_at.ensures.directory c.entry_at.ensures.name in
    let onto = leads_at s.objects (place_of c.args.to) t c.args.there (name_leads s.objects (place_of c.args.to) c.args.there to object) c.entry_at-2.ensures.directory c.entry_at-2.ensures.name in
    let dir = namer_directory s.objects t.directory c.args.there t.name.now onto in
    let moved : Objects = with_name (without_name s.objects c.args.moment f.directory f.name.now) c.args.moment t.directory t.name.now x in
    let lost = moved_unnames s.objects c.args.moment f.directory t.directory x f.name.now t.name.now leads dir c.args.there onto ne in
    let fit = without_fits z c.uncommitted.result moved (onto_fits z s.objects c.args.moment f.directory t.directory x c.args.there f.name.now t.name.now leads onto ne holds.sound.fit) in
    plan_changed z s replies.Done _ _ _ c.change.ensures refl
    (record {
      sensible = (leads, inr (c.args.there, onto, ne, c.uncommitted.ensures.only));
      takes = sym (named_entry s.objects t.directory c.args.there t.name.now onto);
      empty = dropped_empty s.objects c.uncommitted.result c.args.there c.uncommitted.ensures.only empty;
      fits = fit;
    })
    (change_fits z s (record { objects = without c.uncommitted.result moved; handles = s.handles }) replies.Done fit
    ∙ ap (λ (o : Objects). change_to z s (record { objects = o; handles = s.handles }) replies.Done) (c.uncommitted.ensures.left z s holds same moved t.directory t.name.now lost)
    ∙ entry_is (λ d n. change_to z s (prune (record s { objects = with_name (without_name s.objects c.args.moment d n) c.args.moment t.directory t.name.now x })) replies.Done) f _ _ c.entry_at.ensures.directory c.entry_at.ensures.name
    ∙ entry_is (λ d n. change_to z s (prune (record s { objects = with_name (without_name s.objects c.args.moment c.args.from.directory (last_name (last_of c.args.from.last))) c.args.moment d n x })) replies.Done) t _ _ c.entry_at-2.ensures.directory c.entry_at-2.ensures.name)
