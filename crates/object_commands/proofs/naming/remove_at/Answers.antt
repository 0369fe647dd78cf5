use Rattle.std.proofs.Common.{◌∙◌, ap, refl, sym}
use Rattle.posix_profile.specs.State.{Objects}
use Rattle.posix_profile.specs.Names.{prune}
use Rattle.posix_profile.specs.laws.Name.{named_entry, namer_directory}
use Rattle.posix_profile.specs.Outcomes.{answer}
use Rattle.posix_profile.specs.Changes.{without_name}
use Rattle.posix_profile.specs.declared.reply.Reply.TheVariants as replies
use Rattle.command_plans.specs.Paths.{place_of}
use Rattle.object_commands.proofs.Making.{plan_changed, entry_is, leads_at, dropped_empty}
use Rattle.object_commands.proofs.NamesLost.{removed_unnames}
use Rattle.command_plans.specs.laws.Room.{removed_fits, without_fits}
use Rattle.object_commands.proofs.naming.remove_at.Goals as goal

pub returns : goal.returns
returns g c z s holds same leads empty =
    let entry = c.entry_at.result in
    let here = leads_at s.objects (place_of c.args.place) entry c.args.number leads c.entry_at.ensures.directory c.entry_at.ensures.name in
    let dir = namer_directory s.objects entry.directory c.args.number entry.name.now here in
    plan_changed z s replies.Done _ _ _ c.change.ensures refl
    (record {
      sensible = (c.args.number, here, c.uncommitted.ensures.only);
      takes = sym (named_entry s.objects entry.directory c.args.number entry.name.now here);
      empty = dropped_empty s.objects c.uncommitted.result c.args.number c.uncommitted.ensures.only empty;
      fits = without_fits z c.uncommitted.result (without_name s.objects c.args.moment entry.directory entry.name.now) (removed_fits z s.objects c.args.moment entry.directory entry.name.now dir holds.sound.fit);
    })
    (ap (λ (o : Objects). answer (record { objects = o; handles = s.handles }) replies.Done)
    (c.uncommitted.ensures.left z s holds same _ entry.directory entry.name.now (removed_unnames s.objects c.args.moment entry.directory c.args.number entry.name.now here))
    ∙ entry_is (λ d n. answer (prune (record s { objects = without_name s.objects c.args.moment d n })) replies.Done) entry _ _ c.entry_at.ensures.directory c.entry_at.ensures.name)
