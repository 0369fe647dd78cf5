use Rattle.std.proofs.Common.{◌∙◌, ap}
use Rattle.std.proofs.lemmas.Result.{on_ok_weaker}
use Rattle.std.specs.FinMap as map
use Rattle.posix_profile.specs.State.{Dir}
use Rattle.name_map.specs.NameEntries.{entries_in}
use Rattle.name_map.specs.laws.NameEntries.{insert_name}
use Rattle.plain_volume.specs.PlainState.{objects_in}
use Rattle.plain_volume.proofs.state.change.put_name.Goals as goal

pub returns : goal.returns
returns c =
    let entries = insert_name c.in_ok-entries.entries c.insert.new.self c.in_ok-name.name c.args.number c.insert.ensures.was_ordered c.insert.ensures.ordered c.in_ok-insert.ensures.entries
    ∙ ap (λ k. map.insert (entries_in c.in_ok-entries.entries) k c.args.number) c.in_ok-name.ensures
    ∙ ap (λ m. map.insert m c.args.name.now c.args.number) c.in_ok-entries.ensures in
    on_ok_weaker c.put_object.result (λ is. is ∙ ap (λ es. map.insert (objects_in c.args.objects.now) c.args.directory (Dir c.args.moment es)) entries) c.put_object.ensures
