use Rattle.std.proofs.Common.{◌∙◌, ap}
use Rattle.std.proofs.lemmas.Result.{on_ok_weaker}
use Rattle.std.specs.FinMap as map
use Rattle.posix_profile.specs.State.{Dir}
use Rattle.plain_volume.specs.PlainState.{objects_in}
use Rattle.name_map.specs.laws.NameEntries.{remove_name}
use Rattle.plain_volume.proofs.state.change.remove_name.Goals as goal

pub returns : goal.returns
returns c =
    let entries = remove_name c.in_ok-entries.entries c.remove.new.self c.args.name.now c.len-count.ensures.ordered c.remove.ensures.entries
    ∙ ap (λ m. map.remove m c.args.name.now) c.in_ok-entries.ensures in
    on_ok_weaker c.put_object.result (λ is. is ∙ ap (λ es. map.insert (objects_in c.args.objects.now) c.args.directory (Dir c.args.moment es)) entries) c.put_object.ensures
