use Rattle.std.proofs.Common.{◌≡◌, arith}
use Rattle.std.specs.FinMap as map
use Rattle.posix_profile.specs.State.{entries_of}
use Rattle.paged_objects.proofs.Dropped.{stale_dropped, behind_stale}
use Rattle.paged_objects.proofs.dropping.drop_behind.Goals as goal

pub returns-in-Ok : goal.returns-in-Ok
returns-in-Ok c = λ z m objects names reports.
    stale_dropped c.args.names.now c.remove.new.self z m objects c.args.directory c.args.hash c.in-Ok.slot c.remove.ensures
    (behind_stale z m objects c.args.directory c.args.hash c.in-Ok.slot (λ dir.
    let count : c.entry_count.result ≡ map.len (entries_of (map.get objects c.args.directory)) = c.entry_count.ensures objects reports dir in
    omega (arith, count)))
    names
