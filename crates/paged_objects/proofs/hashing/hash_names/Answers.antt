use Rattle.std.proofs.Common.{◌∙◌, refl, sym}
use Rattle.std.specs.FinMap as map
use Rattle.name_index.specs.Covering.{HasHashes}
use Rattle.posix_profile.specs.State.{entries_of}
use Rattle.pages.specs.Maps.{PageMap, after_change}
use Rattle.paged_objects.proofs.Growing.{has_hashes, writes_slots, on_each_directory}
use Rattle.paged_objects.proofs.hashing.hash_names.Goals as goal

pub returns-clause-hashes : goal.returns-clause-hashes
returns-clause-hashes g c = λ z old new n writes keeps holds numbers fit.
    let m : PageMap = (g.P.Pages.state c.args.pages.now).present in
    on_each_directory new (λ d dir. HasHashes c.hash_change.new.names z (after_change c.args.change.now m) d (map.len dir.1)) c.hash_change.result
    (λ d dir. c.hash_change.ensures.hashes z m d (map.len (entries_of (map.get old d))) (map.len dir.1) (n.holds.size ∙ sym c.page_bytes.ensures.bytes)
    (writes_slots z m c.args.change.now old new holds numbers fit writes d dir) (has_hashes c.args.names.now z m old n.hashes d (map.get old d) refl) (keeps d).0 (keeps d).1)
