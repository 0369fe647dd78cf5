use Rattle.nand_model.specs.declared.geometry.Geometry.{Geometry}
use Rattle.flash_tree.specs.Mount.{sizes_of}
use Rattle.pages.specs.Maps.{PageMap}
use Rattle.tree_walk.specs.Hashes.{CoversTree}
use Rattle.mounting.proofs.Zeros.{said_candidates}
use Rattle.mounting.proofs.reading.go_through_candidates.Goals as goal

pub returns-in-Ok-found-clause-names : goal.returns-in-Ok-found-clause-names
returns-in-Ok-found-clause-names g c =
    let pages = c.in-Ok.pages in
    let found = c.in-Ok-found.tree in
    said_candidates (λ (k : Geometry) (m : PageMap). CoversTree found.names (sizes_of k found.spare) m found.tree) (g.N.Nand.state c.args.device) (g.N.Nand.state pages.device) c.args.index.now pages.index.now
    c.geometry-geometry.result c.in-Ok.ensures.device c.in-Ok.ensures.index c.geometry-geometry.ensures c.in-Ok-found.ensures.names
