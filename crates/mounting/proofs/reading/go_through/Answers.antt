use Rattle.nand_model.specs.declared.geometry.Geometry.{Geometry}
use Rattle.flash_tree.specs.Mount.{sizes_of}
use Rattle.pages.specs.Maps.{PageMap, has}
use Rattle.tree_walk.specs.Hashes.{CoversTree}
use Rattle.mounting.specs.Trees.{IsGoneThrough}
use Rattle.mounting.proofs.Lent.{said_of, few_lent}
use Rattle.mounting.proofs.reading.go_through.Goals as goal

pub returns-in-Ok-found-clause-tree : goal.returns-in-Ok-found-clause-tree
returns-in-Ok-found-clause-tree g c =
    let pages = c.in-Ok.pages in
    let found = c.in-Ok-found.tree in
    said_of (λ (k : Geometry) (m : PageMap). IsGoneThrough k (has m) found.spare found.tree) g.reported pages.trust.reported (g.N.Nand.state c.args.device) (g.N.Nand.state pages.device) c.args.index.now pages.index.now c.geometry-geometry.result
    c.in-Ok.ensures.device c.in-Ok.ensures.index c.in-Ok.ensures.trust c.geometry-geometry.ensures c.in-Ok-found.ensures.tree

pub returns-in-Ok-found-clause-names : goal.returns-in-Ok-found-clause-names
returns-in-Ok-found-clause-names g c =
    let pages = c.in-Ok.pages in
    let found = c.in-Ok-found.tree in
    said_of (λ (k : Geometry) (m : PageMap). CoversTree found.names (sizes_of k found.spare) m found.tree) g.reported pages.trust.reported (g.N.Nand.state c.args.device) (g.N.Nand.state pages.device) c.args.index.now pages.index.now c.geometry-geometry.result
    c.in-Ok.ensures.device c.in-Ok.ensures.index c.in-Ok.ensures.trust c.geometry-geometry.ensures c.in-Ok-found.ensures.names

pub returns-in-Ok-found-clause-within_limit : goal.returns-in-Ok-found-clause-within_limit
returns-in-Ok-found-clause-within_limit g c =
    let pages = c.in-Ok.pages in
    let found = c.in-Ok-found.tree in
    few_lent g.reported pages.trust.reported (g.N.Nand.state c.args.device) (g.N.Nand.state pages.device) (g.N.Nand.state c.find_tree-found.new.pages.device) (g.N.Nand.state c.into_device-device.result)
    c.geometry-geometry.result found.spare found.tree c.in-Ok.ensures.device c.in-Ok.ensures.trust c.geometry-geometry.ensures c.into_device-device.ensures c.in-Ok-found.ensures.issued
