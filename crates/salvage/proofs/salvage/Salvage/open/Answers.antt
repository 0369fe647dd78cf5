use Rattle.std.specs.Prelude.{◌≡◌, true, false, Result, Bool, IfOk, List}
use Rattle.std.proofs.Common.{sym, subst, ap, ◌∙◌}
use Rattle.nand_model.specs.Calls.{Device}
use Rattle.nand_model.specs.Changes.{OnlyReads}
use Rattle.mounting.specs.NewestMaps.{IsNewestMap}
use Rattle.surviving_pages.specs.declared.survivors.LostPlace.{LostPlace}
use Rattle.volume_check.specs.Verdicts.{ShowsVolume}
use Rattle.salvage.specs.Opened.{GoesBy, GoesBySurvivors}
use Rattle.salvage.specs.StateOf.{device_in, index_in, state}
use Rattle.salvage.specs.declared.fault.SalvageFault.{SalvageFault}
use Rattle.salvage.proofs.Carried.{carried, goes_by}
use Rattle.salvage.proofs.salvage.Salvage.open.Goals as goal

pub returns-in-Ok-new-clause-tree : goal.returns-in-Ok-new-clause-tree
returns-in-Ok-new-clause-tree g c = λ is.
    let a : Device = g.N.Nand.state c.args.device in
    let b : Device = g.N.Nand.state c.has_whole_tree-device.result.0 in
    let d : Device = g.N.Nand.state c.find_pages.new.device in
    let left = c.in-Ok-new.left in
    let reads : OnlyReads a d = c.reads_change_nothing.ensures.more a b d c.has_whole_tree-device.ensures.reads c.find_pages.ensures.reads in
    let reported : IfOk c.has_whole_tree-device.result.1 (λ whole. whole ≡ true) = c.has_whole_tree-device.ensures.tree is in
    let whole : c.in-Ok.whole ≡ true = subst (λ (r : Result Bool SalvageFault). IfOk r (λ w. w ≡ true)) c.in-Ok.is reported in
    let still : d.honest ≡ true = reads.lasts.honest ∙ is.honest in
    carried IsNewestMap a d (g.N.Nand.state (device_in left)) c.in-Ok-find_pages.found.index (index_in left) reads is.honest
    (ap g.N.Nand.state c.in-Ok-new.ensures.device) c.in-Ok-new.ensures.index (c.in-Ok-find_pages.ensures.whole still whole)

pub returns-in-Ok-new-clause-pages : goal.returns-in-Ok-new-clause-pages
returns-in-Ok-new-clause-pages g c = λ honest.
    let a : Device = g.N.Nand.state c.args.device in
    let b : Device = g.N.Nand.state c.has_whole_tree-device.result.0 in
    let d : Device = g.N.Nand.state c.find_pages.new.device in
    let left = c.in-Ok-new.left in
    let reads : OnlyReads a d = c.reads_change_nothing.ensures.more a b d c.has_whole_tree-device.ensures.reads c.find_pages.ensures.reads in
    let still : d.honest ≡ true = reads.lasts.honest ∙ honest in
    let reported : IfOk c.has_whole_tree-device.result.1 (λ whole. whole ≡ true → ShowsVolume a.geometry a.flash) = c.has_whole_tree-device.ensures.shows honest in
    let shows : c.in-Ok.whole ≡ true → ShowsVolume a.geometry a.flash = subst (λ (r : Result Bool SalvageFault). IfOk r (λ w. w ≡ true → ShowsVolume a.geometry a.flash)) c.in-Ok.is reported in
    let same = ap g.N.Nand.state c.in-Ok-new.ensures.device in
    let newest : c.in-Ok.whole ≡ true → IsNewestMap a.flash (state left).present = λ whole. carried IsNewestMap a d (g.N.Nand.state (device_in left))
    c.in-Ok-find_pages.found.index (index_in left) reads honest same c.in-Ok-new.ensures.index (c.in-Ok-find_pages.ensures.whole still whole) in
    let survive : c.in-Ok.whole ≡ false → GoesBySurvivors a.flash (state left).present c.in-Ok-find_pages.found.lost.items = λ damaged.
    carried (λ f m. GoesBySurvivors f m c.in-Ok-find_pages.found.lost.items) a d (g.N.Nand.state (device_in left)) c.in-Ok-find_pages.found.index (index_in left)
    reads honest same c.in-Ok-new.ensures.index (c.in-Ok-find_pages.ensures.damaged still damaged) in
    subst (λ (lost : List LostPlace). GoesBy a.geometry a.flash (state left).present lost) (sym c.in-Ok-new.ensures.lost)
    (goes_by a.geometry a.flash (state left).present c.in-Ok-find_pages.found.lost.items c.in-Ok.whole shows newest survive)
