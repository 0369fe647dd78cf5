use Rattle.std.proofs.Common.{refl, sym, ◌∙◌, subst}
use Rattle.nand_model.specs.Calls.{Device}
use Rattle.flash_tree.specs.Places.{numbers_of}
use Rattle.flash_tree.specs.laws.Place.{same_flash}
use Rattle.chunk_index.specs.Maps.{committed_pages}
use Rattle.chunk_index.specs.declared.index.Index.{Index}
use Rattle.flash_log.specs.Consistency.{AreCommitted}
use Rattle.page_store.specs.Shown.{committed_data}
use Rattle.mounting.specs.NewestMaps.{IsNewestMap}
use Rattle.volume_check.proofs.OnFlash.{lies, lies_nowhere}
use Rattle.volume_check.proofs.Saying.{newest_map_here}
use Rattle.volume_check.proofs.device.place_of.Goals as goal

pub returns-in_default-clause-place : goal.returns-in_default-clause-place
returns-in_default-clause-place g c = λ honest low.
    let a : Device = g.N.Nand.state c.args.device.now in
    let b : Device = g.N.Nand.state c.open.new.device in
    let opened = c.in_ok-opened.opened in
    let reads = c.in_ok-opened.ensures.reads in
    let newest : IsNewestMap a.flash (committed_data opened.index a.flash) = newest_map_here a b opened.index opened.index reads honest refl
    (c.the_opened_pages_are_the_newest.ensures.pages b _ opened.index (numbers_of opened.numbers) c.in_ok-opened.ensures.opened (reads.lasts.honest ∙ honest)) in
    lies_nowhere a.flash opened.index newest c.args.key low (sym c.committed.ensures ∙ c.in_default.is)

pub returns-clause-place : goal.returns-clause-place
returns-clause-place g c = λ honest low.
    let a : Device = g.N.Nand.state c.args.device.now in
    let b : Device = g.N.Nand.state c.open.new.device in
    let opened = c.in_ok-opened.opened in
    let reads = c.in_ok-opened.ensures.reads in
    let committed : AreCommitted a.flash (committed_pages opened.index) =
    subst (λ f. AreCommitted f (committed_pages opened.index)) (same_flash a b reads honest) (c.in_ok-opened.ensures.opened.tables.newest (reads.lasts.honest ∙ honest)) in
    lies a.flash opened.index committed c.args.key c.in-Some.page (sym c.committed.ensures ∙ c.in-Some.is)
