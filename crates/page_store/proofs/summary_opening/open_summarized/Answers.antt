use Rattle.std.proofs.Common.{◌∙◌, sym, ap, subst, length}
use Rattle.nand_model.specs.declared.geometry.Geometry.{Geometry}
use Rattle.block_state.specs.TableOf.{table}
use Rattle.mount_scan.specs.FirstPages.{AreNoted}
use Rattle.page_store.proofs.Buckets.{not_true}
use Rattle.page_store.proofs.SummaryTables.{finds_read, summarized_read, knows_firsts, opened_untrusted, not_true_flash, finds_tree}
use Rattle.page_store.proofs.summary_opening.open_summarized.Goals as goal

pub returns-then-not-have_names-clause-fault : goal.returns-then-not-have_names-clause-fault
returns-then-not-have_names-clause-fault g c =
    let old = g.N.Nand.state c.args.device.now in
    let new = g.N.Nand.state c.scan_summaries.new.device in
    let reads = c.scan_summaries.ensures.reads.only in
    not_true_flash new _ _ (finds_read old new reads _ c.in_ok-newest.ensures.newest) (summarized_read old new reads _ c.in_ok-newest.ensures.numbers)
    (λ names. not_true c.have_names.result c.if-not-have_names.true (c.have_names.ensures.1 names))

pub note_firsts-requires : goal.note_firsts-requires
note_firsts-requires g c = record {
  size = ap length c.deref.ensures.value ∙ c.requires.noted.len ∙ ap (λ (x : Geometry). x.blocks) (sym c.scan_summaries.ensures.reads.only.lasts.geometry) ∙ ap (λ (x : Geometry). x.blocks) (sym c.in_ok-blocks.ensures.table.geometry);
}

pub returns-clause-opened : goal.returns-clause-opened
returns-clause-opened g c =
    let old = g.N.Nand.state c.args.device.now in
    let new = g.N.Nand.state c.scan_summaries.new.device in
    let reads = c.scan_summaries.ensures.reads.only in
    opened_untrusted new _ c.in_ok-index.index (table c.in_ok-blocks.blocks) (table c.note_firsts.new.blocks) (table c.in_ok-index.blocks) _ (finds_read old new reads _ c.in_ok-newest.ensures.newest)
    (c.have_names.ensures.0 c.if-not-have_names.false) c.in_ok-blocks.ensures.table c.note_firsts.ensures.only c.in_ok-index.ensures.indexes c.in_ok-index.ensures.agree c.in_ok-index.ensures.counts

pub returns-clause-tree : goal.returns-clause-tree
returns-clause-tree g c =
    let old = g.N.Nand.state c.args.device.now in
    let new = g.N.Nand.state c.scan_summaries.new.device in
    let reads = c.scan_summaries.ensures.reads.only in
    finds_tree new _ _ (finds_read old new reads _ c.in_ok-newest.ensures.newest) (summarized_read old new reads _ c.in_ok-newest.ensures.numbers) c.in_ok-index.ensures.indexes

pub returns-clause-knows : goal.returns-clause-knows
returns-clause-knows g c =
    let old = g.N.Nand.state c.args.device.now in
    let new = g.N.Nand.state c.scan_summaries.new.device in
    let noted : AreNoted old old.geometry.blocks c.deref.result.now = subst (AreNoted old old.geometry.blocks) (sym c.deref.ensures.value) c.requires.noted in
    knows_firsts old new c.scan_summaries.ensures.reads.only _ (table c.in_ok-blocks.blocks) (table c.note_firsts.new.blocks) c.in_ok-newest.ensures.least c.in_ok-blocks.ensures.table c.in_ok-blocks.ensures.unwritten
    (c.note_firsts.ensures.knows old noted) _ c.in_ok-index.ensures.counts
