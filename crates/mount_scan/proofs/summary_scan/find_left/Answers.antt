use Rattle.std.proofs.Common.{refl, sym, ◌∙◌}
use Rattle.std.proofs.lemmas.Bool.{false≢true}
use Rattle.mount_scan.specs.FirstPages.{IsOlderThan}
use Rattle.mount_scan.specs.SummaryScan.{IsLeft}
use Rattle.mount_scan.proofs.FewPages.{block_costs, block_leaves}
use Rattle.mount_scan.proofs.SummaryRest.{each_at_most, rest_older, rest_read, rest_skip}
use Rattle.mount_scan.proofs.summary_scan.find_left.Goals as goal

pub returns-then-not-is_left-clause-scans : goal.returns-then-not-is_left-clause-scans
returns-then-not-is_left-clause-scans g c d done only next were =
    rest_skip d c.args.block done c.args.first c.args.summarized c.args.rest.now (λ left. false≢true (sym c.if-not-is_left.true ∙ c.is_left.ensures.1 left)) next were

pub returns-then-is_older-clause-scans : goal.returns-then-is_older-clause-scans
returns-then-is_older-clause-scans g c d done only next were =
    rest_older d (g.N.Nand.state c.args.device.now) c.args.block done c.args.first c.args.summarized c.args.rest.now _ only next (c.is_older.ensures.0 c.if-is_older.true) c.in_ok-find_written.ensures.adds
    c.in_ok-find_written.ensures.raised refl refl were

pub returns-clause-scans : goal.returns-clause-scans
returns-clause-scans g c d done only next were =
    rest_read d (g.N.Nand.state c.args.device.now) c.args.block done c.args.first c.args.summarized c.args.rest.now _ only next c.in_ok-find_block.ensures.adds c.in_ok-find_block.ensures.raised c.is_erased_read-rest.ensures.0
    refl were

pub returns-in_err-find_block-clause-reads_bounded : goal.returns-in_err-find_block-clause-reads_bounded
returns-in_err-find_block-clause-reads_bounded g c cost is =
    let left : IsLeft c.args.first c.args.summarized c.args.rest.now.erased = c.is_left.ensures.0 c.if-not-is_left.false in
    let other : IsOlderThan c.args.rest.now.renewed c.args.first → ⊥ = λ older. false≢true (sym c.if-is_older.false ∙ c.is_older.ensures.1 older) in
    let reads = each_at_most ((g.N.Nand.state c.args.device.now).flash.bad c.args.block) (g.N.Nand.state c.args.device.now).geometry.pages (g.N.Nand.state c.args.device.now) (g.N.Nand.state c.find_block.new.device) _ c.in_err-find_block.ensures.reads in
    block_costs (g.N.Nand.state c.args.device.now) c.args.block c.args.first c.args.summarized c.args.rest.now.erased c.args.rest.now.renewed cost (g.N.Nand.state c.args.device.now).reads (g.N.Nand.state c.find_block.new.device).reads is left other reads.most

pub returns-clause-reads_bounded : goal.returns-clause-reads_bounded
returns-clause-reads_bounded g c cost is =
    let left : IsLeft c.args.first c.args.summarized c.args.rest.now.erased = c.is_left.ensures.0 c.if-not-is_left.false in
    let other : IsOlderThan c.args.rest.now.renewed c.args.first → ⊥ = λ older. false≢true (sym c.if-is_older.false ∙ c.is_older.ensures.1 older) in
    let reads = each_at_most ((g.N.Nand.state c.args.device.now).flash.bad c.args.block) (g.N.Nand.state c.args.device.now).geometry.pages (g.N.Nand.state c.args.device.now) (g.N.Nand.state c.find_block.new.device) _ c.in_ok-find_block.ensures.reads in
    block_costs (g.N.Nand.state c.args.device.now) c.args.block c.args.first c.args.summarized c.args.rest.now.erased c.args.rest.now.renewed cost (g.N.Nand.state c.args.device.now).reads (g.N.Nand.state c.find_block.new.device).reads is left other reads.most

pub returns-clause-left : goal.returns-clause-left
returns-clause-left g c cost is =
    let left : IsLeft c.args.first c.args.summarized c.args.rest.now.erased = c.is_left.ensures.0 c.if-not-is_left.false in
    let other : IsOlderThan c.args.rest.now.renewed c.args.first → ⊥ = λ older. false≢true (sym c.if-is_older.false ∙ c.is_older.ensures.1 older) in
    let reads = each_at_most ((g.N.Nand.state c.args.device.now).flash.bad c.args.block) (g.N.Nand.state c.args.device.now).geometry.pages (g.N.Nand.state c.args.device.now) (g.N.Nand.state c.find_block.new.device) _ c.in_ok-find_block.ensures.reads in
    block_leaves (g.N.Nand.state c.args.device.now) c.args.block c.args.first c.args.summarized c.args.rest.now.erased c.args.rest.now.renewed cost (g.N.Nand.state c.args.device.now).reads (g.N.Nand.state c.find_block.new.device).reads is left other reads.most
    (g.N.Nand.state c.find_block.new.device) c.is_erased_read-rest.result reads.only c.is_erased_read-rest.ensures
