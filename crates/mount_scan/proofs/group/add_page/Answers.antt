use Rattle.mount_scan.proofs.Adding.{adds_counted, passes_page, reaches_more, reaches_on}
use Rattle.mount_scan.proofs.group.add_page.Goals as goal

pub returns-in_ok-add_found-clause-reach : goal.returns-in_ok-add_found-clause-reach
returns-in_ok-add_found-clause-reach c =
    reaches_on _ _ c.args.page _ (reaches_more c.args.tags.now c.args.page c.args.end c.run_end.result c.max-end.result c.requires.reach c.run_end.ensures c.max-end.ensures)

pub returns-in_ok-add_found-clause-added : goal.returns-in_ok-add_found-clause-added
returns-in_ok-add_found-clause-added c = λ first adds.
    adds_counted c.args.block c.args.page c.max-end.result c.args.tags.now first _ _ (reaches_more c.args.tags.now c.args.page c.args.end c.run_end.result c.max-end.result c.requires.reach c.run_end.ensures c.max-end.ensures)
    c.if-page-end.true c.in_ok-add_found.ensures adds

pub returns-else-page-end-clause-reach : goal.returns-else-page-end-clause-reach
returns-else-page-end-clause-reach c =
    reaches_on _ _ c.args.page _ (reaches_more c.args.tags.now c.args.page c.args.end c.run_end.result c.max-end.result c.requires.reach c.run_end.ensures c.max-end.ensures)

pub returns-else-page-end-clause-added : goal.returns-else-page-end-clause-added
returns-else-page-end-clause-added c = λ first adds.
    passes_page c.args.block c.args.page c.max-end.result c.args.tags.now first _ (reaches_more c.args.tags.now c.args.page c.args.end c.run_end.result c.max-end.result c.requires.reach c.run_end.ensures c.max-end.ensures)
    c.if-page-end.false adds
