use Rattle.std.proofs.Common.{◌∙◌, ap, Some, arith}
use Rattle.std.proofs.lemmas.Option.{slice_get-get_or}
use Rattle.surviving_pages.proofs.Tagged.{adds_survivor, adds_none}
use Rattle.surviving_pages.proofs.block.add_survivor.Goals as goal

pub returns-in_ok-push : goal.returns-in_ok-push
returns-in_ok-push c =
    let at = slice_get-get_or c.args.tags.now c.args.page _ c.requires.page ∙ ap Some c.in-Some.is in
    rw c.in_ok-push.ensures.items (adds_survivor c.args.block c.args.page c.args.end c.args.tags.now c.in-Some.tag at c.requires.end _ (omega (arith, c.last_page.ensures)))

pub returns-else-last_page-end : goal.returns-else-last_page-end
returns-else-last_page-end c =
    let at = slice_get-get_or c.args.tags.now c.args.page _ c.requires.page ∙ ap Some c.in-Some.is in
    adds_none c.args.block c.args.page c.args.end c.args.tags.now c.in-Some.tag at c.requires.end _ (omega (arith, c.last_page.ensures))
