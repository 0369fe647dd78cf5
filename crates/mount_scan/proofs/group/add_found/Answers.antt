use Rattle.std.proofs.Common.{◌∙◌, ap, Some}
use Rattle.std.proofs.lemmas.Option.{slice_get-get_or}
use Rattle.mount_scan.proofs.Adding.{adds_page, adds_no_page}
use Rattle.mount_scan.proofs.group.add_found.Goals as goal

pub returns-in_ok-push : goal.returns-in_ok-push
returns-in_ok-push c =
    rw c.in_ok-push.ensures.items (adds_page c.args.block c.args.page c.in-Some.tag _ _ (slice_get-get_or c.args.tags.now c.args.page _ c.requires.page ∙ ap Some c.in-Some.is))

pub returns-in_default : goal.returns-in_default
returns-in_default c =
    adds_no_page c.args.block c.args.page _ _ (slice_get-get_or c.args.tags.now c.args.page _ c.requires.page ∙ ap Some c.in_default.is)
