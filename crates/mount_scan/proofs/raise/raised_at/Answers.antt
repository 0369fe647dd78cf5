use Rattle.std.proofs.Common.{◌∙◌, ap, Some}
use Rattle.std.proofs.lemmas.Option.{slice_get-get_or}
use Rattle.flash_tree.specs.Places.{numbers_of}
use Rattle.mount_scan.proofs.Raised.{raised_more, raised_skip}
use Rattle.mount_scan.proofs.raise.raised_at.Goals as goal

pub returns-in_default : goal.returns-in_default
returns-in_default c = λ first is.
    raised_skip _ c.args.i first (numbers_of c.args.numbers) (slice_get-get_or c.args.tags.now c.args.i _ c.requires ∙ ap Some c.in_default.is) is

pub returns : goal.returns
returns c = λ first is.
    raised_more _ c.args.i c.in-Some.tag first (numbers_of c.args.numbers) _ (slice_get-get_or c.args.tags.now c.args.i _ c.requires ∙ ap Some c.in-Some.is)
    c.raised_to.ensures.version c.raised_to.ensures.group c.raised_to.ensures.seq is
