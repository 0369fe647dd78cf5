use Rattle.std.specs.Prelude.{◌≡◌, true, IfOk}
use Rattle.std.proofs.Common.{sym, subst}
use Rattle.nand_model.specs.Calls.{Device}
use Rattle.volume_check.specs.Verdicts.{ShowsVolume}
use Rattle.salvage.proofs.WholeTrees.{finds_whole, shows_whole}
use Rattle.salvage.proofs.opening.has_whole_tree.Goals as goal

pub returns-clause-tree : goal.returns-clause-tree
returns-clause-tree g c = λ is.
    let a : Device = g.N.Nand.state c.args.device in
    let reported = c.diagnose-device.ensures in
    subst (λ r. IfOk r (λ whole. whole ≡ true)) (sym c.whole_by.ensures)
    (finds_whole a (g.N.Nand.state c.diagnose-device.result.0) c.diagnose-device.result.1 is.spare is.objects reported.reads is.honest reported.fault (reported.verdict is.honest)
    (c.a_flash_has_one_answer_at_most.ensures a.geometry a.flash) is.answer)

pub returns-clause-shows : goal.returns-clause-shows
returns-clause-shows g c = λ honest.
    let a : Device = g.N.Nand.state c.args.device in
    subst (λ r. IfOk r (λ whole. whole ≡ true → ShowsVolume a.geometry a.flash)) (sym c.whole_by.ensures)
    (shows_whole a.geometry a.flash c.diagnose-device.result.1 (c.diagnose-device.ensures.verdict honest))
