use Rattle.std.proofs.lemmas.Result.{IfOk-weaker, IfErr-weaker}
use Rattle.nand_model.specs.laws.Changes.{only_reads_on}
use Rattle.posix_calls.specs.Volumes.{over_pages}
use Rattle.posix_calls.proofs.Mounting.{scanned_over, placed_over}
use Rattle.posix_calls.proofs.volume.Volume.mount_scanned_with.Goals as goal

pub returns-clause-mounted : goal.returns-clause-mounted
returns-clause-mounted g c =
    IfOk-weaker c.over_mounted.result _ _ (λ v over. scanned_over _ _ (over_pages v) over _ _ c.in_ok-mounted.ensures.given) c.over_mounted.ensures.over

pub returns-clause-placed : goal.returns-clause-placed
returns-clause-placed g c =
    IfOk-weaker c.over_mounted.result _ _ (λ v over. placed_over _ _ (over_pages v) over c.in_ok-mounted.ensures.given.made) c.over_mounted.ensures.over

pub returns-clause-back : goal.returns-clause-back
returns-clause-back g c =
    IfErr-weaker c.over_mounted.result _ _ (λ failed back. only_reads_on _ _ _ c.in_ok-mounted.ensures.given.since.reads back) c.over_mounted.ensures.back
