use Rattle.lives.specs.laws.LifeLaws.{failed_leave}
use Rattle.lives.proofs.law.failed_mounts_leave_the_tree.Goals as goal

pub returns : goal.returns
returns c = failed_leave
