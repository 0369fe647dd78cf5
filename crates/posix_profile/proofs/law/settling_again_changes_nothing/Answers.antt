use Rattle.posix_profile.specs.laws.Prune.{settle_again}
use Rattle.posix_profile.proofs.law.settling_again_changes_nothing.Goals as goal

pub returns : goal.returns
returns c = settle_again
