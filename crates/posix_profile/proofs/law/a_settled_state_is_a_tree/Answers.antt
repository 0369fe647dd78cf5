use Rattle.posix_profile.specs.laws.Prune.{settled_tree}
use Rattle.posix_profile.proofs.law.a_settled_state_is_a_tree.Goals as goal

pub returns : goal.returns
returns c = settled_tree
