use Rattle.transactions.specs.laws.Newest.{newest_after}
use Rattle.transactions.proofs.law.a_group_is_newest_of_its_keys.Goals as goal

pub returns : goal.returns
returns c = newest_after
