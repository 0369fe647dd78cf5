use Rattle.transactions.specs.laws.Newest.{commit_comes_last, copies_come_last}
use Rattle.transactions.proofs.law.a_group_comes_last.Goals as goal

pub returns : goal.returns
returns c = record { committed = commit_comes_last; copied = copies_come_last }
