use Rattle.mounting.proofs.Filtered.{part_left, committed_left, index_left}
use Rattle.mounting.proofs.law.what_the_tree_looks_up_is_committed.Goals as goal

pub returns : goal.returns
returns c = record { part = part_left; committed = committed_left; index = index_left }
