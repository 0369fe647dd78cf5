use Rattle.block_state.specs.laws.Committed.{same_bad_count, same_uncommitted_count, same_committed_count}
use Rattle.block_state.proofs.law.the_same_counts_count_the_same.Goals as goal

pub returns : goal.returns
returns c = record { bad = same_bad_count; uncommitted = same_uncommitted_count; committed = same_committed_count }
