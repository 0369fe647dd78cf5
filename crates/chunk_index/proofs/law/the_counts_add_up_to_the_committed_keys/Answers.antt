use Rattle.chunk_index.proofs.Rising.{committed_counted, one_length}
use Rattle.chunk_index.proofs.law.the_counts_add_up_to_the_committed_keys.Goals as goal

pub returns : goal.returns
returns c = record { all = committed_counted; one = one_length }
