use Rattle.chunk_index.proofs.Reordered.{reordered_is_committed, committed_is_reordered, reordered_once, count_of_reordered}
use Rattle.chunk_index.proofs.law.the_sorted_list_of_a_block_is_whole.Goals as goal

pub returns : goal.returns
returns c = record { committed = reordered_is_committed; all = committed_is_reordered; once = reordered_once; count = count_of_reordered }
