use Rattle.chunk_index.proofs.Keys.{listed_is_committed, committed_is_listed, count_of_list}
use Rattle.chunk_index.proofs.Once.{listed_once}
use Rattle.chunk_index.proofs.law.the_list_of_a_block_is_whole.Goals as goal

pub returns : goal.returns
returns c = record { committed = λ x b i k is. (listed_is_committed x b i k is).0; here = λ x b i k is. (listed_is_committed x b i k is).1; count = count_of_list; all = committed_is_listed; once = listed_once }
