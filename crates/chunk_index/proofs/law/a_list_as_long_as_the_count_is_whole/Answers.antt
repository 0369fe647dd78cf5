use Rattle.chunk_index.proofs.Totaled.{counted_is_listed}
use Rattle.chunk_index.proofs.law.a_list_as_long_as_the_count_is_whole.Goals as goal

pub returns : goal.returns
returns c = counted_is_listed
