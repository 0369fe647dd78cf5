use Rattle.chunk_index.proofs.Keys.{none_where_zero, zero_where_none}
use Rattle.chunk_index.proofs.law.the_counts_are_of_the_keys.Goals as goal

pub returns : goal.returns
returns c = record { none = none_where_zero; zero = zero_where_none }
