use Rattle.chunk_index.proofs.Freeing.{enough_free, as_many_bad}
use Rattle.chunk_index.proofs.law.blocks_without_committed_pages_are_free.Goals as goal

pub returns : goal.returns
returns c = record { free = λ x t flash z objects know count. enough_free x t flash z objects count know.counts know.marks know.tree; bad = as_many_bad }
