use Rattle.page_store.specs.laws.Buffering.{written_committed, written_present}
use Rattle.page_store.proofs.buffer_law.a_written_buffer_is_committed.Goals as goal

pub returns-clause-committed : goal.returns-clause-committed
returns-clause-committed c = λ made. written_committed made.group made.before made.after made.pages made.old made.new made.settles made.buffers made.written made.same

pub returns-clause-present : goal.returns-clause-present
returns-clause-present c = λ made rest. written_present made.group made.before made.after made.pages made.old made.new made.settles made.buffers made.written made.same rest
