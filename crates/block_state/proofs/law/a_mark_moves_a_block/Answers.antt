use Rattle.block_state.specs.laws.Committed.{mark_uncommitted, mark_bad, mark_committed}
use Rattle.block_state.proofs.law.a_mark_moves_a_block.Goals as goal

pub returns : goal.returns
returns c = record { uncommitted = λ old new b empty marks. mark_uncommitted old new b marks empty.within empty.good empty.uncommitted; bad = λ old new b lt good marks. mark_bad old new b marks lt good; committed = mark_committed }
