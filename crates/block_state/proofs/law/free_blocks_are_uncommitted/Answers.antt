use Rattle.block_state.specs.laws.Committed.{free_where_closed, free_where_held, free_where_uncommitted, none_free}
use Rattle.block_state.proofs.law.free_blocks_are_uncommitted.Goals as goal

pub returns : goal.returns
returns c = record { closed = free_where_closed; held = free_where_held; uncommitted = λ t o is empty. free_where_uncommitted t o is empty.within empty.good empty.uncommitted; none = none_free }
