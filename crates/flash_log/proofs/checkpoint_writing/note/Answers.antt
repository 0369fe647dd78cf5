use Rattle.block_state.specs.TableOf.{table}
use Rattle.flash_log.proofs.CheckpointNoting.{free_closed}
use Rattle.flash_log.proofs.checkpoint_writing.note.Goals as goal

pub note_checkpoint-requires-clause-free : goal.note_checkpoint-requires-clause-free
note_checkpoint-requires-clause-free c = free_closed (table c.args.blocks.now) (table c.close.new.self) c.args.block c.close.ensures c.requires.good c.requires.uncommitted
