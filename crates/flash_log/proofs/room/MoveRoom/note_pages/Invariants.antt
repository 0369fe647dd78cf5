use Rattle.flash_log.specs.Room.{SameRoom}
use Rattle.flash_log.proofs.room.MoveRoom.note_pages.Given as goal

abbrev pub invariant-loop-fresh : goal.invariant-loop-fresh
invariant-loop-fresh l = SameRoom l.fn.self l.self
