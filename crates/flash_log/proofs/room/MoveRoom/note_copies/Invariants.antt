use Rattle.std.proofs.Common.{◌≡◌}
use Rattle.flash_log.specs.Room.{SameRoom}
use Rattle.flash_log.proofs.room.MoveRoom.note_copies.Given as goal

abbrev pub invariant-loop-i : goal.invariant-loop-i
invariant-loop-i l = record {
  copies : l.self.copies ≡ l.fn.self.copies;
  same : SameRoom l.fn.self l.self;
}
