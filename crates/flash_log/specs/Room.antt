-- Room for a move.
use Rattle.std.specs.Prelude.{◌≡◌, ◌≤◌, length, vec_capacity}
use Rattle.nand_model.specs.declared.geometry.Geometry.{Geometry}
use Rattle.flash_log.specs.declared.room.MoveRoom.{MoveRoom}

-- it has room for lists of all pages of a block, and for one page, of a device of these sizes
pub record IsRoomFor (g : Geometry) (room : MoveRoom) : Type 0 where
  pub copies : g.pages ≤ vec_capacity room.copies
  pub entries : g.pages ≤ vec_capacity room.entries
  pub scratch : length room.scratch.items ≡ g.bytes

-- there is no less room
pub record SameRoom (old new : MoveRoom) : Type 0 where
  pub copies : vec_capacity old.copies ≤ vec_capacity new.copies
  pub entries : vec_capacity old.entries ≤ vec_capacity new.entries
  pub scratch : length new.scratch.items ≡ length old.scratch.items
