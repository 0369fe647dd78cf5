-- Why no room was made, where committed pages were to be moved.
use Rattle.flash_log.specs.declared.fault.MoveFault.{MoveFault}
use Rattle.flash_log.specs.declared.fault.MoveFault.TheVariants as moves
use Rattle.flash_log.specs.declared.room_fault.RoomFault.{RoomFault}
use Rattle.flash_log.specs.declared.room_fault.RoomFault.TheVariants as faults

-- the same reason
abbrev pub room_fault : MoveFault → RoomFault
room_fault moves.Worn = faults.Worn
room_fault moves.Lost = faults.Lost
room_fault moves.Gone = faults.Gone
