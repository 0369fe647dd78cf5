-- What becomes of a slot whose session was lent.
use Rattle.std.specs.Borrow.{Lends, MutBor, Fml}
use Rattle.flash_c.specs.declared.session.Session.{Session}
use Rattle.flash_c.specs.contracts.session.Session.{the_row as session_row}
use Rattle.flash_c.specs.declared.slot.Slot.{Slot}
use Rattle.flash_c.specs.contracts.slot.Slot.{the_row}

-- the slot with this session in it
abbrev pub with_session : Slot → Session → Slot
with_session slot session = record slot { session = session }

-- the slot ends with the last session behind the reference
abbrev pub LendsSession : MutBor Slot → MutBor Session → Fml
LendsSession slot lent = Lends the_row session_row slot lent (with_session slot.now)
