-- What becomes of a slot whose salvage was lent.
use Rattle.std.specs.Borrow.{Lends, MutBor, Fml}
use Rattle.flash_c.specs.declared.salvage_session.SalvageSession.{SalvageSession}
use Rattle.flash_c.specs.contracts.salvage_session.SalvageSession.{the_row as session_row}
use Rattle.flash_c.specs.declared.salvage_slot.SalvageSlot.{SalvageSlot}
use Rattle.flash_c.specs.contracts.salvage_slot.SalvageSlot.{the_row}

-- the slot with this session in it
abbrev pub with_session : SalvageSlot → SalvageSession → SalvageSlot
with_session slot session = record slot { session = session }

-- the slot ends with the last session behind the reference
abbrev pub LendsSalvage : MutBor SalvageSlot → MutBor SalvageSession → Fml
LendsSalvage slot lent = Lends the_row session_row slot lent (with_session slot.now)
