-- What memory for a salvage holds.
use Rattle.std.specs.Prelude.{Bool, true, false}
use Rattle.std.specs.Ptr.{points_to, uninit_at}
use base.Fml.{Fml}
use denote.RawPtr.{Ptr}
use Rattle.flash_c.specs.declared.salvage_session.SalvageSession.{SalvageSession}
use Rattle.flash_c.specs.contracts.salvage_session.SalvageSession.{the_row}

abbrev pub held : Bool → Ptr → SalvageSession → Fml
held true p session = points_to the_row p session
held false p session = uninit_at the_row p
