-- Why a name is not added.
use Rattle.std.specs.Prelude.{◌≡◌, ℕ}
use Rattle.std.specs.FinMap as map
use Rattle.posix_profile.specs.State.{Entries}
use Rattle.pages.specs.State.{PagesState}
use Rattle.pages.specs.Faults.{Says}
use Rattle.pages.specs.declared.fault.PageFault.{PageFault}

-- for want of memory, by the device, or because the directory has as many entries as its header can say
abbrev pub MayLackRoom : ℕ → PagesState → PageFault → Type 0
MayLackRoom entries new = Says (Unit {0}) ⊥ (entries ≡ 4294967295) new

-- the same where these are the entries
abbrev pub MayLackRoomIn : Entries → PagesState → PageFault → Type 0
MayLackRoomIn entries new = MayLackRoom (map.len entries) new
