-- What buffers and structs hold after a question to a salvage.
use Rattle.std.specs.Prelude.{ℕ, List, ◌++◌, length, take, drop, map as list_map, Option, Some, None, Result, Ok, Err, ℤ, pos}
use Rattle.std.specs.Int.{w64, to_le_bytes}
use Rattle.page_tags.specs.declared.header.ObjectKind.{ObjectKind}
use Rattle.page_tags.specs.declared.header.ObjectKind.TheVariants as kinds
use Rattle.posix_profile.specs.declared.reply.Errno.TheVariants as errors
use Rattle.salvage.specs.declared.fault.SalvageFault.{SalvageFault}
use Rattle.salvage.specs.declared.reported.ObjectInfo.{ObjectInfo}
use Rattle.salvage.specs.declared.reported.SalvagedName.{SalvagedName}
use Rattle.surviving_pages.specs.declared.survivors.LostPlace.{LostPlace}
use Rattle.flash_c.specs.Filling.{names_bytes}
use Rattle.flash_c.specs.Numbers.{error_number, salvage_number, signed}
use Rattle.flash_c.specs.declared.salvaged.FlashPlace.{FlashPlace}
use Rattle.flash_c.specs.declared.salvaged.FlashSalvaged.{FlashSalvaged}

-- 1 is a file, 2 a directory
abbrev pub object_kind_number : ObjectKind → ℕ
object_kind_number kinds.File = 1
object_kind_number kinds.Directory = 2

-- what a stat returns: 0, ENOENT where no header of the object reads, or the error
abbrev pub info_number : Result (Option ObjectInfo) SalvageFault → ℤ
info_number (Ok (Some info)) = pos 0
info_number (Ok None) = error_number errors.ENOENT
info_number (Err fault) = salvage_number fault

-- the struct after it: what the header says, else as it was
abbrev pub info_filled : FlashSalvaged → Result (Option ObjectInfo) SalvageFault → FlashSalvaged
info_filled old (Ok (Some info)) = record { kind = object_kind_number info.kind; size = info.length; moment = info.moment }
info_filled old (Ok None) = old
info_filled old (Err fault) = old

-- why an object is not listed or not read: ENOENT where no header of it reads, and the other number where one does, which is of the other kind
abbrev pub missing_number : ℤ → Result (Option ObjectInfo) SalvageFault → ℤ
missing_number other (Ok (Some info)) = other
missing_number other (Ok None) = error_number errors.ENOENT
missing_number other (Err fault) = salvage_number fault

-- the number of an object in eight bytes, the lowest first
unfoldable pub object_bytes : ℕ → List ℕ
object_bytes o = to_le_bytes w64 o

-- the number of the object that a name leads to, and the name
abbrev pub entry_bytes : SalvagedName → List ℕ
entry_bytes n = object_bytes n.object ++ n.name.items

-- all of these, each with a zero after it
abbrev pub listing_bytes : List SalvagedName → List ℕ
listing_bytes names = names_bytes (list_map entry_bytes names)

-- as many of the new ones at the front as there is room for, and after them what was there
abbrev pub front_filled : {A : Type 0} → List A → List A → List A
front_filled old new = take (length old) new ++ drop (length new) old

-- what is returned of a list: how many are on it, or the error
abbrev pub list_number : Result (List ℕ) SalvageFault → ℤ
list_number (Ok list) = signed (length list)
list_number (Err fault) = salvage_number fault

-- what is filled with a list: its front, and else nothing
abbrev pub list_filled : List ℕ → Result (List ℕ) SalvageFault → List ℕ
list_filled old (Ok list) = front_filled old list
list_filled old (Err fault) = old

-- the place of a page, as C has it
abbrev pub place_of : LostPlace → FlashPlace
place_of place = record { block = place.block; page = place.page }

-- the places of pages, as C has them
abbrev pub places_of : List LostPlace → List FlashPlace
places_of lost = list_map place_of lost
