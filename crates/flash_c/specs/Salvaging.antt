-- What each question to a salvage is, over any device: what it returns and fills is what the pages say that the salvage goes by.
use Rattle.std.specs.Prelude.{◌≡◌, ℕ, List, length, Option, Some, None, Result, Ok, Err, IfOk, IfErr, OnErr, ℤ}
use Rattle.flash_tree.specs.Tree.{NewestMap}
use Rattle.pages.specs.Maps.{has}
use Rattle.pages.specs.State.{PagesState, OnlyFinds}
use Rattle.posix_profile.specs.declared.reply.Errno.{Errno}
use Rattle.posix_profile.specs.declared.reply.Errno.TheVariants as errors
use Rattle.salvage.specs.Reached.{ListsOrphans}
use Rattle.salvage.specs.Reported.{KeepsRest, LacksPower, ListsDirectory, ReadsPart, SaysInfo, WhyNotRead}
use Rattle.salvage.specs.declared.fault.SalvageFault.{SalvageFault}
use Rattle.salvage.specs.declared.reported.Listing.{Listing}
use Rattle.salvage.specs.declared.reported.ObjectInfo.{ObjectInfo}
use Rattle.salvage.specs.declared.reported.Part.{Part}
use Rattle.salvage.specs.declared.reported.Part.TheVariants as parts
use Rattle.surviving_pages.specs.declared.survivors.LostPlace.{LostPlace}
use Rattle.tree_walk.specs.Visits.{IsSeen}
use Rattle.volume_terms.specs.Sizes.{Sizes}
use Rattle.flash_c.specs.Filling.{filled, filled_number}
use Rattle.flash_c.specs.Numbers.{error_number, lost_page, no_room, salvage_number, signed}
use Rattle.flash_c.specs.Salvaged.{front_filled, info_filled, info_number, list_filled, list_number, listing_bytes, missing_number, places_of}
use Rattle.flash_c.specs.declared.salvaged.FlashPlace.{FlashPlace}
use Rattle.flash_c.specs.declared.salvaged.FlashSalvaged.{FlashSalvaged}

-- A call of a salvage and its result: it only looked for pages; of the pages that it goes by it returned what they say; an error has its cause.
pub record Looks {T : Type 0} (Says : Sizes → NewestMap → T → Type 0) (Why : PagesState → SalvageFault → Type 0) (old : PagesState)
    (reported : Result T SalvageFault) (new : PagesState) : Type 0 where
  pub lookups : OnlyFinds old new
  pub says : (z : Sizes) → IsSeen z old → IfOk reported (Says z (has old.present))
  pub why : IfErr reported (Why new)

-- the header of an object was looked for
abbrev pub LooksAt : ℕ → PagesState → Result (Option ObjectInfo) SalvageFault → PagesState → Type 0
LooksAt object old reported new = Looks (λ (z : Sizes) (m : NewestMap). SaysInfo z m object) LacksPower old reported new

-- a stat: the object, the struct before it, what it returned, and the struct after it
pub record ObjectStat : Type 0 where
  pub object : ℕ
  pub before : FlashSalvaged
  pub number : ℤ
  pub after : FlashSalvaged

-- the number and the struct of a stat are those of what the header says
abbrev pub IsObjectStat : ObjectStat → PagesState → PagesState → Type 0
IsObjectStat s old new = (reported : Result (Option ObjectInfo) SalvageFault) × LooksAt s.object old reported new
    × (s.number ≡ info_number reported) × (s.after ≡ info_filled s.before reported)

-- nothing is listed or read of an object: the number is by what its header says
abbrev pub IsMissing : ℕ → Errno → PagesState → ℤ → PagesState → Type 0
IsMissing object other old number new =
    (reported : Result (Option ObjectInfo) SalvageFault) × LooksAt object old reported new × (number ≡ missing_number (error_number other) reported)

-- a list: the directory, the buffer and the count of lost slots before it, what it returned, and these two after it
pub record ObjectList : Type 0 where
  pub directory : ℕ
  pub before : List ℕ × ℕ
  pub number : ℤ
  pub after : List ℕ × ℕ

-- the same, from its parts
abbrev pub list_of : (directory : ℕ) (before : List ℕ × ℕ) (number : ℤ) (after : List ℕ × ℕ) → ObjectList
list_of directory before number after = record { directory = directory; before = before; number = number; after = after }

-- what a list returns and fills by what the salvage listed, after which it is called once more where it listed nothing
abbrev pub EndsList : ObjectList → PagesState → Result (Option Listing) SalvageFault → PagesState → Type 0
EndsList l mid (Ok (Some listing)) new = (new ≡ mid) × (l.number ≡ filled_number (length l.before.0) no_room (listing_bytes listing.names.items))
    × (l.after ≡ (filled l.before.0 (listing_bytes listing.names.items), listing.lost))
EndsList l mid (Ok None) new = IsMissing l.directory errors.ENOTDIR mid l.number new × (l.after ≡ l.before)
EndsList l mid (Err fault) new = (new ≡ mid) × (l.number ≡ salvage_number fault) × (l.after ≡ l.before)

-- A list is what the salvage lists: the names of the slots that read, and how many do not.
abbrev pub IsObjectList : ObjectList → PagesState → PagesState → Type 0
IsObjectList l old new = (reported : Result (Option Listing) SalvageFault) × (mid : PagesState)
    × Looks (λ (z : Sizes) (m : NewestMap). ListsDirectory z m l.directory) WhyNotRead old reported mid × EndsList l mid reported new

-- a read: the file, the offset, the buffer before it, what it returned, and the buffer after it
pub record ObjectRead : Type 0 where
  pub file : ℕ
  pub offset : ℕ
  pub before : List ℕ
  pub number : ℤ
  pub after : List ℕ

-- the same, from its parts
abbrev pub read_of : (file offset : ℕ) (before : List ℕ) (number : ℤ) (after : List ℕ) → ObjectRead
read_of file offset before number after = record { file = file; offset = offset; before = before; number = number; after = after }

-- what a read returns by what the salvage read, after which it is called once more where it read nothing
abbrev pub EndsRead : ObjectRead → PagesState → Result (Option Part) SalvageFault → PagesState → Type 0
EndsRead r mid (Ok (Some (parts.Bytes count))) new = (new ≡ mid) × (r.number ≡ signed count)
EndsRead r mid (Ok (Some (parts.Lost part))) new = (new ≡ mid) × (r.number ≡ lost_page)
EndsRead r mid (Ok None) new = IsMissing r.file errors.EISDIR mid r.number new
EndsRead r mid (Err fault) new = (new ≡ mid) × (r.number ≡ salvage_number fault)

-- what lies in the buffer past the bytes that were read stays, and all of it where none were
pub record KeepsBuffer (before after : List ℕ) (reported : Result (Option Part) SalvageFault) : Type 0 where
  pub size : length after ≡ length before
  pub rest : IfOk reported (λ part. KeepsRest part before after)
  pub stays : OnErr reported (after ≡ before)

-- A read is what the salvage reads: bytes of one page of the file, or that the page is lost.
abbrev pub IsObjectRead : ObjectRead → PagesState → PagesState → Type 0
IsObjectRead r old new = (reported : Result (Option Part) SalvageFault) × (mid : PagesState)
    × Looks (λ (z : Sizes) (m : NewestMap). ReadsPart z m r.file r.offset r.after) LacksPower old reported mid
    × KeepsBuffer r.before r.after reported × EndsRead r mid reported new

-- a question for the objects that no directory names: the numbers before it, what it returned, and the numbers after it
pub record OrphanList : Type 0 where
  pub before : List ℕ
  pub number : ℤ
  pub after : List ℕ

-- the number and what is filled are those of the objects whose header reads and that no directory names
abbrev pub IsOrphanList : OrphanList → PagesState → PagesState → Type 0
IsOrphanList o old new = (reported : Result (List ℕ) SalvageFault) × Looks ListsOrphans WhyNotRead old reported new
    × (o.number ≡ list_number reported) × (o.after ≡ list_filled o.before reported)

-- a question for the pages that are lost: the places before it, what it returned, and the places after it
pub record LostList : Type 0 where
  pub before : List FlashPlace
  pub number : ℤ
  pub after : List FlashPlace

-- the number and what is filled are those of these places
abbrev pub IsLostList : List LostPlace → LostList → Type 0
IsLostList lost l = (l.number ≡ signed (length lost)) × (l.after ≡ front_filled l.before (places_of lost))
