-- What an entry costs.
use Rattle.std.specs.Prelude.{ℕ, ◌%◌, cond, nat_eq, ◌≡◌, ◌≤◌, ◌-◌, ◌+◌, ◌^◌, Bool, true, false, List, Option, None, length, MatchOption}
use Rattle.std.specs.FinMap as map
use Rattle.volume_terms.specs.Sizes.{Sizes, capacity}
use Rattle.volume_terms.specs.Rounding.{ceiling}
use Rattle.posix_profile.specs.State.{Name, Objects, is_file}
use Rattle.posix_profile.specs.Changes.{with_object, with_name, with_bytes}
use Rattle.posix_profile.specs.Charge.{charge, fits}
use Rattle.posix_profile.specs.declared.reply.Kind.{Kind}
use Rattle.object_store.specs.Changes.{empty_object}
use Rattle.object_store.specs.Facts.{entry_of, bytes_of}

-- the units that one entry more of a directory takes
abbrev pub entry_units : ℕ → ℕ → ℕ
entry_units n slots = cond (nat_eq (n % slots) 0) 1 0

-- what is true of each name that a directory lacks
abbrev pub OfNewName : Objects → ℕ → (Name → Type 0) → Type 0
OfNewName objects d A = (name : Name) → entry_of objects d name ≡ None → A name

-- the test says whether a new object fits, of whichever kind and moment, by whichever name the directory lacks
abbrev pub IsRoomForObject : Sizes → Objects → ℕ → Bool → Type 0
IsRoomForObject z objects d test = OfNewName objects d (λ name. (kind : Kind) (moment : ℕ) → test ≡ fits z (with_object objects moment d name (empty_object kind moment)))

-- the test says whether a name fits that leads to whichever object, and that the directory lacks
abbrev pub IsRoomForName : Sizes → Objects → ℕ → Bool → Type 0
IsRoomForName z objects d test = OfNewName objects d (λ name. (number moment : ℕ) → test ≡ fits z (with_name objects moment d name number))

-- the test says whether so many bytes fit in place of those of the file
abbrev pub IsRoomForBytes : Sizes → Objects → ℕ → ℕ → Bool → Type 0
IsRoomForBytes z objects file size test = (moment : ℕ) (new : List ℕ) → size ≡ length new → test ≡ fits z (with_bytes objects moment file new)

-- so many units are there for a file: those that are free and those that it has
abbrev pub IsRoomOf : Sizes → Objects → ℕ → ℕ → Type 0
IsRoomOf z objects file units = (units ≡ capacity z - charge z objects + ceiling (length (bytes_of (map.get objects file))) z.page_bytes) × (units ≤ 2 ^ 28)

-- the length of the file at a number, and none where no file is there
abbrev pub IsFileLength : Objects → ℕ → Option ℕ → Type 0
IsFileLength objects o found = MatchOption found (is_file (map.get objects o) ≡ false) (λ size. (is_file (map.get objects o) ≡ true) × (size ≡ length (bytes_of (map.get objects o))))
