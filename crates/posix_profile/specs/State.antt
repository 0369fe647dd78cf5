-- What a volume holds: objects, and open descriptors.
-- From: POSIX: file, directory, directory entry, open file description.
use Rattle.std.specs.Prelude.{◌≡◌, ℕ, List, Bool, true, false, Option, Some, None}
use Rattle.std.specs.Ordering.{nat_cmp}
use Rattle.std.specs.Cmp.Lexicographic.{slice_cmp}
use Rattle.std.specs.FinMap as map
use Rattle.posix_profile.specs.declared.command.OpenFlags.{OpenFlags}

-- the bytes of a name
abbrev pub Name : Type 0
Name = List ℕ

-- the entries of a directory: from names, in byte order, to the numbers of objects
abbrev pub Entries : Type 0
Entries = map.FinMap (slice_cmp nat_cmp) ℕ

-- a file of bytes or a directory of entries, with the moment of its last change
pub data Object : Type 0 where
  File : (moment : ℕ) (bytes : List ℕ) → Object
  Dir : (moment : ℕ) (entries : Entries) → Object

-- from the numbers of objects to objects
abbrev pub Objects : Type 0
Objects = map.FinMap nat_cmp Object

-- what a descriptor refers to: the number of an object, how it was opened, and the offset
pub record Handle : Type 0 where
  pub object : ℕ
  pub flags : OpenFlags
  pub offset : ℕ

-- from descriptors to what they represent
abbrev pub Handles : Type 0
Handles = map.FinMap nat_cmp Handle

-- a state: its objects and its open descriptors
pub record State : Type 0 where
  pub objects : Objects
  pub handles : Handles

-- the moment of an object
abbrev pub moment_of : Object → ℕ
moment_of (File moment bytes) = moment
moment_of (Dir moment entries) = moment

-- whether it is a directory; where there is no object it is none
abbrev pub is_directory : Option Object → Bool
is_directory None = false
is_directory (Some (File moment bytes)) = false
is_directory (Some (Dir moment entries)) = true

-- whether it is a file; where there is no object it is none
abbrev pub is_file : Option Object → Bool
is_file None = false
is_file (Some (File moment bytes)) = true
is_file (Some (Dir moment entries)) = false

-- the entries of a directory; nothing else has any
abbrev pub entries_of : Option Object → Entries
entries_of None = map.empty
entries_of (Some (File moment bytes)) = map.empty
entries_of (Some (Dir moment entries)) = entries

-- the object is there, and is a file
abbrev pub IsFile : Objects → ℕ → Type 0
IsFile objects o = (moment : ℕ) × (bytes : List ℕ) × (map.get objects o ≡ Some (File moment bytes))

-- the object is there, and is a directory
abbrev pub IsDirectory : Objects → ℕ → Type 0
IsDirectory objects o = (moment : ℕ) × (entries : Entries) × (map.get objects o ≡ Some (Dir moment entries))
