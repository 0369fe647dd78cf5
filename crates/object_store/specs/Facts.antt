-- Questions on an object.
use Rattle.std.specs.Prelude.{ℕ, List, [], take, drop, Option, Some, None, Result, Ok, Err}
use Rattle.std.specs.FinMap as map
use Rattle.posix_profile.specs.State.{Name, Object, File, Dir, Objects, entries_of}
use Rattle.posix_profile.specs.Names.{Names}
use Rattle.posix_profile.specs.NameSteps.{info}
use Rattle.posix_profile.specs.WellFormed.{IsNamed}
use Rattle.posix_profile.specs.declared.reply.Info.{Info}

-- what is reported of an object, if there is one
abbrev pub info_of : Objects → ℕ → Option Object → Option Info
info_of objects o None = None
info_of objects o (Some object) = Some (info objects o object)

-- the object to which a name of a directory leads, if it leads anywhere
abbrev pub entry_of : Objects → ℕ → Name → Option ℕ
entry_of objects directory name = map.get (entries_of (map.get objects directory)) name

-- the names of a directory, in the order of their bytes
abbrev pub names_of : Objects → ℕ → List Name
names_of objects directory = map.keys (entries_of (map.get objects directory))

-- the bytes of a file; nothing else has any
abbrev pub bytes_of : Option Object → List ℕ
bytes_of None = []
bytes_of (Some (File moment bytes)) = bytes
bytes_of (Some (Dir moment entries)) = []

-- the bytes of a file from an offset on, at most so many
abbrev pub bytes_from : Objects → (file offset count : ℕ) → List ℕ
bytes_from objects file offset count = take count (drop offset (bytes_of (map.get objects file)))

-- the bytes at the front of a buffer, of which so many were read, or why none were
abbrev pub front : {E : Type 0} → Result ℕ E → List ℕ → Result (List ℕ) E
front (Ok count) buffer = Ok (take count buffer)
front (Err error) buffer = Err error

-- this directory names the object, or none does
abbrev pub NamedBy : Objects → ℕ → Option ℕ → Type 0
NamedBy objects o None = IsNamed objects o → ⊥
NamedBy objects o (Some directory) = (name : Name) × Names objects directory name o
