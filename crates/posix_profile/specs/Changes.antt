-- How commands change a state.
-- From: POSIX: `open()` (lowest descriptor), `write()` (holes, appending), `ftruncate()`.
use Rattle.std.specs.Prelude.{ℕ, zero, suc, ◌+◌, ◌-◌, Bool, not, List, ◌++◌, length, take, drop, replicate, Option, unwrap_or, if◌then◌else◌}
use Rattle.std.specs.List.{find, range_with_len}
use Rattle.std.specs.FinMap as map
use Rattle.volume_terms.specs.Sizes.{descriptors}
use Rattle.posix_profile.specs.State.{Name, Object, File, Dir, Objects, Handle, Handles, State, entries_of}

-- the greatest number up to n that passes the test, or 0
abbrev pub greatest : (ℕ → Bool) → ℕ → ℕ
greatest test zero = 0
greatest test (suc n) = if test (suc n) then suc n else greatest test n

-- the least number from 2 up that no object has: of one number more than there are objects, one is free
abbrev pub new_number : Objects → ℕ
new_number objects = unwrap_or (find (λ n. not (map.contains_key objects n)) (range_with_len 2 (map.len objects + 1))) 0

-- the least descriptor that is not open, if there is one
abbrev pub free_descriptor : Handles → Option ℕ
free_descriptor handles = find (λ fd. not (map.contains_key handles fd)) (range_with_len 0 descriptors)

-- the file has these bytes
abbrev pub with_bytes : Objects → ℕ → ℕ → List ℕ → Objects
with_bytes objects moment o bytes = map.insert objects o (File moment bytes)

-- the directory names the object so, in place of what had the name
abbrev pub with_name : Objects → ℕ → ℕ → Name → ℕ → Objects
with_name objects moment directory name o = map.insert objects directory (Dir moment (map.insert (entries_of (map.get objects directory)) name o))

-- the directory has the name no longer
abbrev pub without_name : Objects → ℕ → ℕ → Name → Objects
without_name objects moment directory name = map.insert objects directory (Dir moment (map.remove (entries_of (map.get objects directory)) name))

-- a new object, under the least number that is free, and its name
abbrev pub with_object : Objects → ℕ → ℕ → Name → Object → Objects
with_object objects moment directory name object =
    with_name (map.insert objects (new_number objects) object) moment directory name (new_number objects)

-- the descriptor refers to this
abbrev pub with_handle : State → ℕ → Handle → State
with_handle s fd handle = record s { handles = map.insert s.handles fd handle }

-- the descriptor has another offset
abbrev pub with_offset : State → ℕ → Handle → ℕ → State
with_offset s fd handle offset = with_handle s fd (record handle { offset = offset })

-- the bytes with others written at the offset; a gap reads as zeros
abbrev pub written : List ℕ → ℕ → List ℕ → List ℕ
written bytes offset new = take offset (bytes ++ replicate (offset - length bytes) 0) ++ (new ++ drop (offset + length new) bytes)

-- the bytes cut to the length, or grown to it with zeros
abbrev pub resized : List ℕ → ℕ → List ℕ
resized bytes n = take n (bytes ++ replicate (n - length bytes) 0)
