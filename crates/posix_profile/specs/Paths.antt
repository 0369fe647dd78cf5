-- Where a path leads.
-- From: POSIX: pathname resolution.
use Rattle.std.specs.Prelude.{ℕ, ◌-◌, Bool, true, false, ◌&&◌, List, [], ◌∷◌, length, filter, map as list_map, get_or, Option, Some, None, Result, Ok, Err, nat_eq, nat_lt, if◌then◌else◌}
use Rattle.std.specs.List.{list_any, slice_split}
use Rattle.std.specs.Cmp.Lexicographic.{pointwise}
use Rattle.std.specs.FinMap as map
use Rattle.volume_terms.specs.Sizes.{name_limit, path_limit, root_number}
use Rattle.posix_profile.specs.State.{Name, Objects, is_file, entries_of}
use Rattle.posix_profile.specs.Names.{parent}
use Rattle.posix_profile.specs.declared.reply.Errno.{Errno}
use Rattle.posix_profile.specs.declared.reply.Errno.TheVariants as errors

-- the byte `/`
abbrev pub slash : ℕ
slash = 47

-- the byte `.`
abbrev pub dot : ℕ
dot = 46

-- the error of the first test that holds
abbrev pub first_error : List (Bool × Errno) → Option Errno
first_error [] = None
first_error (test ∷ tests) = if test.0 then Some test.1 else first_error tests

-- a component of a path: `.`, `..` or a name
pub data Component : Type 0 where
  Dot : Component
  DotDot : Component
  Named : (name : Name) → Component

-- the component that these bytes are
abbrev pub component : List ℕ → Component
component bytes =
    if pointwise nat_eq bytes (dot ∷ []) then Dot else
    (if pointwise nat_eq bytes (dot ∷ dot ∷ []) then DotDot else Named bytes)

-- the parts of a path between slashes; several slashes are one
abbrev pub parts : List ℕ → List (List ℕ)
parts path = filter (λ part. nat_lt 0 (length part)) (slice_split (nat_eq slash) path)

-- whether the path ends in a slash
abbrev pub ends_in_slash : List ℕ → Bool
ends_in_slash path = nat_eq (get_or path (length path - 1) 0) slash

-- the tests of a path before the tree is looked at
abbrev pub path_tests : List ℕ → List (Bool × Errno)
path_tests path =
    (nat_eq (length path) 0, errors.ENOENT) ∷
    (nat_lt path_limit (length path), errors.ENAMETOOLONG) ∷
    (list_any (nat_eq 0) path, errors.EINVAL) ∷
    (list_any (λ part. nat_lt name_limit (length part)) (parts path), errors.ENAMETOOLONG) ∷
    []

-- where a path leads: the directory, the last component (none where the path is only slashes), the object (none where the name is absent), and whether a slash follows
pub record Place : Type 0 where
  pub directory : ℕ
  pub last : Option Component
  pub object : Option ℕ
  pub slash_follows : Bool

-- the name that a path ends in; what ends otherwise has none
abbrev pub last_name : Option Component → Name
last_name None = []
last_name (Some Dot) = []
last_name (Some DotDot) = []
last_name (Some (Named name)) = name

-- whether a path ends in `.`
abbrev pub is_dot : Option Component → Bool
is_dot None = false
is_dot (Some Dot) = true
is_dot (Some DotDot) = false
is_dot (Some (Named name)) = false

-- whether a path ends in `..`
abbrev pub is_dot_dot : Option Component → Bool
is_dot_dot None = false
is_dot_dot (Some Dot) = false
is_dot_dot (Some DotDot) = true
is_dot_dot (Some (Named name)) = false

-- where a component leads from a directory
abbrev pub leads_to : Objects → ℕ → Component → Option ℕ
leads_to objects directory Dot = Some directory
leads_to objects directory DotDot = Some (parent objects directory)
leads_to objects directory (Named name) = map.get (entries_of (map.get objects directory)) name

-- the end of the walk: what is there may not be a file with a slash after it
abbrev pub arrive : Objects → Bool → ℕ → Component → Option ℕ → Result Place Errno
arrive objects slash_follows directory last None = Ok (record { directory = directory; last = Some last; object = None; slash_follows = slash_follows })
arrive objects slash_follows directory last (Some o) =
    if is_file (map.get objects o) && slash_follows
    then Err errors.ENOTDIR
    else Ok (record { directory = directory; last = Some last; object = Some o; slash_follows = slash_follows })

-- a component that is not last leads to a directory, from which the walk goes on
abbrev pub pass : Objects → Option ℕ → (ℕ → Result Place Errno) → Result Place Errno
pass objects None on = Err errors.ENOENT
pass objects (Some o) on = if is_file (map.get objects o) then Err errors.ENOTDIR else on o

-- the walk over the components, from left to right
abbrev pub walk : Objects → Bool → ℕ → Component → List Component → Result Place Errno
walk objects slash_follows directory here [] = arrive objects slash_follows directory here (leads_to objects directory here)
walk objects slash_follows directory here (next ∷ rest) = pass objects (leads_to objects directory here) (λ o. walk objects slash_follows o next rest)

-- the walk from the root; a path of slashes alone is the root
abbrev pub walk_from_root : Objects → Bool → List Component → Result Place Errno
walk_from_root objects slash_follows [] = Ok (record { directory = root_number; last = None; object = Some root_number; slash_follows = slash_follows })
walk_from_root objects slash_follows (first ∷ rest) = walk objects slash_follows root_number first rest

-- the walk, unless a test of the path reports an error
abbrev pub walk_unless : Objects → List ℕ → Option Errno → Result Place Errno
walk_unless objects path (Some error) = Err error
walk_unless objects path None = walk_from_root objects (ends_in_slash path) (list_map component (parts path))

-- where a path leads, or why nowhere
unfoldable pub resolve : Objects → List ℕ → Result Place Errno
resolve objects path = walk_unless objects path (first_error (path_tests path))
