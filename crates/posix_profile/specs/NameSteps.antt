-- What the commands on paths answer and do, each by its tests in their order and then the effect.
-- From: POSIX: `stat()`, `mkdir()`, `rmdir()`, `link()`, `unlink()`, `rename()`, `readdir()`, `statvfs()`.
use Rattle.std.specs.Prelude.{ℕ, zero, suc, ◌-◌, Bool, false, ◌&&◌, ◌||◌, List, [], ◌∷◌, length, Option, Some, None, is_none, nat_eq, nat_lt, if◌then◌else◌}
use Rattle.std.specs.List.{list_any}
use Rattle.std.specs.FinMap as map
use Rattle.volume_terms.specs.Sizes.{Sizes, capacity}
use Rattle.posix_profile.specs.State.{Object, File, Dir, Objects, State, is_directory, is_file, entries_of}
use Rattle.posix_profile.specs.Names.{parent, links, prune}
use Rattle.posix_profile.specs.Charge.{charge}
use Rattle.posix_profile.specs.Paths.{Place, last_name, is_dot, is_dot_dot, resolve}
use Rattle.posix_profile.specs.Outcomes.{Outcome, answer, refuse, unless, change_to, at_place}
use Rattle.posix_profile.specs.Changes.{with_name, without_name, with_object}
use Rattle.posix_profile.specs.declared.reply.Errno.{Errno}
use Rattle.posix_profile.specs.declared.reply.Errno.TheVariants as errors
use Rattle.posix_profile.specs.declared.reply.Kind.{Kind}
use Rattle.posix_profile.specs.declared.reply.Kind.TheVariants as kinds
use Rattle.posix_profile.specs.declared.reply.Info.{Info}
use Rattle.posix_profile.specs.declared.reply.Reply.TheVariants as replies

-- the size that is reported of an object with so many bytes or entries: a directory has none
abbrev pub reported_size : Kind → ℕ → ℕ
reported_size kinds.File size = size
reported_size kinds.Directory size = 0

-- what is reported of an object: a directory has size 0
abbrev pub info : Objects → ℕ → Object → Info
info objects o (File moment bytes) = record { kind = kinds.File; object = o; links = links objects o (File moment bytes); size = length bytes; moment = moment }
info objects o (Dir moment entries) = record { kind = kinds.Directory; object = o; links = links objects o (Dir moment entries); size = 0; moment = moment }

-- what to do with the object at the place, which is there
unfoldable pub at_object : State → Option ℕ → (ℕ → Outcome) → Outcome
at_object s None act = refuse s errors.ENOENT
at_object s (Some o) act = act o

-- Stat of an object; one that a path leads to is always there
abbrev pub stat_of : State → ℕ → Option Object → Outcome
stat_of s o None = refuse s errors.ENOENT
stat_of s o (Some object) = answer s (replies.Info (info s.objects o object))

-- Stat
abbrev pub stat_step : State → List ℕ → Outcome
stat_step s path = at_place s (resolve s.objects path) (λ place. at_object s place.object (λ o. stat_of s o (map.get s.objects o)))

-- Mkdir at the place, where nothing may be; a trailing slash is allowed
abbrev pub mkdir_at : Sizes → Bool → ℕ → State → Place → Option ℕ → Outcome
mkdir_at z read_only moment s place (Some o) = refuse s errors.EEXIST
mkdir_at z read_only moment s place None =
    unless s (
    (read_only, errors.EROFS) ∷
    [])
    (change_to z s (record s { objects = with_object s.objects moment place.directory (last_name place.last) (Dir moment map.empty) }) replies.Done)

-- Mkdir: a new directory and its name
abbrev pub mkdir_step : Sizes → Bool → ℕ → State → List ℕ → Outcome
mkdir_step z read_only moment s path = at_place s (resolve s.objects path) (λ place. mkdir_at z read_only moment s place place.object)

-- the state in which the place's name is gone, and what only it held
abbrev pub name_removed : ℕ → State → Place → State
name_removed moment s place = prune (record s { objects = without_name s.objects moment place.directory (last_name place.last) })

-- Rmdir: the name of a directory without entries goes
abbrev pub rmdir_step : Bool → ℕ → State → List ℕ → Outcome
rmdir_step read_only moment s path = at_place s (resolve s.objects path) (λ place.
    unless s (
    (is_dot place.last, errors.EINVAL) ∷
    (is_dot_dot place.last, errors.ENOTEMPTY) ∷
    (is_none place.last, errors.EBUSY) ∷
    [])
    (at_object s place.object (λ o.
    unless s (
    (is_file (map.get s.objects o), errors.ENOTDIR) ∷
    (nat_lt 0 (map.len (entries_of (map.get s.objects o))), errors.ENOTEMPTY) ∷
    (read_only, errors.EROFS) ∷
    [])
    (answer (name_removed moment s place) replies.Done))))

-- Unlink: a name of a file goes
abbrev pub unlink_step : Bool → ℕ → State → List ℕ → Outcome
unlink_step read_only moment s path = at_place s (resolve s.objects path) (λ place. at_object s place.object (λ o.
    unless s (
    (is_directory (map.get s.objects o), errors.EPERM) ∷
    (read_only, errors.EROFS) ∷
    [])
    (answer (name_removed moment s place) replies.Done)))

-- Link of a file at the new place, where nothing may be
abbrev pub link_at : Sizes → Bool → ℕ → State → ℕ → Place → Option ℕ → Outcome
link_at z read_only moment s o place (Some there) = refuse s errors.EEXIST
link_at z read_only moment s o place None =
    unless s (
    (place.slash_follows, errors.ENOENT) ∷
    (read_only, errors.EROFS) ∷
    [])
    (change_to z s (record s { objects = with_name s.objects moment place.directory (last_name place.last) o }) replies.Done)

-- Link: a second name
abbrev pub link_step : Sizes → Bool → ℕ → State → List ℕ → List ℕ → Outcome
link_step z read_only moment s old new = at_place s (resolve s.objects old) (λ from. at_object s from.object (λ o.
    unless s (
    (is_directory (map.get s.objects o), errors.EPERM) ∷
    [])
    (at_place s (resolve s.objects new) (λ to. link_at z read_only moment s o to to.object))))

-- the directory and those above it, up to n steps
abbrev pub directories_above : Objects → ℕ → ℕ → List ℕ
directories_above objects zero directory = directory ∷ []
directories_above objects (suc n) directory = directory ∷ directories_above objects n (parent objects directory)

-- whether the directory is this object or lies below it; no directory is deeper than there are objects
abbrev pub is_below : Objects → ℕ → ℕ → Bool
is_below objects o directory = list_any (nat_eq o) (directories_above objects (map.len objects) directory)

-- the state in which the old name is gone and the new name gives the object
abbrev pub name_moved : ℕ → State → Place → Place → ℕ → State
name_moved moment s from to o =
    prune (record s { objects = with_name (without_name s.objects moment from.directory (last_name from.last)) moment to.directory (last_name to.last) o })

-- Rename onto an object that is there: it is replaced by one of its kind, a directory only where it has no entries
abbrev pub rename_tests_onto : State → ℕ → Place → Option ℕ → List (Bool × Errno)
rename_tests_onto s o to (Some there) =
    (is_file (map.get s.objects o) && is_directory (map.get s.objects there), errors.EISDIR) ∷
    (is_directory (map.get s.objects o) && is_file (map.get s.objects there), errors.ENOTDIR) ∷
    (is_directory (map.get s.objects o) && nat_lt 0 (map.len (entries_of (map.get s.objects there))), errors.ENOTEMPTY) ∷
    []
rename_tests_onto s o to None =
    (is_file (map.get s.objects o) && to.slash_follows, errors.ENOTDIR) ∷
    []

-- whether the object at the place is this one
abbrev pub is_object : ℕ → Option ℕ → Bool
is_object o None = false
is_object o (Some there) = nat_eq o there

-- Rename of an object to the place; to a name that it has already nothing changes
abbrev pub rename_to : Sizes → Bool → ℕ → State → Place → Place → ℕ → Outcome
rename_to z read_only moment s from to o =
    if is_object o to.object then answer s replies.Done else
    (unless s (
    (is_directory (map.get s.objects o) && is_below s.objects o to.directory, errors.EINVAL) ∷
    [])
    (unless s (rename_tests_onto s o to to.object)
    (unless s (
    (read_only, errors.EROFS) ∷
    [])
    (change_to z s (name_moved moment s from to o) replies.Done))))

-- Rename: neither path may end in `.`, `..` or be only slashes
abbrev pub rename_step : Sizes → Bool → ℕ → State → List ℕ → List ℕ → Outcome
rename_step z read_only moment s old new = at_place s (resolve s.objects old) (λ from. at_place s (resolve s.objects new) (λ to.
    unless s (
    (is_dot from.last || is_dot_dot from.last || is_dot to.last || is_dot_dot to.last, errors.EINVAL) ∷
    (is_none from.last || is_none to.last, errors.EBUSY) ∷
    [])
    (at_object s from.object (rename_to z read_only moment s from to))))

-- List of an object: the names of a directory in byte order
abbrev pub list_of : State → Option Object → Outcome
list_of s None = refuse s errors.ENOENT
list_of s (Some (File moment bytes)) = refuse s errors.ENOTDIR
list_of s (Some (Dir moment entries)) = answer s (replies.Names (map.keys entries))

-- List
abbrev pub list_step : State → List ℕ → Outcome
list_step s path = at_place s (resolve s.objects path) (λ place. at_object s place.object (λ o. list_of s (map.get s.objects o)))

-- Space: the bytes of a unit, the units in all, and those that are free
abbrev pub space_step : Sizes → State → Outcome
space_step z s = answer s (replies.SpaceInfo (record { unit = z.page_bytes; total = capacity z; free = capacity z - charge z s.objects }))
