-- What Rename does.
use Rattle.std.specs.Prelude.{◌≡◌, ◌≢◌, ◌&&◌, ◌||◌, ℕ, Bool, false, not, List, [], ◌∷◌, Option, Some, None, Result, nat_lt}
use Rattle.std.specs.FinMap as map
use Rattle.volume_terms.specs.Sizes.{Sizes}
use Rattle.posix_profile.specs.Changes.{with_name, without_name}
use Rattle.posix_profile.specs.Charge.{fits}
use Rattle.posix_profile.specs.Names.{Names}
use Rattle.posix_profile.specs.NameSteps.{is_below, is_object, name_moved, rename_tests_onto, rename_to, rename_step}
use Rattle.posix_profile.specs.Outcomes.{Outcome, change_to}
use Rattle.posix_profile.specs.Paths.{Place, first_error, is_dot, is_dot_dot, resolve}
use Rattle.posix_profile.specs.State.{Name, Objects, State, IsDirectory, is_directory, entries_of}
use Rattle.posix_profile.specs.laws.Path.{IsPlace}
use Rattle.posix_profile.specs.declared.reply.Errno.{Errno}
use Rattle.posix_profile.specs.declared.reply.Errno.TheVariants as errors
use Rattle.posix_profile.specs.declared.reply.Reply.TheVariants as replies
use Rattle.object_store.specs.Changes.{NamesNothing}
use Rattle.command_plans.specs.Classes.{Class, Changing, is_one, lead_to_one, reports_if}
use Rattle.command_plans.specs.Paths.{place_of}
use Rattle.command_plans.specs.Plans.{Tries, IsPlan}
use Rattle.command_plans.specs.declared.path.parts.PathPlace.{PathPlace}
use Rattle.command_plans.specs.declared.plan.Plan.{Plan}
use Rattle.object_commands.specs.Names.{EndsInName, rename_onto, rename_places}
use Rattle.object_commands.specs.Tasks.{TriesTo}

-- whether the object is a directory, and the other directory is it or lies below it
abbrev pub is_inside : Objects → ℕ → ℕ → Bool
is_inside objects o directory = is_directory (map.get objects o) && is_below objects o directory

-- the tests of a rename onto an object that is there, by whether each of the two is a file, and by how many entries are there
abbrev pub replace_tests : Bool → Bool → ℕ → List (Bool × Errno)
replace_tests is_file file_there entries_there =
    (is_file && not file_there, errors.EISDIR) ∷
    (not is_file && file_there, errors.ENOTDIR) ∷
    (not is_file && nat_lt 0 entries_there, errors.ENOTEMPTY) ∷
    []

-- the first error of a rename of the object onto the place
abbrev pub rename_error : State → ℕ → Place → Option Errno
rename_error s o to = first_error (rename_tests_onto s o to to.object)

-- whether one of the paths ends in `.` or `..`
abbrev pub have_dots : Place → Place → Bool
have_dots from to = is_dot from.last || is_dot_dot from.last || is_dot to.last || is_dot_dot to.last

-- It is reported whether the objects fit once a name has gone from the one directory to the other, where it is absent.
abbrev pub IsRoomForMove : ℕ → ℕ → Bool → Sizes → Objects → Type 0
IsRoomForMove from to reported z objects = IsDirectory objects to
    → (moment o : ℕ) (a b : Name) → Names objects from a o → map.get (entries_of (map.get objects to)) b ≡ None
    → reported ≡ fits z (with_name (without_name objects moment from a) moment to b o)

-- A rename of an object from a place to another.
pub record Renaming : Type 0 where
  pub from : Place
  pub to : Place
  pub number : ℕ

-- the rename of the object between the places to which two paths lead
abbrev pub renaming : PathPlace → PathPlace → ℕ → Renaming
renaming from to o = record { from = place_of from; to = place_of to; number = o }

-- this holds of a rename between places that end in a name, of the object at the first
abbrev pub OfRename : State → Renaming → Type 0 → Type 0
OfRename s r A = EndsInName s.objects r.from → r.from.object ≡ Some r.number → EndsInName s.objects r.to → A

-- the object has the new name in place of the old, if that fits
abbrev pub moved : Sizes → ℕ → State → Renaming → Outcome
moved z moment s r = change_to z s (name_moved moment s r.from r.to r.number) replies.Done

-- Of a rename onto another object, which names nothing: the plan moves the name.
abbrev pub MovesOnto : ℕ → Renaming → ℕ → Plan → Sizes → State → Type 0
MovesOnto moment r there plan z s = OfRename s r (r.to.object ≡ Some there → there ≢ r.number → NamesNothing s.objects there → IsPlan z Changing s (moved z moment s r) plan)

-- Of a rename to an absent name: a plan that moves the name, or the error where that does not fit.
abbrev pub MovesToAbsent : ℕ → Renaming → Result Plan Errno → Sizes → State → Type 0
MovesToAbsent moment r result z s = EndsInName s.objects r.from → r.from.object ≡ Some r.number
    → IsPlace s.objects r.to → r.to.object ≡ None → TriesTo z s (moved z moment s r) result

-- Of a rename to a name that the object has not, and onto which it has no error: a plan that moves the name, or the error where that does not fit.
abbrev pub MovesName : ℕ → Renaming → Result Plan Errno → Sizes → State → Type 0
MovesName moment r result z s = OfRename s r (is_object r.number r.to.object ≡ false → None ≡ rename_error s r.number r.to → TriesTo z s (moved z moment s r) result)

-- Of a rename to a name that the object has not: a plan for it, or the error that is meant, by the tests from those onto the place on.
abbrev pub RenamesOnto : Bool → ℕ → Renaming → Result Plan Errno → Sizes → State → Type 0
RenamesOnto read_only moment r result z s = OfRename s r (is_object r.number r.to.object ≡ false → TriesTo z s (rename_onto z read_only moment s r.from r.to r.number) result)

-- Of a rename between places that end in a name: a plan for it, or the error that is meant; nothing changes where the object has the name.
abbrev pub RenamesTo : Bool → ℕ → Renaming → Result Plan Errno → Sizes → State → Type 0
RenamesTo read_only moment r result z s =
    OfRename s r (Tries z (reports_if (is_object r.number r.to.object) Changing) s (rename_to z read_only moment s r.from r.to r.number) result)

-- Of two places: a plan for the rename from the one to the other, or the error that is meant; nothing changes where both are of one object.
abbrev pub RenamesPlaces : Bool → ℕ → PathPlace → PathPlace → Result Plan Errno → Sizes → State → Type 0
RenamesPlaces read_only moment from to result z s = IsPlace s.objects (place_of from) → IsPlace s.objects (place_of to)
    → Tries z (reports_if (is_one (place_of from).object (place_of to).object) Changing) s (rename_places z read_only moment s (place_of from) (place_of to)) result

-- Rename, which changes nothing where both paths lead to one object
abbrev pub rename_task : Bool → ℕ → List ℕ → List ℕ → Sizes → State → Class × Outcome
rename_task read_only moment old new z s = (reports_if (lead_to_one (resolve s.objects old) (resolve s.objects new)) Changing, rename_step z read_only moment s old new)
