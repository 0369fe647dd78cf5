-- What commands do to names.
use Rattle.std.specs.Prelude.{◌≡◌, ◌≢◌, ◌||◌, ℕ, Bool, List, [], ◌∷◌, Option, Some, None, Result, is_none, nat_lt, false}
use Rattle.std.specs.FinMap as map
use Rattle.posix_profile.specs.State.{Name, Object, Objects, State, is_directory, is_file, entries_of}
use Rattle.posix_profile.specs.Names.{Names, prune}
use Rattle.posix_profile.specs.NameSteps.{at_object, name_removed, link_at, name_moved, rename_tests_onto, rename_to}
use Rattle.posix_profile.specs.Outcomes.{Outcome, answer, unless, change_to, at_place}
use Rattle.volume_terms.specs.Sizes.{Sizes}
use Rattle.posix_profile.specs.Paths.{Place, last_name, is_dot, is_dot_dot, resolve}
use Rattle.posix_profile.specs.laws.Path.{IsPlace}
use Rattle.posix_profile.specs.WellFormed.{IsNamed}
use Rattle.posix_profile.specs.declared.reply.Errno.{Errno}
use Rattle.posix_profile.specs.declared.reply.Errno.TheVariants as errors
use Rattle.posix_profile.specs.declared.reply.Reply.TheVariants as replies
use Rattle.object_store.specs.Changes.{NamesNothing, without}
use Rattle.command_plans.specs.Classes.{Changing}
use Rattle.command_plans.specs.Paths.{place_of}
use Rattle.command_plans.specs.Plans.{IsPlan}
use Rattle.command_plans.specs.declared.path.parts.PathPlace.{PathPlace}
use Rattle.command_plans.specs.declared.plan.Plan.{Plan}
use Rattle.object_commands.specs.Tasks.{TriesTo}

-- The object loses this name, and every other name that leads to an object leaves it named.
pub record Unnames (old left : Objects) (directory : ℕ) (name : Name) (o : ℕ) : Type 0 where
  pub was : Names old directory name o
  pub there : (k : ℕ) (x : Object) → map.get left k ≡ Some x → (y : Object) × (map.get old k ≡ Some y)
  pub others : (k : ℕ) → k ≢ o → IsNamed old k → IsNamed left k
  pub committed : (d : ℕ) (n : Name) → Names old d n o → (d ≡ directory → n ≡ name → ⊥) → Names left d n o
  pub only : (d : ℕ) (n : Name) → Names left d n o → (d ≡ directory → n ≡ name → ⊥) × Names old d n o

-- the place's name leads to the object
abbrev pub LeadsHere : Objects → Place → ℕ → Type 0
LeadsHere objects place o = Names objects place.directory (last_name place.last) o

-- The place ends in a name.
pub record EndsInName (objects : Objects) (p : Place) : Type 0 where
  pub place : IsPlace objects p
  pub no_dot : is_dot p.last ≡ false
  pub no_dot_dot : is_dot_dot p.last ≡ false
  pub some : is_none p.last ≡ false

-- Rmdir of an object at a place
abbrev pub rmdir_object : Bool → ℕ → State → Place → ℕ → Outcome
rmdir_object read_only moment s place o =
    unless s (
    (is_file (map.get s.objects o), errors.ENOTDIR) ∷
    (nat_lt 0 (map.len (entries_of (map.get s.objects o))), errors.ENOTEMPTY) ∷
    (read_only, errors.EROFS) ∷
    [])
    (answer (name_removed moment s place) replies.Done)

-- Rmdir at a place that ends in a name
abbrev pub rmdir_named : Bool → ℕ → State → Place → Outcome
rmdir_named read_only moment s place = at_object s place.object (λ o. rmdir_object read_only moment s place o)

-- Rmdir at a place
abbrev pub rmdir_at : Bool → ℕ → State → Place → Outcome
rmdir_at read_only moment s place =
    unless s (
    (is_dot place.last, errors.EINVAL) ∷
    (is_dot_dot place.last, errors.ENOTEMPTY) ∷
    (is_none place.last, errors.EBUSY) ∷
    [])
    (rmdir_named read_only moment s place)

-- this holds of the place to which a path leads
abbrev pub OfPlace : State → PathPlace → (Place → Type 0) → Type 0
OfPlace s p A = IsPlace s.objects (place_of p) → A (place_of p)

-- this holds of it if nothing is there
abbrev pub OfAbsent : State → PathPlace → (Place → Type 0) → Type 0
OfAbsent s p A = IsPlace s.objects (place_of p) → (place_of p).object ≡ None → A (place_of p)

-- this holds of it if it ends in a name
abbrev pub OfName : State → PathPlace → (Place → Type 0) → Type 0
OfName s p A = EndsInName s.objects (place_of p) → A (place_of p)

-- Whichever name the object loses: without what is to be dropped there is left what names and descriptors keep.
abbrev pub DropsUncommitted : State → ℕ → Option ℕ → Type 0
DropsUncommitted s o dropped = (left : Objects) (directory : ℕ) (name : Name) → Unnames s.objects left directory name o → without dropped left ≡ (prune (record s { objects = left })).objects

-- Where the place's name leads to the object, which names nothing: the plan removes the name, and what only it committed.
abbrev pub RemovesName : ℕ → PathPlace → ℕ → Plan → Sizes → State → Type 0
RemovesName moment p o plan z s = LeadsHere s.objects (place_of p) o → NamesNothing s.objects o → IsPlan z Changing s (answer (name_removed moment s (place_of p)) replies.Done) plan

-- Where the object is at the place: a plan for Unlink of it, or the error that is meant.
abbrev pub UnlinksObject : Bool → ℕ → PathPlace → ℕ → Result Plan Errno → Sizes → State → Type 0
UnlinksObject read_only moment p o r z s = IsPlace s.objects (place_of p) → (place_of p).object ≡ Some o → TriesTo z s (unless s (
    (is_directory (map.get s.objects o), errors.EPERM) ∷
    (read_only, errors.EROFS) ∷
    [])
    (answer (name_removed moment s (place_of p)) replies.Done)) r

-- Where the object is at the place, which ends in a name: a plan for Rmdir of it, or the error that is meant.
abbrev pub RemovesDirectory : Bool → ℕ → PathPlace → ℕ → Result Plan Errno → Sizes → State → Type 0
RemovesDirectory read_only moment p o r z s = EndsInName s.objects (place_of p) → (place_of p).object ≡ Some o → TriesTo z s (rmdir_object read_only moment s (place_of p) o) r

-- Link of an object to a path
abbrev pub link_to : Sizes → Bool → ℕ → State → ℕ → List ℕ → Outcome
link_to z read_only moment s o new = at_place s (resolve s.objects new) (λ to. link_at z read_only moment s o to to.object)

-- Rename of an object onto a place
abbrev pub rename_onto : Sizes → Bool → ℕ → State → Place → Place → ℕ → Outcome
rename_onto z read_only moment s from to o =
    unless s (rename_tests_onto s o to to.object)
    (unless s (
    (read_only, errors.EROFS) ∷
    [])
    (change_to z s (name_moved moment s from to o) replies.Done))

-- Rename from a place to another
abbrev pub rename_places : Sizes → Bool → ℕ → State → Place → Place → Outcome
rename_places z read_only moment s from to =
    unless s (
    (is_dot from.last || is_dot_dot from.last || is_dot to.last || is_dot_dot to.last, errors.EINVAL) ∷
    (is_none from.last || is_none to.last, errors.EBUSY) ∷
    [])
    (at_object s from.object (rename_to z read_only moment s from to))
