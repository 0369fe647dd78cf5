-- What Open does, with a free descriptor.
use Rattle.std.specs.Prelude.{◌≡◌, ◌<◌, ℕ, Bool, true, false, not, ◌&&◌, List, [], ◌∷◌, Some, is_some, Result, if◌then◌else◌}
use Rattle.std.specs.FinMap as map
use Rattle.volume_terms.specs.Sizes.{Sizes, descriptors}
use Rattle.posix_profile.specs.State.{File, Handle, State, IsFile}
use Rattle.posix_profile.specs.Changes.{new_number, with_bytes, with_object}
use Rattle.posix_profile.specs.HandleSteps.{may_write, open_on, open_at, open_step}
use Rattle.posix_profile.specs.Names.{prune}
use Rattle.posix_profile.specs.Outcomes.{Outcome, unless, change_to}
use Rattle.posix_profile.specs.Paths.{Place, last_name, resolve}
use Rattle.posix_profile.specs.laws.Path.{IsPlace}
use Rattle.posix_profile.specs.laws.Sound.{IsSound}
use Rattle.posix_profile.specs.declared.command.OpenFlags.{OpenFlags}
use Rattle.posix_profile.specs.declared.reply.Errno.{Errno}
use Rattle.posix_profile.specs.declared.reply.Errno.TheVariants as errors
use Rattle.posix_profile.specs.declared.reply.Reply.TheVariants as replies
use Rattle.object_store.specs.declared.change.ObjectChange.TheVariants as changes
use Rattle.command_plans.specs.Classes.{Class, Changing, is_there, reports_if}
use Rattle.command_plans.specs.Paths.{place_of}
use Rattle.command_plans.specs.Plans.{Tries}
use Rattle.command_plans.specs.declared.path.parts.PathPlace.{PathPlace}
use Rattle.command_plans.specs.declared.plan.HandleChange.TheVariants as handle_changes
use Rattle.command_plans.specs.declared.plan.StoreWork.{StoreWork}
use Rattle.command_plans.specs.declared.plan.StoreWork.TheVariants as work
use Rattle.command_plans.specs.declared.plan.Plan.{Plan}

-- Open of an object that is there
abbrev pub open_found_on : Sizes → Bool → ℕ → State → OpenFlags → ℕ → ℕ → Outcome
open_found_on z read_only moment s flags o fd =
    unless s (
    (read_only && may_write flags.access, errors.EROFS) ∷
    [])
    (change_to z s (open_on (if flags.trunc then with_bytes s.objects moment o [] else s.objects) s fd o flags) (replies.Fd fd))

-- Open of an absent name
abbrev pub open_new : Sizes → Bool → ℕ → State → OpenFlags → Place → ℕ → Outcome
open_new z read_only moment s flags place fd =
    unless s (
    (read_only, errors.EROFS) ∷
    [])
    (change_to z s (open_on (with_object s.objects moment place.directory (last_name place.last) (File moment [])) s fd (new_number s.objects) flags) (replies.Fd fd))

-- the file is cut to no bytes, if it is to be
abbrev pub cut_by : Bool → ℕ → ℕ → StoreWork
cut_by true number moment = work.Change (changes.Resize number 0 moment)
cut_by false number moment = work.Nothing

-- the descriptor is open on the object, at offset 0, after this
abbrev pub opened : ℕ → ℕ → OpenFlags → StoreWork → Plan
opened fd object flags w = record { reply = replies.Fd fd; handles = handle_changes.Put fd (record { object = object; flags = flags; offset = 0 }); work = w }

-- Open, which changes nothing where an object is there and is not cut
abbrev pub open_task : Bool → ℕ → List ℕ → OpenFlags → Sizes → State → Class × Outcome
open_task read_only moment path flags z s = (reports_if (is_there (resolve s.objects path) && not flags.trunc) Changing, open_step z read_only moment s path flags)

-- Of a path's place: a plan for Open there, or the error that is meant; nothing changes where an object is there and is not cut.
abbrev pub OpensAt : Bool → ℕ → OpenFlags → PathPlace → Result Plan Errno → Sizes → State → Type 0
OpensAt read_only moment flags p r z s = IsPlace s.objects (place_of p)
    → Tries z (reports_if (is_some (place_of p).object && not flags.trunc) Changing) s (open_at z read_only moment s flags (place_of p) (place_of p).object) r

-- Of an object that is there, which changes only if it is cut: a plan for what is meant, or the error that is meant.
abbrev pub TriesOpen : Sizes → State → OpenFlags → Outcome → Result Plan Errno → Type 0
TriesOpen z s flags meant r = Tries z (reports_if (not flags.trunc) Changing) s meant r

-- this holds at each sound state, on a descriptor that there is, if the object is a file where the flags cut it
abbrev pub OfOpenable : OpenFlags → ℕ → ℕ → (Sizes → State → Type 0) → Type 0
OfOpenable flags o fd A = (z : Sizes) (s : State) → IsSound z s → fd < descriptors → (flags.trunc ≡ true → IsFile s.objects o) → A z s

-- this holds if the descriptor is open on the object
abbrev pub IfOpen : State → ℕ → ℕ → Type 0 → Type 0
IfOpen s fd o A = (handle : Handle) → map.get s.handles fd ≡ Some handle → o ≡ handle.object → A

-- the state without the descriptor, and without what only it committed
abbrev pub closed : State → ℕ → State
closed s fd = prune (record s { handles = map.remove s.handles fd })
