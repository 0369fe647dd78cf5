-- What a command is to do, and what the definition says of it.
use Rattle.std.specs.Prelude.{◌≡◌, ◌≢◌, ◌<◌, Bool, true, false, Result, Ok, Err}
use Rattle.std.specs.FinMap as map
use Rattle.volume_terms.specs.Sizes.{Sizes, descriptors}
use Rattle.posix_profile.specs.State.{Objects, Handles, State}
use Rattle.posix_profile.specs.Outcomes.{Outcome, refuse}
use Rattle.posix_profile.specs.laws.Sound.{IsSound}
use Rattle.posix_profile.specs.declared.reply.Errno.{Errno}
use Rattle.posix_profile.specs.declared.reply.Reply.{Reply}
use Rattle.posix_profile.specs.declared.reply.Reply.TheVariants as replies
use Rattle.object_store.specs.Changes.{made, CanMake, takes_none}
use Rattle.object_store.specs.Stores.{Meaning, Has, Faults, Reports}
use Rattle.volume_terms.specs.declared.fault.StoreFault.{StoreFault}
use Rattle.volume_terms.specs.declared.fault.StoreFault.TheVariants as faults
use Rattle.object_store.specs.declared.refusal.Refusal.{Refusal}
use Rattle.object_store.specs.declared.refusal.Refusal.TheVariants as refusals
use Rattle.command_plans.specs.Classes.{Class, Reporting, Changing, Syncing, is_error}
use Rattle.command_plans.specs.Tables.{handle_of}
use Rattle.command_plans.specs.declared.plan.HandleChange.{HandleChange}
use Rattle.command_plans.specs.declared.plan.HandleChange.TheVariants as handle_changes
use Rattle.command_plans.specs.declared.plan.StoreWork.{StoreWork}
use Rattle.command_plans.specs.declared.plan.StoreWork.TheVariants as work
use Rattle.command_plans.specs.declared.plan.Plan.{Plan}

-- The store represents the objects of a state that its volume can have.
pub record Holds {S : Type 0} (m : Meaning S) (z : Sizes) (s : State) (a : S) : Type 0 where
  pub has : Has m z s.objects a
  pub sound : IsSound z s

-- the descriptors after a change
abbrev pub handles_after : Handles → HandleChange → Handles
handles_after handles handle_changes.Nothing = handles
handles_after handles (handle_changes.Remove fd) = map.remove handles fd
handles_after handles (handle_changes.Put fd description) = map.insert handles fd (handle_of description)

-- the descriptor is one that there is
abbrev pub InRange : HandleChange → Type 0
InRange handle_changes.Nothing = Unit {0}
InRange (handle_changes.Remove fd) = Unit {0}
InRange (handle_changes.Put fd description) = fd < descriptors

-- the objects after what a store is to do
abbrev pub worked : Objects → StoreWork → Objects
worked objects work.Nothing = objects
worked objects (work.Change change) = made objects change
worked objects work.Commit = objects

-- it can be done
abbrev pub CanDo : Sizes → Objects → StoreWork → Type 0
CanDo z objects work.Nothing = Unit {0}
CanDo z objects (work.Change change) = CanMake z objects change
CanDo z objects work.Commit = Unit {0}

-- whether it takes no memory
abbrev pub frees : StoreWork → Bool
frees work.Nothing = true
frees (work.Change change) = takes_none change
frees work.Commit = true

-- whether it is nothing
abbrev pub does_nothing : StoreWork → Bool
does_nothing work.Nothing = true
does_nothing (work.Change change) = false
does_nothing work.Commit = false

-- whether it leaves the device as it is: it is nothing, or only forgets an object
abbrev pub leaves_device : StoreWork → Bool
leaves_device work.Nothing = true
leaves_device (work.Change change) = takes_none change
leaves_device work.Commit = false

-- a command that reports changes nothing, one that may change makes a change only where its reply is no error, and one that syncs commits
abbrev pub Suits : Class → Reply → StoreWork → Type 0
Suits Reporting reply work.Nothing = Unit {0}
Suits Reporting reply (work.Change change) = ⊥
Suits Reporting reply work.Commit = ⊥
Suits Changing reply work.Nothing = Unit {0}
Suits Changing reply (work.Change change) = is_error reply ≡ false
Suits Changing reply work.Commit = ⊥
Suits Syncing reply work.Nothing = ⊥
Suits Syncing reply (work.Change change) = ⊥
Suits Syncing reply work.Commit = reply ≡ replies.Done

-- what a plan leads to
abbrev pub planned : State → Plan → Outcome
planned s plan = record { reply = plan.reply; state = record { objects = worked s.objects plan.work; handles = handles_after s.handles plan.handles } }

-- The plan leads to what is meant, and can be carried out.
pub record IsPlan (z : Sizes) (class : Class) (s : State) (meant : Outcome) (plan : Plan) : Type 0 where
  pub means : planned s plan ≡ meant
  pub can : CanDo z s.objects plan.work
  pub range : InRange plan.handles
  pub suits : Suits class plan.reply plan.work

-- The plan is one for what is meant, or the error is what is meant, unless the store has a fault.
abbrev pub Plans : {S : Type 0} (m : Meaning S) → Sizes → Class → State → Outcome → S → S → Result Plan Refusal → Type 0
Plans m z class s meant a b r = Reports m a b (IsPlan z class s meant) (λ e. refuse s e ≡ meant) r

-- The plan is one for what is meant, or the error is what is meant.
abbrev pub Tries : Sizes → Class → State → Outcome → Result Plan Errno → Type 0
Tries z class s meant (Ok plan) = IsPlan z class s meant plan
Tries z class s meant (Err error) = refuse s error ≡ meant

-- the same, where a store may have a fault
abbrev pub handed : Result Plan Errno → Result Plan Refusal
handed (Ok plan) = Ok plan
handed (Err error) = Err (refusals.Error error)

-- The plan takes no memory.
abbrev pub Frees : Result Plan Errno → Type 0
Frees (Ok plan) = frees plan.work ≡ true
Frees (Err error) = Unit {0}

-- The plan leaves the device as it is.
abbrev pub LeavesDevice : {E : Type 0} → Result Plan E → Type 0
LeavesDevice (Ok plan) = leaves_device plan.work ≡ true
LeavesDevice (Err error) = Unit {0}

-- The plan takes no memory, nor did making it.
abbrev pub TakesNone : Result Plan Refusal → Type 0
TakesNone (Ok plan) = frees plan.work ≡ true
TakesNone (Err refusal) = refusal ≢ refusals.Fault faults.NoMemory

-- what is left when it is done
abbrev pub Did : {S : Type 0} (m : Meaning S) → Objects → StoreWork → S → S → Type 0
Did m objects work.Nothing a b = m.reads a b
Did m objects (work.Change change) a b = m.changes objects (made objects change) a b
Did m objects work.Commit a b = m.commits objects a b

-- how it ends
abbrev pub Works : {S : Type 0} (m : Meaning S) → Objects → StoreWork → S → S → Result (Unit {0}) StoreFault → Type 0
Works m objects w a b (Ok done) = m.represents b (worked objects w) × Did m objects w a b
Works m objects w a b (Err fault) = Faults m objects (worked objects w) a b fault
