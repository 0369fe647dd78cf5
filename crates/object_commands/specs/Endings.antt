-- How a command of a volume ends.
use Rattle.std.specs.Prelude.{◌≡◌, ◌⊎◌, ℕ, Bool, true, false, Some}
use Rattle.std.specs.FinMap as map
use Rattle.volume_terms.specs.Sizes.{Sizes}
use Rattle.posix_profile.specs.HandleSteps.{may_write}
use Rattle.posix_profile.specs.State.{Objects, Handle, Handles, State}
use Rattle.posix_profile.specs.Outcomes.{Outcome}
use Rattle.posix_profile.specs.Runs.{is_stop}
use Rattle.posix_profile.specs.laws.Error.{KeepsOnError}
use Rattle.posix_profile.specs.laws.Sound.{IsSound}
use Rattle.posix_profile.specs.declared.reply.Errno.TheVariants as errors
use Rattle.posix_profile.specs.declared.reply.Reply.{Reply}
use Rattle.posix_profile.specs.declared.reply.Reply.TheVariants as replies
use Rattle.object_store.specs.Stores.{Meaning, Has, settled}
use Rattle.command_plans.specs.Classes.{Class, Reporting, Changing, Syncing, is_error}
use Rattle.command_plans.specs.Plans.{IsPlan, frees}
use Rattle.command_plans.specs.Tables.{handles_in}
use Rattle.command_plans.specs.declared.plan.Plan.{Plan}
use Rattle.object_commands.specs.declared.volume.Volume.{Volume}

-- no descriptor may write
abbrev pub AreReading : Handles → Type 0
AreReading handles = (fd : ℕ) (handle : Handle) → map.get handles fd ≡ Some handle → may_write handle.flags.access ≡ false

-- Nothing of a state can be changed or lost: no descriptor may write, each object has a name, and a mount shows the objects.
pub record IsOnlyRead {S : Type 0} (m : Meaning S) (s : State) (a : S) : Type 0 where
  pub handles : AreReading s.handles
  pub named : settled s.objects ≡ s.objects
  pub shown : m.shows a s.objects

-- The objects are the same, and no descriptor may write.
pub record StaysReading (old new : State) : Type 0 where
  pub objects : new.objects ≡ old.objects
  pub handles : AreReading new.handles

-- The volume represents a state that it can have; of a read-only one nothing can be changed or lost.
pub record IsAt {S : Type 0} (m : Meaning S) (z : Sizes) (s : State) (v : Volume S) : Type 0 where
  pub has : Has m z s.objects v.store
  pub handles : handles_in v.table ≡ s.handles
  pub sound : IsSound z s
  pub only_read : v.read_only ≡ true → IsOnlyRead m s v.store

-- this holds, by the sizes of the volume, at each state that the volume represents
abbrev pub OfVolume : {S : Type 0} (m : Meaning S) → Volume S → (Sizes → State → Type 0) → Type 0
OfVolume m v A = (z : Sizes) (s : State) → IsAt m z s v → A z s

-- the store was only read, or its device left as it was
abbrev pub ReadsOrLeaves : {S : Type 0} (m : Meaning S) → S → S → Type 0
ReadsOrLeaves m a b = m.reads a b ⊎ m.leaves a b

-- what a done command leaves of a store: one that reports, and one that is answered by an error, only reads; one that may
-- change makes a change or only reads; a done sync commits
abbrev pub Leaves : {S : Type 0} (m : Meaning S) → Class → Reply → Objects → Objects → S → S → Type 0
Leaves m Reporting reply old new a b = (new ≡ old) × m.reads a b
Leaves m Changing reply old new a b = ((new ≡ old) × m.reads a b) ⊎ ((is_error reply ≡ false) × m.changes old new a b)
Leaves m Syncing reply old new a b = (new ≡ old) × (((is_error reply ≡ true) × m.reads a b) ⊎ ((reply ≡ replies.Done) × m.commits old a b))

-- The command is done.
pub record IsDone {S : Type 0} (m : Meaning S) (z : Sizes) (class : Class) (s : State) (meant : Outcome) (a b : Volume S) (reported : Reply) : Type 0 where
  pub reply : reported ≡ meant.reply
  pub state : IsAt m z meant.state b
  pub left : Leaves m class meant.reply s.objects meant.state.objects a.store b.store
  pub goes_on : b.stopped ≡ false

-- Memory was refused, and nothing is done. The device has power.
pub record IsPassedOver {S : Type 0} (m : Meaning S) (z : Sizes) (s : State) (a b : Volume S) (reported : Reply) : Type 0 where
  pub reply : reported ≡ replies.Error errors.ENOMEM
  pub state : IsAt m z s b
  pub left : m.reads a.store b.store
  pub power : m.has_power b.store ≡ true
  pub goes_on : b.stopped ≡ false

-- What is answered where memory was refused: that, of a store whose device has power, else the stop.
abbrev pub ReportsRefusal : {S : Type 0} (m : Meaning S) → S → Reply → Type 0
ReportsRefusal m b reported = ((reported ≡ replies.Error errors.ENOMEM) × (m.has_power b ≡ true)) ⊎ ((reported ≡ replies.Error errors.EIO) × (m.has_power b ≡ false))

-- The store has failed, and the volume is stopped. A command that reports, and one that is meant to be answered by an error, only
-- read, and a read failed.
pub record IsStopped {S : Type 0} (m : Meaning S) (class : Class) (s : State) (meant : Outcome) (a b : Volume S) (reported : Reply) : Type 0 where
  pub reply : reported ≡ replies.Error errors.EIO
  pub left : m.fails s.objects meant.state.objects a.store b.store
  pub unread : (class ≡ Reporting) ⊎ (is_error meant.reply ≡ true) → m.unread a.store b.store
  pub stops : b.stopped ≡ true

-- how a command that means this ends; one that takes no memory is not passed over for it
abbrev pub CommandEnds : {S : Type 0} (m : Meaning S) → Sizes → Class → Bool → State → Outcome → Volume S → Volume S → Reply → Type 0
CommandEnds m z class takes_none s meant a b reported =
    IsDone m z class s meant a b reported
    ⊎ ((takes_none ≡ false) × IsPassedOver m z s a b reported)
    ⊎ IsStopped m class s meant a b reported

-- From each state that the volume represents it ends as the command does that the plan is for, whatever that is, if it leads to
-- a sound state, is not answered by EIO, changes nothing by an error, and of a read-only volume nothing at all.
abbrev pub CarriesOut : {S : Type 0} (m : Meaning S) → Volume S → Plan → Reply → Volume S → Type 0
CarriesOut m old plan reply new = OfVolume m old (λ z s. (class : Class) (meant : Outcome) → IsPlan z class s meant plan
    → IsSound z meant.state → is_stop meant.reply ≡ false → KeepsOnError s meant → (old.read_only ≡ true → StaysReading s meant.state)
    → CommandEnds m z class (frees plan.work) s meant old new reply)
