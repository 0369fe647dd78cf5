-- Sessions and their ends, as a life reports them.
-- From: this project.
use Rattle.std.specs.Prelude.{◌≡◌, ◌⊎◌, ◌↔◌, ◌<◌, ◌≤◌, ℕ, ◌+◌, Bool, true, false, length, List, [], ◌∷◌, ◌++◌, Option, Some, Result, Ok, Err, is_some, if◌then◌else◌}
use Rattle.std.specs.List.{list_any}
use Rattle.flash_tree.specs.Mount.{Answers, IsTreeOf, sizes_of}
use Rattle.flash_tree.specs.Newest.{Numbers, AreGreatest}
use Rattle.lives.specs.Lives.{MountAnswer, Mounted, NoMemory, Gone, Faulty, SessionRecord, EndsStopped, at_mount}
use Rattle.mounting.specs.Faults.{WhyNotMounted}
use Rattle.mounting.specs.declared.fault.MountFault.{MountFault}
use Rattle.mounting.specs.declared.fault.MountFault.TheVariants as faults
use Rattle.nand_model.specs.Calls.{Device}
use Rattle.page_store.specs.Checked.{IsConsistent}
use Rattle.pages.specs.Stores.{bad_on}
use Rattle.nand_model.specs.Changes.{PowersUp}
use Rattle.nand_model.specs.Plans.{Plan}
use Rattle.powercut.specs.Planning.{failing, IsPlanned}
use Rattle.powercut.specs.Running.{RunsAsPlanned}
use Rattle.posix_profile.specs.Runs.{RunHolds, is_stop}
use Rattle.posix_profile.specs.State.{Objects}
use Rattle.posix_profile.specs.declared.command.Stamped.{Stamped}
use Rattle.posix_profile.specs.declared.reply.Errno.TheVariants as errors
use Rattle.posix_profile.specs.declared.reply.Reply.{Reply}
use Rattle.posix_profile.specs.declared.reply.Reply.TheVariants as replies
use Rattle.volume_terms.specs.Sizes.{number_end}
use Rattle.powercut.specs.Starting.{plan_of}
use Rattle.powercut.specs.declared.session.Session.{Session}
use Rattle.powercut.specs.declared.session.SessionEnd.{SessionEnd}

-- how a mount answered
abbrev pub answer_of : Result (Unit {0}) MountFault → MountAnswer
answer_of (Ok done) = Mounted
answer_of (Err faults.Gone) = Gone
answer_of (Err faults.NoMemory) = NoMemory
answer_of (Err faults.NotAVolume) = Faulty
answer_of (Err (faults.Newer format)) = Faulty
answer_of (Err faults.Damaged) = Faulty

-- what is recorded of a session
abbrev pub record_of : Session → SessionEnd → SessionRecord
record_of session end = record {
  mounted = answer_of end.mounted;
  commands = session.commands.items;
  begun = end.begun;
  replies = end.replies.items;
  unmounted = end.unmounted;
  cut = end.cut;
}

-- of each session with its end
abbrev pub records_of : List Session → List SessionEnd → List SessionRecord
records_of [] ends = []
records_of (session ∷ sessions) [] = []
records_of (session ∷ sessions) (end ∷ ends) = record_of session end ∷ records_of sessions ends

-- More blocks are bad on the last device than there are to spare; or one number more for each change since the first is too many.
abbrev pub IsUsedUp : (spare : ℕ) → Numbers → (first last : Device) → Type 0
IsUsedUp spare n first last =
    (spare < bad_on last) ⊎ (number_end + first.changes ≤ n.group + 1 + last.changes) ⊎ (number_end + first.changes ≤ n.seq + 1 + last.changes)

-- The flash of the first device shows a tree, and the replies to the commands are right from it on, of a volume that is read-only exactly
-- where more blocks are bad than there are to spare, or a number is used up. An unmount is done or EIO; and EIO comes only where power is
-- lost, or the blocks or the numbers of a volume that can be written are used up.
pub record IsServedFrom (first last : Device) (commands : List Stamped) (answered : List Reply) (unmounted : Option Reply) : Type 0 where
  pub spare : ℕ
  pub tree : Objects
  pub shows : Answers first.geometry first.flash (IsTreeOf spare tree)
  pub numbers : Numbers
  pub greatest : AreGreatest first.flash numbers
  pub read_only : Bool
  pub read_only_is : (read_only ≡ true) ↔ ((spare < bad_on first) ⊎ (number_end ≤ numbers.group) ⊎ (number_end ≤ numbers.seq))
  pub holds : RunHolds (sizes_of first.geometry spare) read_only (at_mount tree) commands answered
  pub unmounts : (reply : Reply) → unmounted ≡ Some reply → (reply ≡ replies.Done) ⊎ (reply ≡ replies.Error errors.EIO)
  pub stops : (list_any is_stop answered ≡ true) ⊎ (unmounted ≡ Some (replies.Error errors.EIO))
      → (last.gone ≡ true) ⊎ ((read_only ≡ false) × IsUsedUp spare numbers first last)

-- Power comes back to the one device, and then calls in turn make it the other: each ends as the plan says, is cut at the fuse and leaves what
-- its fates say, fails where a failure is listed and leaves what the fates of that say, and else is done.
abbrev pub RunsFrom : Plan → (first last : Device) → Type 0
RunsFrom plan first last = (up : Device) × PowersUp first up × RunsAsPlanned plan up last

-- How a session ends, on any flash, that makes the one device the other.
pub record IsEnded (session : Session) (end : SessionEnd) (first last : Device) : Type 0 where
  -- each command that was begun has its reply
  pub replies : end.begun ≡ length end.replies.items
  -- where the mount was done all commands are begun, unless the last reply is EIO
  pub begun : end.mounted ≡ Ok tt → (end.begun ≡ length session.commands.items) ⊎ EndsStopped end.replies.items
  -- where it was not, none is
  pub none : (fault : MountFault) → end.mounted ≡ Err fault → end.begun ≡ 0
  -- and the fault has its reason
  pub why : (fault : MountFault) → end.mounted ≡ Err fault → WhyNotMounted last fault
  -- where it was done, on a flash that shows a tree which a mount finds by whichever way it goes, the replies are right from it
  pub served : IsConsistent first.geometry first.flash → end.mounted ≡ Ok tt → IsServedFrom first last session.commands.items end.replies.items end.unmounted
  -- an unmount is answered exactly where the session asks for it and the mount was done
  pub unmounts : (is_some end.unmounted ≡ true) ↔ ((session.unmount ≡ true) × (end.mounted ≡ Ok tt))
  -- power is lost where it is gone at the end
  pub cut : end.cut ≡ last.gone
  -- it goes at the call of the session's fuse, if so many are made; and no more failures there are than the session lists
  pub planned : IsPlanned (plan_of session) first last
  -- each call of the device ends by the fuse and the failures of the session, with their fates
  pub outcomes : ∥ RunsFrom (plan_of session) first last ∥₁
  -- where there is no fuse no power is lost
  pub fuse : is_some session.fuse ≡ false → end.cut ≡ false
  -- a mount answers Gone only where power is lost
  pub gone : end.mounted ≡ Err faults.Gone → end.cut ≡ true

-- so does each session, from the device that the one before it left
abbrev pub AreEnded : List Session → List SessionEnd → (first last : Device) → Type 0
AreEnded [] ends first last = last ≡ first
AreEnded (session ∷ sessions) [] first last = last ≡ first
AreEnded (session ∷ sessions) (end ∷ ends) first last = (next : Device) × IsEnded session end first next × AreEnded sessions ends next last

-- the calls that fail, of all sessions
abbrev pub failing_in : List Session → List ℕ
failing_in [] = []
failing_in (session ∷ sessions) = failing (plan_of session) ++ failing_in sessions

-- in how many sessions power was lost
abbrev pub cuts_in : List SessionEnd → ℕ
cuts_in [] = 0
cuts_in (end ∷ ends) = (if end.cut then 1 else 0) + cuts_in ends
