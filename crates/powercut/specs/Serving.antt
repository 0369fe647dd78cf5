-- What is recorded of what was served.
-- From: this project.
use Rattle.std.specs.Prelude.{◌≡◌, ◌⊎◌, ◌↔◌, Bool, true, List, [], ◌∷◌, length, Ok, Err, is_some}
use Rattle.lives.specs.Lives.{SessionRecord, EndsStopped}
use Rattle.mounting.specs.declared.fault.MountFault.{MountFault}
use Rattle.mounting.specs.Faults.{WhyNotMounted}
use Rattle.nand_model.specs.Calls.{Device}
use Rattle.posix_profile.specs.declared.command.Stamped.{Stamped}
use Rattle.powercut.specs.Living.{HasLived}
use Rattle.powercut.specs.Sessions.{answer_of, IsServedFrom}
use Rattle.powercut.specs.declared.serving.Served.{Served}

-- the record of the commands and of what was answered; each command that was begun has its reply
abbrev pub served_record : List Stamped → Served → Bool → SessionRecord
served_record commands served cut = record {
  mounted = answer_of served.mounted;
  commands = commands;
  begun = length served.replies.items;
  replies = served.replies.items;
  unmounted = served.unmounted;
  cut = cut;
}

-- What is served on any flash, by a device that is so at the end: where the mount was done all commands are answered, unless the last
-- reply is EIO, and the volume is unmounted exactly as wanted; where it was not, nothing is answered, and the fault has its reason.
pub record IsServed (commands : List Stamped) (unmount : Bool) (last : Device) (served : Served) : Type 0 where
  pub begun : served.mounted ≡ Ok tt → (length served.replies.items ≡ length commands) ⊎ EndsStopped served.replies.items
  pub none : (fault : MountFault) → served.mounted ≡ Err fault → length served.replies.items ≡ 0
  pub unmounts : (is_some served.unmounted ≡ true) ↔ ((unmount ≡ true) × (served.mounted ≡ Ok tt))
  pub why : (fault : MountFault) → served.mounted ≡ Err fault → WhyNotMounted last fault

-- the one device became the other in the session of these commands that was served
abbrev pub HasServed : (first last : Device) → List Stamped → Served → Type 0
HasServed first last commands served = HasLived first last (served_record commands served last.gone ∷ [])

-- where the mount was done, the replies and the unmount are right from the tree that the first device shows
abbrev pub IsServedRight : (first last : Device) → List Stamped → Served → Type 0
IsServedRight first last commands served = served.mounted ≡ Ok tt → IsServedFrom first last commands served.replies.items served.unmounted
