-- What a command is to do: its kind, and what is meant by it.
use Rattle.std.specs.Prelude.{◌≡◌, ℕ, Bool, Result}
use Rattle.volume_terms.specs.Sizes.{Sizes}
use Rattle.posix_profile.specs.State.{State, IsFile}
use Rattle.posix_profile.specs.Outcomes.{Outcome}
use Rattle.posix_profile.specs.Requests.{command_of, stamped_of}
use Rattle.posix_profile.specs.Steps.{step}
use Rattle.posix_profile.specs.declared.reply.Errno.{Errno}
use Rattle.posix_profile.specs.declared.request.StampedRequest.{StampedRequest}
use Rattle.object_store.specs.Stores.{Meaning}
use Rattle.object_store.specs.declared.refusal.Refusal.{Refusal}
use Rattle.command_plans.specs.Classes.{Class, Changing, class_of}
use Rattle.command_plans.specs.Plans.{Holds, Plans, Tries}
use Rattle.command_plans.specs.Tables.{handles_in}
use Rattle.command_plans.specs.declared.plan.Plan.{Plan}
use Rattle.command_plans.specs.declared.table.DescriptorTable.{DescriptorTable}

-- the kind of a command and what is meant by it, by the sizes of its volume and the state
abbrev pub Task : Type 0
Task = Sizes → State → Class × Outcome

-- Of a command that may change what is there: a plan for what is meant, or the error that is meant.
abbrev pub TriesTo : Sizes → State → Outcome → Result Plan Errno → Type 0
TriesTo z s meant r = Tries z Changing s meant r

-- At each state whose objects the store represents: a plan for the task, or the error that is meant, unless a read fails or is
-- refused memory. Of the store it says how it was and how it is then.
abbrev pub PlansOn : {S : Type 0} (m : Meaning S) → S × S → Task → Result Plan Refusal → Type 0
PlansOn m stores task r = (z : Sizes) (s : State) → Holds m z s stores.0 → Plans m z (task z s).0 s (task z s).1 stores.0 stores.1 r

-- the same, at each such state whose descriptors are those of the table
abbrev pub PlansAt : {S : Type 0} (m : Meaning S) → S × S → DescriptorTable → Task → Result Plan Refusal → Type 0
PlansAt m stores table task r = (z : Sizes) (s : State) → Holds m z s stores.0 → handles_in table ≡ s.handles → Plans m z (task z s).0 s (task z s).1 stores.0 stores.1 r

-- the same, at each such state in which there is a file of this number
abbrev pub PlansFor : {S : Type 0} (m : Meaning S) → S × S → ℕ → Task → Result Plan Refusal → Type 0
PlansFor m stores file task r = (z : Sizes) (s : State) → Holds m z s stores.0 → IsFile s.objects file → Plans m z (task z s).0 s (task z s).1 stores.0 stores.1 r

-- the requests to a volume that may be read-only
abbrev pub task_of : Bool → StampedRequest → Sizes → State → Class × Outcome
task_of read_only issued z s = (class_of read_only s (command_of issued.request), step z read_only s (stamped_of issued))
