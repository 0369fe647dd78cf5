-- What a read of a file answers.
use Rattle.std.specs.Prelude.{◌≡◌, ◌⊎◌, ◌≤◌, ℕ, ◌+◌, List, length, min, take, drop, Some, Result, Ok, Err}
use Rattle.std.specs.FinMap as map
use Rattle.posix_profile.specs.State.{Handle, Objects, State, IsFile}
use Rattle.posix_profile.specs.Changes.{with_offset}
use Rattle.posix_profile.specs.HandleSteps.{read_step}
use Rattle.posix_profile.specs.Outcomes.{Outcome, answer, refuse}
use Rattle.posix_profile.specs.declared.command.Command.TheVariants as commands
use Rattle.posix_profile.specs.declared.command.Stamped.{Stamped}
use Rattle.posix_profile.specs.declared.reply.Errno.{Errno}
use Rattle.posix_profile.specs.declared.reply.Errno.TheVariants as errors
use Rattle.posix_profile.specs.declared.reply.Reply.{Reply}
use Rattle.posix_profile.specs.declared.reply.Reply.TheVariants as replies
use Rattle.object_store.specs.Facts.{bytes_of, bytes_from}
use Rattle.object_store.specs.declared.refusal.Refusal.{Refusal}
use Rattle.object_store.specs.declared.refusal.Refusal.TheVariants as refusals
use Rattle.command_plans.specs.Tables.{handle_of}
use Rattle.command_plans.specs.declared.plan.HandleChange.TheVariants as handle_changes
use Rattle.command_plans.specs.declared.plan.Plan.{Plan}
use Rattle.command_plans.specs.declared.plan.StoreWork.TheVariants as work
use Rattle.command_plans.specs.declared.table.OpenDescription.{OpenDescription}
use Rattle.object_commands.specs.declared.reporting.Filled.{Filled}

-- these bytes, past which the offset moves
abbrev pub read_reported : State → ℕ → Handle → List ℕ → Outcome
read_reported s fd handle there = answer (with_offset s fd handle (handle.offset + length there)) (replies.Data there)

-- the bytes from the offset, at most so many
abbrev pub read_of : State → ℕ → Handle → ℕ → List ℕ → Outcome
read_of s fd handle count bytes = read_reported s fd handle (take count (drop handle.offset bytes))

-- the bytes of a file from the offset of a descriptor on, at most so many
abbrev pub bytes_at : Objects → OpenDescription → ℕ → List ℕ
bytes_at objects description count = bytes_from objects description.object description.offset count

-- The descriptor refers to a file that it may read: a read of it answers bytes of the file.
pub record IsReadable (s : State) (fd : ℕ) (description : OpenDescription) : Type 0 where
  pub represents : map.get s.handles fd ≡ Some (handle_of description)
  pub file : IsFile s.objects description.object
  pub means : (count : ℕ) → read_of s fd (handle_of description) count (bytes_of (map.get s.objects description.object)) ≡ read_step s fd count

-- a descriptor that may be read; or a read of it answers the error
abbrev pub MayRead : State → ℕ → Result OpenDescription Errno → Type 0
MayRead s fd (Ok description) = IsReadable s fd description
MayRead s fd (Err error) = (count : ℕ) → refuse s error ≡ read_step s fd count

-- how many bytes a read into a buffer asks: as many as it has room for, and a command can ask
abbrev pub asked_of : List ℕ → ℕ
asked_of buffer = min (length buffer) 4294967295

-- the read of so many bytes; it has no moment
abbrev pub reading : (fd count : ℕ) → Stamped
reading fd count = record { moment = 0; command = commands.Read fd count }

-- the reply of a read into a buffer: the bytes at its front, or the error
abbrev pub read_reply : List ℕ → Result ℕ Errno → Reply
read_reply buffer (Ok count) = replies.Data (take count buffer)
read_reply buffer (Err error) = replies.Error error

-- what a read into a buffer leaves of it: what lies past the bytes that were read; after an error all of it, but EIO and ENOMEM, after which it
-- may hold anything
abbrev pub LeavesRest : List ℕ → List ℕ → Result ℕ Errno → Type 0
LeavesRest before after (Ok count) = (count ≤ length before) × (drop count after ≡ drop count before)
LeavesRest before after (Err error) = (error ≡ errors.EIO) ⊎ ((error ≡ errors.ENOMEM) ⊎ (after ≡ before))

-- the same, where a store may have a fault
abbrev pub FillsOnly : List ℕ → List ℕ → Result Filled Refusal → Type 0
FillsOnly before after (Ok filled) = (filled.count ≤ length before) × (drop filled.count after ≡ drop filled.count before)
FillsOnly before after (Err (refusals.Fault fault)) = Unit {0}
FillsOnly before after (Err (refusals.Error error)) = after ≡ before

-- the plan of a read that was made into a buffer: that reply, and the descriptor past the bytes
abbrev pub filled_plan : ℕ → List ℕ → Result Filled Refusal → Result Plan Refusal
filled_plan fd buffer (Ok filled) = Ok (record { reply = replies.Data (take filled.count buffer); handles = handle_changes.Put fd filled.description; work = work.Nothing })
filled_plan fd buffer (Err refusal) = Err refusal
