-- How a command ends.
-- From: POSIX: errors, and that a failed call has no effect.
use Rattle.std.specs.Prelude.{Bool, List, Option, Some, None, Result, Ok, Err, if◌then◌else◌}
use Rattle.volume_terms.specs.Sizes.{Sizes}
use Rattle.posix_profile.specs.State.{State}
use Rattle.posix_profile.specs.Charge.{fits}
use Rattle.posix_profile.specs.Paths.{Place, first_error}
use Rattle.posix_profile.specs.declared.reply.Errno.{Errno}
use Rattle.posix_profile.specs.declared.reply.Errno.TheVariants as errors
use Rattle.posix_profile.specs.declared.reply.Reply.{Reply}
use Rattle.posix_profile.specs.declared.reply.Reply.TheVariants as replies

-- the reply, and the state after the command
pub record Outcome : Type 0 where
  pub reply : Reply
  pub state : State

-- an answer that leaves the state
abbrev pub answer : State → Reply → Outcome
answer s reply = record { reply = reply; state = s }

-- an error leaves the state
abbrev pub refuse : State → Errno → Outcome
refuse s error = answer s (replies.Error error)

-- the error if there is one, else the outcome
abbrev pub refuse_or : State → Option Errno → Outcome → Outcome
refuse_or s None outcome = outcome
refuse_or s (Some error) outcome = refuse s error

-- the error of the first test that holds, else the outcome
unfoldable pub unless : State → List (Bool × Errno) → Outcome → Outcome
unless s tests outcome = refuse_or s (first_error tests) outcome

-- the new state, which is to fit: a state that has no room is refused
unfoldable pub change_to : Sizes → State → State → Reply → Outcome
change_to z s new reply = if fits z new.objects then answer new reply else refuse s errors.ENOSPC

-- what to do at the place where the path leads
unfoldable pub at_place : State → Result Place Errno → (Place → Outcome) → Outcome
at_place s (Err error) act = refuse s error
at_place s (Ok place) act = act place
