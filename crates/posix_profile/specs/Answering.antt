-- What answers commands from a state.
use Rattle.std.specs.Prelude.{◌≡◌, Bool, false}
use Rattle.posix_profile.specs.Runs.{Replies, after_one, is_stop}
use Rattle.posix_profile.specs.State.{State}
use Rattle.posix_profile.specs.declared.command.Stamped.{Stamped}
use Rattle.posix_profile.specs.declared.reply.Reply.{Reply}
use Rattle.volume_terms.specs.Sizes.{Sizes}

-- The reply is the profile's from the state, want of memory, or the stop; and what is not stopped shows the state after it.
pub record IsAnswered {V : Type 0} (shows : V → Sizes → Bool → State → Type 0) (z : Sizes) (read_only : Bool) (s : State) (command : Stamped) (reply : Reply) (new : V) : Type 0 where
  pub reply_is : Replies z read_only s command reply
  pub shown : is_stop reply ≡ false → shows new z read_only (after_one z read_only s command reply)
