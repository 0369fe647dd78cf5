-- What a run of commands over maps answers and leaves.
use Rattle.std.specs.Prelude.{◌≡◌, ◌++◌, ℕ, false, List, length}
use Rattle.std.specs.List.{list_any}
use Rattle.posix_profile.specs.Runs.{is_stop, after, RunHolds}
use Rattle.posix_profile.specs.declared.command.Stamped.{Stamped}
use Rattle.posix_profile.specs.declared.reply.Reply.{Reply}
use Rattle.plain_volume.specs.Views.{PlainView}

-- So many of the commands are answered, behind the old replies: each reply is the step's, or want of memory, and the state is
-- that after them.
pub record RunsPlain (a b : PlainView) (commands : List Stamped) (n : ℕ) (before now : List Reply) : Type 0 where
  pub answered : List Reply
  pub count : length answered ≡ n
  pub behind : now ≡ before ++ answered
  pub holds : RunHolds a.sizes a.read_only a.state commands answered
  pub goes_on : list_any is_stop answered ≡ false
  pub state : b.state ≡ after a.sizes a.read_only a.state commands answered
