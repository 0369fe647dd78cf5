-- What the commands of a session change, as they were answered, and which tree it may leave.
use Rattle.std.specs.Prelude.{◌≡◌, ℕ, ◌≤◌, Bool, true, false, if◌then◌else◌, List, [], ◌∷◌, length, take, Option, Some, None}
use Rattle.std.specs.FinMap as map
use Rattle.volume_terms.specs.Sizes.{Sizes}
use Rattle.plain_volume.specs.Views.{PlainView}
use Rattle.posix_profile.specs.Losses.{Covers}
use Rattle.posix_profile.specs.Names.{settle}
use Rattle.posix_profile.specs.Runs.{after_one}
use Rattle.posix_profile.specs.State.{Objects, State}
use Rattle.plain_volume.specs.Lists.{shown_of}
use Rattle.posix_profile.specs.declared.command.Stamped.{Stamped}
use Rattle.posix_profile.specs.declared.reply.Errno.TheVariants as errors
use Rattle.posix_profile.specs.declared.reply.Reply.{Reply}
use Rattle.posix_profile.specs.declared.reply.Reply.TheVariants as replies

-- only a read-only volume refuses so
abbrev pub is_read_only : Reply → Bool
is_read_only (replies.Error errors.EROFS) = true
is_read_only reply = false

-- the state after a command with this reply: one that a read-only volume refused is passed over too
abbrev pub after_reported : Sizes → Bool → State → Stamped → Reply → State
after_reported z read_only s command reply = if is_read_only reply then s else after_one z read_only s command reply

-- the state after the commands that were answered
abbrev pub after_all_reported : Sizes → Bool → State → List Stamped → List Reply → State
after_all_reported z read_only s commands [] = s
after_all_reported z read_only s [] (reply ∷ replies) = s
after_all_reported z read_only s (command ∷ commands) (reply ∷ replies) = after_all_reported z read_only (after_reported z read_only s command reply) commands replies

-- what a mount shows of a tree after the first k commands, which were answered so
abbrev pub shown_after : PlainView → List Stamped → List Reply → ℕ → Objects
shown_after tree commands replies k = (settle (after_all_reported tree.sizes tree.read_only tree.state commands (take k replies))).objects

-- A session on a tree, whose commands were answered so, may leave what is such: what a mount shows after its first k commands, which
-- are at least all that a done sync covers, and no more than were answered.
pub record Leaves (before : PlainView) (commands : List Stamped) (replies : List Reply) (IsSuch : Objects → Type 0) (k : ℕ) : Type 0 where
  pub covers : Covers commands replies k
  pub issued : k ≤ length commands
  pub answered : k ≤ length replies
  pub such : IsSuch (shown_after before commands replies k)

-- the least number of commands after which it leaves what is such; none where it may not
abbrev pub IsLeast : PlainView → List Stamped → List Reply → (Objects → Type 0) → Option ℕ → Type 0
IsLeast before commands replies IsSuch (Some k) = Leaves before commands replies IsSuch k × ((j : ℕ) → Leaves before commands replies IsSuch j → k ≤ j)
IsLeast before commands replies IsSuch None = (k : ℕ) → Leaves before commands replies IsSuch k → ⊥

-- what a mount shows of the tree
abbrev pub IsShownOf : PlainView → Objects → Type 0
IsShownOf tree objects = objects ≡ shown_of tree

-- of each state that is shown before, with no descriptor open: the least number of commands after which a session leaves what a mount shows of it; none where it may not leave it
abbrev pub IsDurable : {V : Type 0} → (V → Sizes → Bool → State → Type 0) → V → PlainView → List Stamped → List Reply → Option ℕ → Type 0
IsDurable shows old before commands replies found =
    (z : Sizes) (read_only : Bool) (s : State) → shows old z read_only s → s.handles ≡ map.empty → IsLeast before commands replies (λ objects. objects ≡ (settle s).objects) found

-- what a mount shows of each state that is shown before, with no descriptor open, is what it shows of the tree
abbrev pub IsTreeShown : {V : Type 0} → (V → Sizes → Bool → State → Type 0) → V → PlainView → Type 0
IsTreeShown shows old tree = (z : Sizes) (read_only : Bool) (s : State) → shows old z read_only s → s.handles ≡ map.empty → shown_of tree ≡ (settle s).objects
