-- What is seen of a session, by the tree before it, its commands and their replies.
use Rattle.std.specs.Prelude.{List, Option, Some, None}
use Rattle.plain_volume.specs.Views.{PlainView}
use Rattle.posix_profile.specs.declared.command.Stamped.{Stamped}
use Rattle.posix_profile.specs.declared.reply.Reply.{Reply}
use Rattle.exerciser.specs.Keeping.{IsLeast, IsShownOf}
use Rattle.exerciser.specs.declared.finding.Finding.{Finding}
use Rattle.exerciser.specs.declared.finding.Finding.TheVariants as findings
use Rattle.exerciser.specs.declared.seen.Seen.{Seen}
use Rattle.exerciser.specs.declared.seen.Seen.TheVariants as seens

-- what a line reports on it
abbrev pub finding_of : Seen → Finding
finding_of (seens.Committed count tree) = findings.Committed count
finding_of (seens.Torn tree) = findings.Torn
finding_of (seens.Mount fault) = findings.Mount fault

-- the tree that is seen; none where it cannot be made again, and of a mount that fails
abbrev pub tree_in : Seen → Option PlainView
tree_in (seens.Committed count tree) = Some tree
tree_in (seens.Torn tree) = tree
tree_in (seens.Mount fault) = None

-- A tree is held where the session may leave it, after the least number of commands that leaves it; and torn where it may not. What
-- cannot be made again as a tree, and a mount that fails, are reported of the device (`MountsAs`).
abbrev pub IsSeen : PlainView → List Stamped → List Reply → Seen → Type 0
IsSeen before commands replies (seens.Committed count tree) = IsLeast before commands replies (IsShownOf tree) (Some count)
IsSeen before commands replies (seens.Torn (Some tree)) = IsLeast before commands replies (IsShownOf tree) None
IsSeen before commands replies (seens.Torn None) = Unit {0}
IsSeen before commands replies (seens.Mount fault) = Unit {0}

-- no tree is held
abbrev pub IsTorn : Seen → Type 0
IsTorn (seens.Committed count tree) = ⊥
IsTorn (seens.Torn tree) = Unit {0}
IsTorn (seens.Mount fault) = Unit {0}
