use Rattle.std.proofs.Common.{◌≤◌, ℕ}
use Rattle.posix_profile.specs.Losses.{Covers}
use Rattle.exerciser.proofs.Covering.{CoversFirst}
use Rattle.exerciser.proofs.keeping.covered.Given as goal

-- what is covered so far covers the commands so far, and no less does
abbrev pub invariant-loop-place : goal.invariant-loop-place
invariant-loop-place l = record { covers : CoversFirst l.script l.replies l.place l.covered; least : (k : ℕ) → Covers l.script l.replies k → l.covered ≤ k; within : l.covered ≤ l.place }
