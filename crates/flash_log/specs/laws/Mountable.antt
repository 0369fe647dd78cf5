-- What lets the next mount go by summaries stays, over each call of the log.
use Rattle.std.proofs.Common.{◌≡◌, ℕ, true, Option, None, sym, ◌∙◌, subst}
use mathlib.Core.Logic.{∥∥₁_elim}
use Rattle.nand_model.specs.Calls.{Lasts}
use Rattle.nand_model.specs.declared.geometry.Geometry.{Geometry}
use Rattle.chunk_index.specs.declared.index.Index.{Index}
use Rattle.transactions.specs.Checking.{LogState}
use Rattle.flash_log.specs.CheckpointKeeping.{Seals}
use Rattle.flash_tree.specs.MountableFlash.{BeganMountable}
use Rattle.flash_log.specs.Mountable.{IsMountable, IsMountableSince, KeepsMountable}
use Rattle.flash_log.specs.Snapshots.{Snapshot, remembered_flash}
use Rattle.flash_log.specs.Steps.{Step}

-- a call that moves what is committed
pub mountable_step : (spare : ℕ) (old new : LogState) (x y : Index) → Step spare old new x y → KeepsMountable old new x y
mountable_step spare old new x y step honest was = record {
  summaries = step.numbers.truth.summaries honest was.summaries;
  erased = step.erased honest was.erased;
  found = step.findable honest was.summaries was.found;
}

-- the writing of a checkpoint
pub mountable_seals : (spare : ℕ) (x : Index) (old new : LogState) → Seals spare x old new → KeepsMountable old new x x
mountable_seals spare x old new seals honest was = record {
  summaries = seals.keeps.summaries honest was.summaries;
  erased = seals.keeps.erased honest was.erased;
  found = seals.findable honest was.summaries was.found;
}

-- what keeps it leaves it so since the log began
pub mountable_on : (first : Option Snapshot) (old new : LogState) (x y : Index) → Lasts old.device new.device → KeepsMountable old new x y
    → IsMountableSince first old x → IsMountableSince first new y
mountable_on first old new x y lasts keeps was began honest =
    let before : old.device.honest ≡ true = sym lasts.honest ∙ honest in
    ∥∥₁_elim (was (subst (λ (g : Geometry). BeganMountable g (remembered_flash first)) lasts.geometry began) before) (λ a b. squash₁ a b) (λ (is : IsMountable old x). ∣ keeps before is ∣₁)

-- and so does a call that moves what is committed
pub mountable_after : (first : Option Snapshot) (spare : ℕ) (old new : LogState) (x y : Index) → Step spare old new x y
    → IsMountableSince first old x → IsMountableSince first new y
mountable_after first spare old new x y step = mountable_on first old new x y step.lasts (mountable_step spare old new x y step)

-- nothing is claimed where no flash is remembered
pub mountable_unknown : (log : LogState) (x : Index) → IsMountableSince None log x
mountable_unknown log x began = absurd began
