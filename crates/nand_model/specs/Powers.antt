-- How a call that is not on a gone device begins.
use Rattle.std.specs.Prelude.{◌≡◌, ℕ, ◌+◌, Bool, true, false, None, []}
use Rattle.nand_model.specs.Plans.{Plan, is_steady}
use Rattle.nand_model.specs.Scripts.{plan}
use Rattle.nand_model.specs.declared.plan.End.{End}
use Rattle.nand_model.specs.declared.plan.End.TheVariants as ends
use Rattle.nand_model.specs.declared.power.Power.{Power}

-- only a cut takes the power away
abbrev pub is_cut : End → Bool
is_cut ends.Whole = false
is_cut ends.Failed = false
is_cut ends.Cut = true

abbrev pub cuts_after : End → ℕ → ℕ
cuts_after ends.Whole n = n
cuts_after ends.Failed n = n
cuts_after ends.Cut n = n + 1

abbrev pub failures_after : End → ℕ → ℕ
failures_after ends.Whole n = n
failures_after ends.Failed n = n + 1
failures_after ends.Cut n = n

-- the power and the counts of cuts and failures after a call that ends so
pub record Begins (end : End) (old new : Power) : Type 0 where
  pub gone : new.gone ≡ is_cut end
  pub cuts : new.cuts.total ≡ cuts_after end old.cuts.total
  pub failures : new.failures.total ≡ failures_after end old.failures.total
  pub steady : is_steady (plan old.script) ≡ true → (is_steady (plan new.script) ≡ true) × (new.cuts.total ≡ old.cuts.total)

-- every count is 0 since the device was made
pub record IsUnused (power : Power) : Type 0 where
  pub cuts : power.cuts.total ≡ 0
  pub failures : power.failures.total ≡ 0
  pub changes : power.changes.total ≡ 0
  pub reads : power.reads.total ≡ 0

-- every count is 0 since the power-up, and no call is cut or fails
abbrev pub Restarts : Plan → Type 0
Restarts plan = plan ≡ record { calls = 0; changes = 0; fuse = None; failures = [] }

-- the same power and counts
pub record IsCopy (copy power : Power) : Type 0 where
  pub gone : copy.gone ≡ power.gone
  pub script : plan copy.script ≡ plan power.script
  pub cuts : copy.cuts ≡ power.cuts
  pub failures : copy.failures ≡ power.failures
  pub changes : copy.changes ≡ power.changes
  pub reads : copy.reads ≡ power.reads
