-- What a session begins and ends with.
-- From: this project.
use Rattle.std.specs.Prelude.{◌≡◌, ℕ, Bool, true, false, List, Option, Some, None}
use Rattle.std.specs.Global.{Vec}
use Rattle.nand_model.specs.Calls.{Device}
use Rattle.nand_model.specs.Plans.{Plan, listed}
use Rattle.nand_model.specs.declared.fate.Fate.{Fate}
use Rattle.powercut.specs.declared.session.Session.{Session}

-- Power comes on: pages, marks and counts stay. Where no call is to be cut the device is steady.
pub record Starts (fused : Bool) (old new : Device) : Type 0 where
  pub geometry : new.geometry ≡ old.geometry
  pub honest : new.honest ≡ old.honest
  pub gone : new.gone ≡ false
  pub page : new.flash.page ≡ old.flash.page
  pub bad : new.flash.bad ≡ old.flash.bad
  pub cuts : new.cuts ≡ old.cuts
  pub failures : new.failures ≡ old.failures
  pub changes : new.changes ≡ old.changes
  pub reads : new.reads ≡ old.reads
  pub steady : fused ≡ false → new.steady ≡ true

-- the fuse with its fates as a list
abbrev pub fuse_of : Option (ℕ × Vec Fate) → Option (ℕ × List Fate)
fuse_of None = None
fuse_of (Some fuse) = Some (fuse.0, fuse.1.items)

-- every count is 0 since the power-up, and fuse and failures are those of the session
abbrev pub plan_of : Session → Plan
plan_of session = record { calls = 0; changes = 0; fuse = fuse_of session.fuse; failures = listed session.failures.items }
