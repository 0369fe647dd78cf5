-- What the plan of a session makes of a device in memory.
-- From: this project.
use Rattle.std.specs.Prelude.{◌≡◌, ℕ, ◌+◌, ◌-◌, ◌^◌, ◌<◌, ◌≤◌, Bool, true, false, ◌&&◌, nat_lt, min, Option, None, Some, List, [], ◌∷◌, length, map, if◌then◌else◌}
use Rattle.nand_model.specs.Calls.{Device}
use Rattle.nand_model.specs.Plans.{Plan}
use Rattle.nand_model.specs.declared.fate.Fate.{Fate}

-- the call of a fuse; 0, which no call has, where there is none
abbrev pub call_of : Option (ℕ × List Fate) → ℕ
call_of None = 0
call_of (Some fuse) = fuse.0

-- the call at which power is lost
abbrev pub fuse_call : Plan → ℕ
fuse_call plan = call_of plan.fuse

-- the calls that fail
abbrev pub failing : Plan → List ℕ
failing plan = map (λ f. f.0) plan.failures

-- how many calls were made on a device with power
abbrev pub calls_of : Device → ℕ
calls_of d = d.reads + d.changes

-- how many calls were made since, as a fuse counts them: up to the greatest number of 64 bits
abbrev pub calls_since : (first last : Device) → ℕ
calls_since first last = min (calls_of last - calls_of first) (2 ^ 64 - 1)

-- each is below the greatest number of 64 bits, from which on a device reports no more calls apart
abbrev pub are_counted : List ℕ → Bool
are_counted [] = true
are_counted (call ∷ calls) = nat_lt call (2 ^ 64 - 1) && are_counted calls

-- What a session makes of a device, from a power-up with this plan to its end.
pub record IsPlanned (plan : Plan) (first last : Device) : Type 0 where
  -- there is one cut where power is gone at the end, and else none
  pub cuts : last.cuts ≡ first.cuts + (if last.gone then 1 else 0)
  -- power is lost at the call of the fuse
  pub cut : last.gone ≡ true → (1 ≤ fuse_call plan) × (calls_of last ≡ calls_of first + fuse_call plan)
  -- where it does not go the session makes fewer calls
  pub uncut : last.gone ≡ false → 1 ≤ fuse_call plan → calls_of last < calls_of first + fuse_call plan
  -- no more failures there are than are listed
  pub failures : are_counted (failing plan) ≡ true → last.failures ≤ first.failures + length (failing plan)
