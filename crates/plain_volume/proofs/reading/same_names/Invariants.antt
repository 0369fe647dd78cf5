use Rattle.std.proofs.Common.{◌≡◌, take}
use Rattle.plain_volume.proofs.reading.same_names.Given as goal

-- the first names are the same
abbrev pub invariant-loop-place : goal.invariant-loop-place
invariant-loop-place l = record { same : take l.place l.names ≡ take l.place l.others }
