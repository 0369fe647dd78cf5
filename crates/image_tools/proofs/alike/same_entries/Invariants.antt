use Rattle.std.proofs.Common.{◌≡◌, take}
use Rattle.std.proofs.Common.{map as list_map}
use Rattle.image_tools.specs.Folders.{entry_of}
use Rattle.image_tools.proofs.alike.same_entries.Given as goal

-- the first items are the same
abbrev pub invariant-loop-place : goal.invariant-loop-place
invariant-loop-place l = record { same : take l.place (list_map entry_of l.entries) ≡ take l.place (list_map entry_of l.others) }
