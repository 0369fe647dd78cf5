use Rattle.std.proofs.Common.{◌≡◌, take}
use Rattle.std.proofs.Common.{map as list_map}
use Rattle.plain_volume.specs.Items.{item_of}
use Rattle.plain_volume.proofs.reading.same_tree.Given as goal

-- the first items are the same
abbrev pub invariant-loop-place : goal.invariant-loop-place
invariant-loop-place l = record { same : take l.place (list_map item_of l.entries) ≡ take l.place (list_map item_of l.others) }
