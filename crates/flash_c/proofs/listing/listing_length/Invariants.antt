use Rattle.std.proofs.Common.{◌≡◌, ◌≤◌, length, take, map}
use Rattle.flash_c.specs.Filling.{names_bytes}
use Rattle.flash_c.specs.Salvaged.{entry_bytes}
use Rattle.flash_c.proofs.listing.listing_length.Given as goal

-- the names so far are in the count, and there is room for them
abbrev pub invariant-loop-entry : goal.invariant-loop-entry
invariant-loop-entry l = record {
  totaled : l.length ≡ length (names_bytes (take l.entry-index (map entry_bytes l.names)));
  within : l.length ≤ l.room;
}
