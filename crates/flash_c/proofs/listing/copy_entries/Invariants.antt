use Rattle.std.proofs.Common.{◌≡◌, ◌++◌, length, take, drop, map}
use Rattle.flash_c.specs.Filling.{names_bytes}
use Rattle.flash_c.specs.Salvaged.{entry_bytes}
use Rattle.flash_c.proofs.listing.copy_entries.Given as goal

-- the names so far are in the buffer, and after them what was there
abbrev pub invariant-loop-entry : goal.invariant-loop-entry
invariant-loop-entry l = record {
  place : l.at ≡ length (names_bytes (take l.entry-index (map entry_bytes l.names)));
  copied : l.buffer ≡ names_bytes (take l.entry-index (map entry_bytes l.names)) ++ drop l.at l.initial.buffer;
}
