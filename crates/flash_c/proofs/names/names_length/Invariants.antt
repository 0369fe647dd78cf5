use Rattle.std.proofs.Common.{◌≡◌, ◌≤◌, length, take}
use Rattle.flash_c.specs.Filling.{names_bytes}
use Rattle.flash_c.proofs.names.names_length.Given as goal

-- the names so far are in the count, and there is room for them
abbrev pub invariant-loop-name : goal.invariant-loop-name
invariant-loop-name l = record {
  totaled : l.length ≡ length (names_bytes (take l.name-index l.names));
  within : l.length ≤ l.room;
}
