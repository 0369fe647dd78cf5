use Rattle.std.proofs.Common.{◌≡◌, ◌++◌, length, take, drop}
use Rattle.flash_c.specs.Filling.{names_bytes}
use Rattle.flash_c.proofs.names.copy_names.Given as goal

-- the names so far are in the buffer, and after them what was there
abbrev pub invariant-loop-name : goal.invariant-loop-name
invariant-loop-name l = record {
  place : l.at ≡ length (names_bytes (take l.name-index l.names));
  copied : l.buffer ≡ names_bytes (take l.name-index l.names) ++ drop l.at l.initial.buffer;
}
