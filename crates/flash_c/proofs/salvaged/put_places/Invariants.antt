use Rattle.std.proofs.Common.{◌≡◌, ◌++◌, take, drop}
use Rattle.flash_c.specs.Salvaged.{places_of}
use Rattle.flash_c.proofs.salvaged.put_places.Given as goal

-- the places so far are at the front, and after them what was there
abbrev pub invariant-loop-i : goal.invariant-loop-i
invariant-loop-i l = l.places ≡ take l.i (places_of l.lost) ++ drop l.i l.initial.places
