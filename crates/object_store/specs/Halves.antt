-- What two halves mean.
use Rattle.std.specs.Prelude.{ℕ, ◌+◌, ◌*◌}
use Rattle.object_store.specs.declared.halves.Halves.TheInside.{Inside}

-- the number of 64 bits of which they are the halves
abbrev pub joined : Inside → ℕ
joined a = a.high * 4294967296 + a.low
