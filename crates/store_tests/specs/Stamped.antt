-- The keys that have a page in a plain map.
use Rattle.std.specs.Prelude.{ℕ, ◌+◌, ◌-◌, ◌*◌, Bool, List, slice_get, unwrap_or, not, nat_eq, ltb, if◌then◌else◌, ◌&&◌}

-- the stamp of a key: four objects have twelve chunks each
abbrev pub stamp_in : List ℕ → ℕ → ℕ → ℕ
stamp_in stamps o c = if ltb 0 o && (ltb o 5 && ltb c 12) then unwrap_or (slice_get stamps (c * 4 + o - 1)) 0 else 0

-- it has a page
abbrev pub is_stamped : List ℕ → ℕ → ℕ → Bool
is_stamped stamps o c = not (nat_eq (stamp_in stamps o c) 0)
