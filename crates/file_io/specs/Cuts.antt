-- What is cut off a file.
use Rattle.std.specs.Prelude.{◌≡◌, ◌<◌, ◌≤◌, ℕ, ◌+◌, List, length}
use Rattle.pages.specs.Maps.{IsCut}
use Rattle.pages.specs.declared.change.Cut.{Cut}

-- of the object the chunks from `committed` on are cut, where it had more, and else nothing
pub record CutsFrom (o committed chunks : ℕ) (cuts : List Cut) : Type 0 where
  pub only : (p c i : ℕ) → IsCut cuts p c i → (p ≡ o) × (1 + committed ≤ c) × (committed < chunks)
  pub all : (c : ℕ) → committed < chunks → 1 + committed ≤ c → (i : ℕ) × IsCut cuts o c i
  pub within_limit : length cuts ≤ 1
