-- The page of a header.
use Rattle.std.specs.Prelude.{◌≤◌, ℕ, List, length}

-- the page has the 32 bytes before the presence bits
abbrev pub HasStart : List ℕ → Type 0
HasStart page = 32 ≤ length page
