-- How many blocks are bad, free or without a committed page, and how many pages are committed.
use Rattle.std.specs.Prelude.{◌≡◌, ◌≤◌, ℕ, ◌+◌, ◌-◌, ◌*◌, Bool, not, ◌&&◌, nat_eq}
use Rattle.block_state.specs.Counting.{how_many, sum_below}
use Rattle.block_state.specs.Table.{Table, is_bad, is_free}

-- a good block without a committed page
abbrev pub is_uncommitted : Table → ℕ → Bool
is_uncommitted t b = not (t.entry b).bad && nat_eq (t.entry b).committed 0

-- how many blocks are marked bad
abbrev pub bad_count : Table → ℕ
bad_count t = how_many (is_bad t) t.geometry.blocks

-- how many blocks are free
abbrev pub free_count : Table → ℕ
free_count t = how_many (is_free t) t.geometry.blocks

-- how many good blocks are without a committed page
abbrev pub uncommitted_count : Table → ℕ
uncommitted_count t = how_many (is_uncommitted t) t.geometry.blocks

-- how many pages are committed in all blocks
abbrev pub committed_count : Table → ℕ
committed_count t = sum_below (λ b. (t.entry b).committed) t.geometry.blocks

-- How full the blocks are, of which so many are to spare: at most so many are bad, and there are at most so many committed
-- pages as fill, with `most` in each, the blocks that are not to spare but one.
pub record HasSpare (t : Table) (spare most : ℕ) : Type 0 where
  pub blocks : spare + 2 ≤ t.geometry.blocks
  pub bad : bad_count t ≤ spare
  pub committed : committed_count t ≤ (t.geometry.blocks - spare - 1) * most

-- no more good blocks are without a committed page than may be needed for retirements, and one for a collection
abbrev pub IsScarce : Table → (spare : ℕ) → Type 0
IsScarce t spare = uncommitted_count t ≤ 1 + spare - bad_count t

-- each block has the same mark and as many committed pages
pub record SameCounts (old new : Table) : Type 0 where
  pub bad : (b : ℕ) → (new.entry b).bad ≡ (old.entry b).bad
  pub committed : (b : ℕ) → (new.entry b).committed ≡ (old.entry b).committed
  pub geometry : new.geometry ≡ old.geometry
