-- When a checkpoint is due, and how long it is.
use Rattle.std.specs.Prelude.{◌≡◌, ◌<◌, ◌≤◌, ℕ, ◌+◌, ◌*◌, None}
use Rattle.volume_terms.specs.Rounding.{ceiling}
use Rattle.volume_terms.specs.Sizes.{number_end}
use Rattle.block_state.specs.Committed.{bad_count, free_count, committed_count}
use Rattle.block_state.specs.Table.{Table}
use Rattle.flash_log.specs.declared.checkpoint_due.Extent.{Extent}

-- how many pages a head and so many entries take
abbrev pub check_pages : Table → ℕ
check_pages t = ceiling (32 * (1 + committed_count t)) t.geometry.bytes

-- A checkpoint is due: no block may have one; it has room in a block; no more blocks are bad than there are to spare, and with the free
-- ones they are more than may be needed for retirements, and one for a collection; and numbers are left.
pub record IsDue (spare : ℕ) (t : Table) : Type 0 where
  pub none : t.checkpoint ≡ None
  pub pages : check_pages t ≤ t.geometry.pages
  pub within_limit : bad_count t ≤ spare
  pub free : 1 + spare < free_count t + bad_count t
  pub group : t.next_group < number_end
  pub seq : t.next_seq < number_end

-- the keys that the blocks count, and the pages that their entries take
pub record IsExtent (t : Table) (e : Extent) : Type 0 where
  pub entries : e.entries ≡ committed_count t
  pub pages : e.pages ≡ check_pages t
