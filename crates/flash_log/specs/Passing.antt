-- What the passing over of blocks keeps.
-- From: this project.
use Rattle.std.specs.Prelude.{◌≡◌, ◌⊎◌, ◌≤◌, ℕ, ◌+◌, true}
use Rattle.volume_terms.specs.Sizes.{number_end}
use Rattle.nand_model.specs.Flash.{Flash}
use Rattle.nand_model.specs.Calls.{Device}
use Rattle.page_tags.specs.declared.tag.Tag.{Tag}
use Rattle.flash_tree.specs.Groups.{HasTag}
use Rattle.flash_tree.specs.Keeping.{StaysNewest}
use Rattle.flash_tree.specs.Newest.{Spot, IsNewest}
use Rattle.flash_tree.specs.Summaries.{AreSummariesRight}
use Rattle.flash_tree.specs.Summarizing.{IsFindable}
use Rattle.flash_tree.specs.Truth.{KeepsSummaries}
use Rattle.block_state.specs.Committed.{bad_count, uncommitted_count}
use Rattle.block_state.specs.Table.{Table}
use Rattle.flash_log.specs.Erased.{KeepsErased}

-- each newest page that lies in a block with committed pages, by the table, stays so
abbrev pub KeepsCommitted : Table → Flash → Flash → Type 0
KeepsCommitted t old new = (o c : ℕ) (s : Spot) → IsNewest old o c s → 1 ≤ (t.entry s.block).committed → StaysNewest old new o c s

-- a block with committed pages, by the table, gains no tag
abbrev pub GainsNoTag : Table → Flash → Flash → Type 0
GainsNoTag t old new = (b l : ℕ) (u : Tag) → 1 ≤ (t.entry b).committed → HasTag new b l u → HasTag old b l u

-- If each summary was right, each is so still; and each key is findable still whose newest page lies in a block with committed pages, by the
-- table, if it was findable.
pub record KeepsFound (t : Table) (old new : Device) : Type 0 where
  pub summaries : KeepsSummaries old new
  pub keys : AreSummariesRight old.geometry old.flash → (o c : ℕ) (s : Spot) → IsNewest old.flash o c s → 1 ≤ (t.entry s.block).committed
      → IsFindable old.geometry old.flash o c → IsFindable new.geometry new.flash o c

-- Blocks without a committed page may be erased, and of them no more are marked than the device had failures. So what is
-- committed stays, in blocks that gain no tag, and blocks that were without a committed page are it still, or are bad. The number 2^62 is not handed
-- out. The table knows the blocks that begin erased still.
pub record Passes (old new : Device) (t t' : Table) : Type 0 where
  pub geometry : t'.geometry ≡ t.geometry
  pub next_group : t'.next_group ≡ t.next_group
  pub limit : t.next_seq ≤ number_end → t'.next_seq ≤ number_end
  pub committed : (b : ℕ) → (t'.entry b).committed ≡ (t.entry b).committed
  pub marks_stay : (b : ℕ) → (t.entry b).bad ≡ true → (t'.entry b).bad ≡ true
  pub marked : (b : ℕ) → (t'.entry b).bad ≡ true → ((t.entry b).bad ≡ true) ⊎ ((t.entry b).committed ≡ 0)
  pub failures : bad_count t' + old.failures ≤ bad_count t + new.failures
  pub uncommitted : uncommitted_count t' + bad_count t' ≡ uncommitted_count t + bad_count t
  pub newest : old.honest ≡ true → KeepsCommitted t old.flash new.flash
  pub tags : old.honest ≡ true → GainsNoTag t old.flash new.flash
  pub found : old.honest ≡ true → KeepsFound t old new
  pub erased : KeepsErased old new t t'
