-- The refresh of a block.
-- From: this project.
use Rattle.std.specs.Prelude.{◌≡◌, ◌⊎◌, ◌≤◌, ℕ, true, false, Some, Result, Ok, Err}
use Rattle.flash_tree.specs.Newest.{Spot, IsNewest}
use Rattle.block_state.specs.Committed.{bad_count}
use Rattle.block_state.specs.Table.{Table}
use Rattle.chunk_index.specs.declared.form.CommittedPage.{CommittedPage}
use Rattle.chunk_index.specs.declared.index.Index.{Index}
use Rattle.chunk_index.specs.Maps.{committed_pages}
use Rattle.transactions.specs.Checking.{LogState}
use Rattle.flash_log.specs.Moving.{WhyNotMoved}
use Rattle.flash_log.specs.Consistency.{HasFreeBlocks}
use Rattle.flash_log.specs.declared.fault.MoveFault.{MoveFault}

-- the newest page of each key that is committed in block v is of a group whose number was not handed out before
abbrev pub IsWrittenAnew : ℕ → LogState → LogState → Index → Type 0
IsWrittenAnew v old new x = old.device.honest ≡ true → new.device.gone ≡ false → (o c : ℕ) (p : CommittedPage) (s : Spot)
    → committed_pages x o c ≡ Some p → p.block ≡ v → IsNewest new.device.flash o c s → old.table.next_group ≤ s.tag.group

-- so it is in each block in which nothing was committed before
abbrev pub FillsAnew : LogState → LogState → Index → Type 0
FillsAnew old new x = (v : ℕ) → (old.table.entry v).committed ≡ 0 → IsWrittenAnew v old new x

-- nothing is to be moved out of a block: nothing is committed in it, or it is marked bad
abbrev pub MovesNothing : ℕ → Table → Type 0
MovesNothing v t = ((t.entry v).committed ≡ 0) ⊎ ((t.entry v).bad ≡ true)

-- nothing is committed in a block; or it is the open one, which is erased before it is written
abbrev pub IsClearedOut : ℕ → Table → Type 0
IsClearedOut v t = ((t.entry v).committed ≡ 0) ⊎ (t.open_block ≡ Some v)

-- Nothing was to be moved; or all was moved out of the block, and the device has power. No more blocks are bad than there are to spare, and
-- where blocks enough were free they are.
pub record IsRefreshed (v spare : ℕ) (old new : LogState) : Type 0 where
  pub moved : MovesNothing v old.table ⊎ (IsClearedOut v new.table × (new.device.gone ≡ false))
  pub within_limit : bad_count new.table ≤ spare
  pub free : HasFreeBlocks old.table spare → HasFreeBlocks new.table spare

-- how a refresh ends
abbrev pub RefreshEnds : (v spare : ℕ) → LogState → LogState → Result (Unit {0}) MoveFault → Type 0
RefreshEnds v spare old new (Ok done) = IsRefreshed v spare old new
RefreshEnds v spare old new (Err fault) = WhyNotMoved spare new.device new.table fault
