-- The collection of a block into the next one, which may begin with a summary.
-- From: this project.
use Rattle.std.specs.Prelude.{◌≡◌, ◌<◌, ◌≤◌, ℕ, ◌+◌, false, Option, Some, None, Result, Ok, Err}
use Rattle.block_state.specs.Committed.{bad_count}
use Rattle.transactions.specs.Checking.{LogState}
use Rattle.flash_log.specs.Bills.{Pays, bill_of}
use Rattle.flash_log.specs.Moving.{IsLeft, LiesIn, WhyNotMoved}
use Rattle.flash_log.specs.RoomMaking.{FitsOpen}
use Rattle.flash_log.specs.Consistency.{HasFreeBlocks}
use Rattle.flash_log.specs.SummaryMaking.{HasClear, KeepsHeld}
use Rattle.flash_log.specs.SummarySource.{summary_size}
use Rattle.flash_log.specs.declared.fault.MoveFault.{MoveFault}
use Rattle.flash_log.specs.declared.moving.Moved.{Moved}
use Rattle.flash_log.specs.declared.moving.Moved.TheVariants as places

-- what was committed in block v lies in the open block, which has room for so many pages more
pub record LiesBehind (v count : ℕ) (old new : LogState) : Type 0 where
  pub block : ℕ
  pub open_block : new.table.open_block ≡ Some block
  pub lies : LiesIn v block old.table new.table
  pub fits : FitsOpen count new.table

-- How the move into the open block ends: all was moved, and its block is suspect or not; or the open block is marked; or why not.
abbrev pub OpenEnds : (v count spare : ℕ) → LogState → LogState → Result (Option Moved) MoveFault → Type 0
OpenEnds v count spare old new (Ok (Some places.Trusted)) = IsLeft v new.table × LiesBehind v count old new × (new.table.checkpoint ≡ None) × (new.device.gone ≡ false)
OpenEnds v count spare old new (Ok (Some (places.Suspect w))) = IsLeft v new.table × LiesIn v w old.table new.table × (new.table.checkpoint ≡ None) × (new.device.gone ≡ false)
OpenEnds v count spare old new (Ok None) = (bad_count old.table < bad_count new.table) × KeepsHeld old.table new.table × (new.device.gone ≡ false)
OpenEnds v count spare old new (Err fault) = WhyNotMoved spare new.device new.table fault

-- and for how many pages more there is room, where the open block has room for them behind those of block v
abbrev pub OpenEndsBehind : (v spare : ℕ) → LogState → LogState → Result (Option Moved) MoveFault → Type 0
OpenEndsBehind v spare old new result = (count : ℕ) → HasClear ((old.table.entry v).committed + count) old.device old.table → OpenEnds v count spare old new result

-- the programs that no failure pays for
abbrev pub most_open : (count : ℕ) → Result (Option Moved) MoveFault → ℕ
most_open count (Ok (Some moved)) = count
most_open count (Ok None) = 0
most_open count (Err fault) = count

-- a suspect copy is a failure that no mark has answered yet
abbrev pub left_unanswered : Result (Option Moved) MoveFault → ℕ
left_unanswered (Ok (Some places.Trusted)) = 0
left_unanswered (Ok (Some (places.Suspect w))) = 1
left_unanswered (Ok None) = 0
left_unanswered (Err fault) = 0

-- what it costs: a program for each page, and for a failure the pages of a block and a mark
abbrev pub PaysOpen : (count : ℕ) → LogState → LogState → Result (Option Moved) MoveFault → Type 0
PaysOpen count old new result =
    Pays (record { changes = most_open count result; each = old.device.geometry.pages + 1; marks = 0; unanswered = left_unanswered result }) old new result

-- What the collection of a block of so many committed pages costs: an erase, their programs and a summary, which leave room for so many more.
pub record PaysGathering (committed count : ℕ) (old new : LogState) (result : Result (Unit {0}) MoveFault) : Type 0 where
  pub size : ℕ
  pub most : size ≤ summary_size old.device.geometry
  pub fits : size + (committed + count) ≤ old.device.geometry.pages
  pub pays : Pays (bill_of old (committed + size + 1) 0 0) old new result

-- The open block has room for so many pages. No more blocks are bad than there are to spare, and blocks enough are free.
pub record IsGathered (count spare : ℕ) (new : LogState) : Type 0 where
  pub fits : FitsOpen count new.table
  pub within_limit : bad_count new.table ≤ spare
  pub free : HasFreeBlocks new.table spare
  pub power : new.device.gone ≡ false

-- how it ends
abbrev pub GatherEnds : (count spare : ℕ) → LogState → Result (Unit {0}) MoveFault → Type 0
GatherEnds count spare new (Ok done) = IsGathered count spare new
GatherEnds count spare new (Err fault) = WhyNotMoved spare new.device new.table fault
