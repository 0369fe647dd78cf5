-- The move of the committed pages of a block.
-- From: this project.
use Rattle.std.specs.Prelude.{◌≡◌, ◌≢◌, ◌⊎◌, ◌<◌, ◌≤◌, ℕ, ◌+◌, true, false, Option, Some, None, Result, Ok, Err}
use Rattle.volume_terms.specs.Sizes.{number_end}
use Rattle.nand_model.specs.Calls.{Device}
use Rattle.block_state.specs.Committed.{bad_count}
use Rattle.block_state.specs.Table.{Table}
use Rattle.chunk_index.specs.declared.form.CommittedPage.{CommittedPage}
use Rattle.chunk_index.specs.declared.index.Index.{Index}
use Rattle.chunk_index.specs.Maps.{committed_pages, present, moved_to, StaysPrepared, IsReadyKey}
use Rattle.flash_log.specs.declared.moving.Moved.{Moved}
use Rattle.flash_log.specs.declared.moving.Moved.TheVariants as places
use Rattle.flash_log.specs.declared.fault.MoveFault.{MoveFault}
use Rattle.flash_log.specs.declared.fault.MoveFault.TheVariants as faults

-- the key is committed in the block
abbrev pub IsCommittedPageIn : ℕ → Index → ℕ → ℕ → Type 0
IsCommittedPageIn v x o c = (p : CommittedPage) × (committed_pages x o c ≡ Some p) × (p.block ≡ v)

-- a key has a committed page in the same version, perhaps elsewhere, and what is present of it follows; what is buffered or
-- dropped stays so
pub record Follows (o c : ℕ) (p : CommittedPage) (old new : Index) : Type 0 where
  pub at : CommittedPage
  pub is : committed_pages new o c ≡ Some at
  pub version : at.version ≡ p.version
  pub present : present new o c ≡ moved_to at (present old o c)

-- Keys that were committed in block v may be committed elsewhere now, in their versions. Of all other keys nothing changes, and
-- no key loses the room that it was prepared.
pub record MovesOut (v : ℕ) (old new : Index) : Type 0 where
  pub moved : (o c : ℕ) (p : CommittedPage) → committed_pages old o c ≡ Some p → p.block ≡ v → Follows o c p old new
  pub committed : (o c : ℕ) → (IsCommittedPageIn v old o c → ⊥) → committed_pages new o c ≡ committed_pages old o c
  pub present : (o c : ℕ) → (IsCommittedPageIn v old o c → ⊥) → present new o c ≡ present old o c
  pub prepared : StaysPrepared old new
  pub can_write : (o c : ℕ) → IsReadyKey old o c → IsReadyKey new o c

-- Each mark but `more` answers a failure that the device had, and `unanswered` failures have none.
abbrev pub MarksFailures : (more unanswered : ℕ) → Device → Device → Table → Table → Type 0
MarksFailures more unanswered old new t t' = bad_count t' + old.failures + unanswered ≤ bad_count t + new.failures + more

-- Each failure that the device had, but those that are unanswered, has its mark, and `more` marks answer none.
abbrev pub AnswersFailures : (more unanswered : ℕ) → Device → Device → Table → Table → Type 0
AnswersFailures more unanswered old new t t' = bad_count t + new.failures + more ≤ bad_count t' + old.failures + unanswered

-- a suspect copy is a failure that no mark has answered yet
abbrev pub unanswered : Result Moved MoveFault → ℕ
unanswered (Ok places.Trusted) = 0
unanswered (Ok (places.Suspect block)) = 1
unanswered (Err fault) = 0

-- all that was committed in block v is committed in block w, which is good and had nothing
pub record LiesIn (v w : ℕ) (old new : Table) : Type 0 where
  pub within : w < old.geometry.blocks
  pub good : (new.entry w).bad ≡ false
  pub was : (old.entry w).committed ≡ 0
  pub there : (new.entry w).committed ≡ (old.entry v).committed
  pub elsewhere : (b : ℕ) → b ≢ v → b ≢ w → (new.entry b).committed ≡ (old.entry b).committed

-- block w is the open one besides, and nothing else was written to it
pub record LiesOpen (v w : ℕ) (old new : Table) : Type 0 where
  pub lies : LiesIn v w old new
  pub open_block : new.open_block ≡ Some w
  pub next : (new.entry w).next ≡ (old.entry v).committed

-- where the pages lie that were committed in block v: in the open block; or in a suspect one, which is not open
abbrev pub IsAway : ℕ → Table → Table → (suspect : Option ℕ) → Type 0
IsAway v old new None = (w : ℕ) × LiesOpen v w old new
IsAway v old new (Some w) = LiesIn v w old new × (new.open_block ≡ None)

-- the same; the block is suspect where the device said that the last page failed
abbrev pub IsMovedTo : ℕ → Table → Table → Moved → Type 0
IsMovedTo v old new places.Trusted = IsAway v old new None
IsMovedTo v old new (places.Suspect w) = IsAway v old new (Some w)

-- the block holds no committed page, and it is good
pub record IsLeft (v : ℕ) (t : Table) : Type 0 where
  pub uncommitted : (t.entry v).committed ≡ 0
  pub good : (t.entry v).bad ≡ false

-- Why nothing was moved, or not all that had to be: a number of 2^62 or more would be needed, or more blocks are bad than
-- there are to spare; the device is not honest; it is gone.
abbrev pub WhyNotMoved : (spare : ℕ) → Device → Table → MoveFault → Type 0
WhyNotMoved spare device t faults.Worn = (number_end ≤ t.next_seq) ⊎ (number_end ≤ t.next_group) ⊎ ((spare < bad_count t) × (device.gone ≡ false))
WhyNotMoved spare device t faults.Lost = device.honest ≡ false
WhyNotMoved spare device t faults.Gone = device.gone ≡ true

-- how a move ends: once it is done no block may have a checkpoint
abbrev pub MoveEnds : (v spare : ℕ) → Device → Table → Table → Result Moved MoveFault → Type 0
MoveEnds v spare device old new (Ok moved) = IsLeft v new × IsMovedTo v old new moved × (device.gone ≡ false) × (new.checkpoint ≡ None)
MoveEnds v spare device old new (Err fault) = WhyNotMoved spare device new fault
