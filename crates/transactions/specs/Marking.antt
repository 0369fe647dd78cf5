-- The marks of a device in a table.
use Rattle.std.specs.Prelude.{◌≡◌, ◌<◌, ◌≤◌, ℕ, ◌+◌, false, None, if◌then◌else◌}
use Rattle.nand_model.specs.Calls.{Device}
use Rattle.nand_model.specs.Flash.{Flash}
use Rattle.flash_tree.specs.Newest.{Numbers}
use Rattle.block_state.specs.Table.{Table, Sets, other_than}

-- The marks of the first n blocks are noted in a table that had none. The rest of it stays, no block is open, and none has a
-- checkpoint.
pub record MarksNoted (device : Device) (n : ℕ) (old new : Table) : Type 0 where
  pub marked : (b : ℕ) → b < n → (new.entry b).bad ≡ device.flash.bad b
  pub others : (b : ℕ) → n ≤ b → (new.entry b).bad ≡ false
  pub committed : (b : ℕ) → (new.entry b).committed ≡ (old.entry b).committed
  pub seqs : (b : ℕ) → (new.entry b).seq ≡ (old.entry b).seq
  pub nexts : (b : ℕ) → (new.entry b).next ≡ (old.entry b).next
  pub geometry : new.geometry ≡ old.geometry
  pub open_block : new.open_block ≡ None
  pub checkpoint : new.checkpoint ≡ None
  pub next_seq : new.next_seq ≡ old.next_seq
  pub next_group : new.next_group ≡ old.next_group

-- the block has the mark that it has on the flash, and no checkpoint where it is bad; nothing else of the table is other
pub record NotesMark (block : ℕ) (flash : Flash) (old new : Table) : Type 0 where
  pub sets : Sets block (record (old.entry block) { bad = flash.bad block }) old new
  pub open_block : new.open_block ≡ old.open_block
  pub checkpoint : new.checkpoint ≡ (if flash.bad block then other_than block old.checkpoint else old.checkpoint)
  pub next_seq : new.next_seq ≡ old.next_seq

-- A table of the device that was made anew: its marks are the device's, no block is open, none may have a checkpoint, none has a committed
-- page, was allocated or was written, and the next numbers are one above these.
pub record IsMarked (device : Device) (n : Numbers) (t : Table) : Type 0 where
  pub geometry : t.geometry ≡ device.geometry
  pub marks : (b : ℕ) → (t.entry b).bad ≡ device.flash.bad b
  pub closed : t.open_block ≡ None
  pub checkpoint : t.checkpoint ≡ None
  pub committed : (b : ℕ) → (t.entry b).committed ≡ 0
  pub seqs : (b : ℕ) → (t.entry b).seq ≡ 0
  pub nexts : (b : ℕ) → (t.entry b).next ≡ 0
  pub group : t.next_group ≡ n.group + 1
  pub seq : t.next_seq ≡ n.seq + 1
