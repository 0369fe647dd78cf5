-- The numbers that are handed out, and the checkpoints that stay right.
use Rattle.std.specs.Prelude.{◌≡◌, ◌≤◌, ℕ, ◌+◌, true, false}
use Rattle.nand_model.specs.Flash.{Flash}
use Rattle.nand_model.specs.Calls.{Device}
use Rattle.flash_tree.specs.Numbering.{AreBelow}
use Rattle.flash_tree.specs.Truth.{KeepsTrue}
use Rattle.block_state.specs.Table.{Table}

-- the numbers of all valid tags of good blocks are below those that the table hands out next
abbrev pub AreBelowNext : Flash → Table → Type 0
AreBelowNext flash t = AreBelow flash t.next_group t.next_seq

-- No number is taken back, and no more are handed out than the device had changes: block numbers on every path, and
-- group numbers where an honest device still has power. (A group of which nothing was programmed has used its number.)
-- Where the next numbers were above all that was on an honest device they are so still; and what is there now is below
-- the first ones and one more for each change, also where power was lost.
pub record HandsNumbers (old new : Device) (t t' : Table) : Type 0 where
  pub groups_rise : t.next_group ≤ t'.next_group
  pub seqs_rise : t.next_seq ≤ t'.next_seq
  pub seqs : t'.next_seq + old.changes ≤ t.next_seq + new.changes
  pub groups : old.honest ≡ true → new.gone ≡ false → t'.next_group + old.changes ≤ t.next_group + new.changes
  pub below : old.honest ≡ true → AreBelowNext old.flash t → AreBelowNext new.flash t'
  pub written : old.honest ≡ true → AreBelowNext old.flash t
      → (more : ℕ) → new.changes ≡ old.changes + more → AreBelow new.flash (t.next_group + more) (t.next_seq + more)

-- what calls of the log leave of the numbers and of checkpoints
pub record HandsOut (old new : Device) (t t' : Table) : Type 0 where
  pub numbers : HandsNumbers old new t t'
  pub truth : KeepsTrue old new t.checkpoint t'.checkpoint
