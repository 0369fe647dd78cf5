-- What the writing of a group promises.
use Rattle.std.specs.Prelude.{◌≡◌, ◌≢◌, ◌⊎◌, ◌<◌, ◌≤◌, ℕ, ◌+◌, Bool, true, false, List, Some, None, Result, Ok, Err, if◌then◌else◌}
use Rattle.nand_model.specs.Flash.{Flash}
use Rattle.nand_model.specs.Calls.{Device}
use Rattle.flash_tree.specs.Groups.{Group, SameGroups, AddsGroup, AllThere}
use Rattle.flash_tree.specs.Numbering.{AreBelow}
use Rattle.flash_tree.specs.Summarizing.{WritesIn}
use Rattle.nand_model.specs.Changes.{Grows}
use Rattle.block_state.specs.Table.{Table}
use Rattle.transactions.specs.declared.source.PageName.{PageName}
use Rattle.transactions.specs.declared.group.Placed.{Placed}
use Rattle.transactions.specs.declared.group.GroupFault.{GroupFault}
use Rattle.transactions.specs.declared.group.GroupFault.TheVariants as faults
use Rattle.transactions.specs.Written.{tag_in}

-- the group that is written next into block o: so many pages from its next page on, with the next number
abbrev pub next_group : Table → ℕ → ℕ → Group
next_group t count o = record { block = o; start = (t.entry o).next; size = count; number = t.next_group; seq = (t.entry o).seq }

-- where the group stands
pub record ReportsGroup (g : Group) (placed : Placed) : Type 0 where
  pub block : placed.block ≡ g.block
  pub first : placed.first ≡ g.start
  pub count : placed.count ≡ g.size
  pub group : placed.group ≡ g.number

-- one more group counts, and its pages are there with these names and data
pub record AddsPages (g : Group) (name : ℕ → PageName) (bytes : ℕ → List ℕ) (old new : Flash) : Type 0 where
  pub group : AddsGroup g old new
  pub pages : AllThere g (tag_in g name) bytes new

-- Which groups count afterwards: after Ok one more, with all its pages; after NoRoom, a failure or a loss the same; and
-- after a cut one more or the same.
abbrev pub GroupsAfter : Group → (ℕ → PageName) → (ℕ → List ℕ) → Flash → Flash → Result Placed GroupFault → Type 0
GroupsAfter g name bytes old new (Ok placed) = AddsPages g name bytes old new
GroupsAfter g name bytes old new (Err faults.NoRoom) = SameGroups old new
GroupsAfter g name bytes old new (Err faults.Failed) = SameGroups old new
GroupsAfter g name bytes old new (Err faults.Lost) = SameGroups old new
GroupsAfter g name bytes old new (Err faults.Gone) = SameGroups old new ⊎ AddsPages g name bytes old new

-- Why it ended so: each page was programmed once, and where the last one was said to fail the group is suspect; a failure
-- was in the count; the device is not honest; it is gone.
abbrev pub GroupEnds : Device → Device → ℕ → Result Placed GroupFault → Type 0
GroupEnds old new count (Ok placed) = (new.failures ≡ old.failures + (if placed.suspect then 1 else 0)) × (new.gone ≡ false) × (new.changes ≡ old.changes + count)
GroupEnds old new count (Err faults.NoRoom) = new ≡ old
GroupEnds old new count (Err faults.Failed) = (new.failures ≡ old.failures + 1) × (new.gone ≡ false) × (old.changes < new.changes) × (new.changes ≤ old.changes + count)
GroupEnds old new count (Err faults.Lost) = (old.honest ≡ false) × (new.changes ≤ old.changes + count)
GroupEnds old new count (Err faults.Gone) = (new.gone ≡ true) × (new.changes ≤ old.changes + count)

-- the pages are taken from the open block, and the group number is used
pub record TakesPages (count : ℕ) (old new : Table) : Type 0 where
  pub here : (o : ℕ) → old.open_block ≡ Some o → new.entry o ≡ record (old.entry o) { next = (old.entry o).next + count }
  pub others : (k : ℕ) → old.open_block ≢ Some k → new.entry k ≡ old.entry k
  pub geometry : new.geometry ≡ old.geometry
  pub open_block : new.open_block ≡ old.open_block
  pub checkpoint : new.checkpoint ≡ old.checkpoint
  pub next_seq : new.next_seq ≡ old.next_seq
  pub next_number : new.next_group ≡ old.next_group + 1

-- the table with its group number used and no block open
abbrev pub closed : Table → Table
closed t = record t { next_group = t.next_group + 1; open_block = None }

-- what becomes of the table after Ok: a suspect group closes its block
abbrev pub OkTable : Bool → ℕ → Table → Table → Type 0
OkTable true count old new = new ≡ closed old
OkTable false count old new = TakesPages count old new

-- what becomes of the table: after Ok the open block has pages less, but a suspect one takes no more, and so after a fault
abbrev pub TableEnds : ℕ → Table → Table → Result Placed GroupFault → Type 0
TableEnds count old new (Ok placed) = OkTable placed.suspect count old new
TableEnds count old new (Err faults.NoRoom) = new ≡ old
TableEnds count old new (Err faults.Failed) = new ≡ closed old
TableEnds count old new (Err faults.Lost) = new ≡ closed old
TableEnds count old new (Err faults.Gone) = new ≡ closed old

-- what stays, however it ends: marks, and the next pages of all other blocks
pub record Stays (t : Table) (old new : Device) : Type 0 where
  pub bad : new.flash.bad ≡ old.flash.bad
  pub other_nexts : (k : ℕ) → t.open_block ≢ Some k → new.flash.next k ≡ old.flash.next k
  pub other_blocks : old.honest ≡ true → (k l : ℕ) → t.open_block ≢ Some k → new.flash.page k l ≡ old.flash.page k l

-- What holds of the numbers on a flash once a group was written in block o: all valid tags of good blocks have numbers below the next
-- group and below any number above the block's, if they had before.
abbrev pub BelowAfter : Table → ℕ → Flash → Flash → Type 0
BelowAfter t o old new = (seq : ℕ) → (t.entry o).seq < seq → AreBelow old t.next_group seq → AreBelow new (1 + t.next_group) seq

-- the same of an honest device whose open block the group was written in
abbrev pub LeavesBelow : Table → Device → Device → Type 0
LeavesBelow t old new = old.honest ≡ true → (o : ℕ) → t.open_block ≡ Some o → BelowAfter t o old.flash new.flash

-- Only erased pages are other than they were, and these lie in the open block, in which each tag has the block's seq and none is without the
-- first page.
pub record WritesOpen (t : Table) (old new : Flash) : Type 0 where
  pub grows : Grows old new
  pub within : (o : ℕ) → t.open_block ≡ Some o → WritesIn o t.next_group (t.entry o).seq old new
