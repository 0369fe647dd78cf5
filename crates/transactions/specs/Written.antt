-- The writing of a group, page by page.
use Rattle.std.specs.Prelude.{◌≡◌, ◌≢◌, ◌⊎◌, ◌<◌, ◌≤◌, ℕ, ◌+◌, ◌-◌, Bool, true, false, List, Option, Some, None, Result, Ok, Err}
use Rattle.nand_model.specs.Flash.{Flash, Page, Erased, Written, Uncorrectable}
use Rattle.nand_model.specs.Calls.{Device, Lasts}
use Rattle.nand_model.specs.Counts.{ReadsFew}
use Rattle.page_tags.specs.declared.tag.Tag.{Tag}
use Rattle.page_tags.specs.Tags.{tag_bytes, IsTag}
use Rattle.flash_tree.specs.Groups.{Group, AllThere}
use Rattle.block_state.specs.Table.{Table, Sets}
use Rattle.transactions.specs.declared.source.PageName.{PageName}
use Rattle.transactions.specs.declared.place.GroupPlace.{GroupPlace}
use Rattle.transactions.specs.declared.group.GroupFault.{GroupFault}
use Rattle.transactions.specs.declared.group.GroupFault.TheVariants as faults
use Rattle.transactions.specs.declared.page.LastPage.{LastPage}
use Rattle.transactions.specs.declared.page.LastPage.TheVariants as lasts

-- the group of this place
abbrev pub group_at : GroupPlace → Group
group_at place = record { block = place.block; start = place.first; size = place.count; number = place.group; seq = place.seq }

-- the tag of page i of a group whose pages have these names
abbrev pub tag_in : Group → (ℕ → PageName) → ℕ → Tag
tag_in g name i = record { index = i; count = g.size; object = (name i).key.object; chunk = (name i).key.chunk; version = (name i).version; group = g.number; seq = g.seq }

-- page i of a group, with this data
abbrev pub page_in : Group → (ℕ → PageName) → (ℕ → List ℕ) → ℕ → Page
page_in g name bytes i = Written (bytes i) (tag_bytes (tag_in g name i))

-- page i is there as it was wanted
abbrev pub IsAsked : Group → (ℕ → PageName) → (ℕ → List ℕ) → ℕ → Page → Type 0
IsAsked g name bytes i page = (page ≡ page_in g name bytes i) × IsTag (tag_in g name i)

-- the page is not written
abbrev pub IsNothing : Page → Type 0
IsNothing page = (page ≡ Erased) ⊎ (page ≡ Uncorrectable)

-- a device may write page i of the group: the block is good, the page is its next, and the group fits the block
pub record MayWrite (device : Device) (place : GroupPlace) (i : ℕ) : Type 0 where
  pub block : place.block < device.geometry.blocks
  pub good : device.flash.bad place.block ≡ false
  pub pages : place.first + place.count ≤ device.geometry.pages
  pub next : device.flash.next place.block ≡ Some (place.first + i)
  pub seq : 1 ≤ place.seq

-- how the writing of a page or of a group may end short
abbrev pub StopsBy : Device → Device → GroupFault → Type 0
StopsBy old new faults.NoRoom = ⊥
StopsBy old new faults.Failed = (new.failures ≡ old.failures + 1) × (new.gone ≡ false) × (old.changes < new.changes)
StopsBy old new faults.Lost = old.honest ≡ false
StopsBy old new faults.Gone = new.gone ≡ true

-- one page more, which was read and whose program never came, where it stopped but not by a failure
abbrev pub unwritten : {T : Type 0} → Result T GroupFault → ℕ
unwritten (Ok done) = 0
unwritten (Err faults.NoRoom) = 1
unwritten (Err faults.Failed) = 0
unwritten (Err faults.Lost) = 1
unwritten (Err faults.Gone) = 1

abbrev pub OneEnds : Device → Device → Result (Unit {0}) GroupFault → Type 0
OneEnds old new (Ok done) = (new.failures ≡ old.failures) × (new.gone ≡ false) × (new.changes ≡ old.changes + 1)
OneEnds old new (Err fault) = StopsBy old new fault

-- the block's next page after page p was written
abbrev pub NextEnds : ℕ → Result (Unit {0}) GroupFault → Option ℕ → Type 0
NextEnds p (Ok done) next = next ≡ Some (p + 1)
NextEnds p (Err fault) next = Unit {0}

-- page i after its writing: as wanted, or where that stopped perhaps not written
abbrev pub PageEnds : Group → (ℕ → PageName) → (ℕ → List ℕ) → ℕ → Result (Unit {0}) GroupFault → Page → Type 0
PageEnds g name bytes i (Ok done) page = IsAsked g name bytes i page
PageEnds g name bytes i (Err fault) page = IsAsked g name bytes i page ⊎ IsNothing page

-- what the writing of page i does: where there was no change no page is other
pub record WritesOne (old new : Device) (g : Group) (name : ℕ → PageName) (bytes : ℕ → List ℕ) (i : ℕ) (result : Result (Unit {0}) GroupFault) : Type 0 where
  pub lasts : Lasts old new
  pub ends : OneEnds old new result
  pub changes : new.changes ≤ old.changes + 1
  pub reads : new.reads ≤ old.reads + 1
  pub bad : new.flash.bad ≡ old.flash.bad
  pub next : NextEnds (g.start + i) result (new.flash.next g.block)
  pub other_nexts : (k : ℕ) → k ≢ g.block → new.flash.next k ≡ old.flash.next k
  pub page : old.honest ≡ true → PageEnds g name bytes i result (new.flash.page g.block (g.start + i))
  pub same_block : old.honest ≡ true → (l : ℕ) → l ≢ g.start + i → new.flash.page g.block l ≡ old.flash.page g.block l
  pub other_blocks : old.honest ≡ true → (k l : ℕ) → k ≢ g.block → new.flash.page k l ≡ old.flash.page k l
  pub still : old.honest ≡ true → new.changes ≡ old.changes → (k l : ℕ) → new.flash.page k l ≡ old.flash.page k l

-- the device said that it failed
abbrev pub is_suspect : LastPage → Bool
is_suspect lasts.Done = false
is_suspect lasts.Suspect = true

-- how the writing of the last page ends: done, done though the device said that it failed, or short
abbrev pub LastEnds : Device → Device → Result LastPage GroupFault → Type 0
LastEnds old new (Ok lasts.Done) = (new.failures ≡ old.failures) × (new.gone ≡ false) × (new.changes ≡ old.changes + 1)
LastEnds old new (Ok lasts.Suspect) = (new.failures ≡ old.failures + 1) × (new.gone ≡ false) × (new.changes ≡ old.changes + 1)
LastEnds old new (Err fault) = StopsBy old new fault

-- the block's next page after its last page of the group, at p, was written
abbrev pub LastNext : ℕ → Result LastPage GroupFault → Option ℕ → Type 0
LastNext p (Ok lasts.Done) next = next ≡ Some (p + 1)
LastNext p (Ok lasts.Suspect) next = Unit {0}
LastNext p (Err fault) next = Unit {0}

-- the last page after its writing: where that failed it is not there
abbrev pub LastLeaves : Group → (ℕ → PageName) → (ℕ → List ℕ) → ℕ → Result LastPage GroupFault → Page → Type 0
LastLeaves g name bytes i (Ok last) page = IsAsked g name bytes i page
LastLeaves g name bytes i (Err faults.NoRoom) page = IsAsked g name bytes i page ⊎ IsNothing page
LastLeaves g name bytes i (Err faults.Failed) page = IsNothing page
LastLeaves g name bytes i (Err faults.Lost) page = IsAsked g name bytes i page ⊎ IsNothing page
LastLeaves g name bytes i (Err faults.Gone) page = IsAsked g name bytes i page ⊎ IsNothing page

-- what the writing of the last page, page i, does: where there was no change no page is other
pub record WritesLast (old new : Device) (g : Group) (name : ℕ → PageName) (bytes : ℕ → List ℕ) (i : ℕ) (result : Result LastPage GroupFault) : Type 0 where
  pub lasts : Lasts old new
  pub ends : LastEnds old new result
  pub changes : new.changes ≤ old.changes + 1
  pub reads : ReadsFew (unwritten result) old new
  pub bad : new.flash.bad ≡ old.flash.bad
  pub next : LastNext (g.start + i) result (new.flash.next g.block)
  pub other_nexts : (k : ℕ) → k ≢ g.block → new.flash.next k ≡ old.flash.next k
  pub page : old.honest ≡ true → LastLeaves g name bytes i result (new.flash.page g.block (g.start + i))
  pub same_block : old.honest ≡ true → (l : ℕ) → l ≢ g.start + i → new.flash.page g.block l ≡ old.flash.page g.block l
  pub other_blocks : old.honest ≡ true → (k l : ℕ) → k ≢ g.block → new.flash.page k l ≡ old.flash.page k l
  pub still : old.honest ≡ true → new.changes ≡ old.changes → (k l : ℕ) → new.flash.page k l ≡ old.flash.page k l

-- the first i pages of a group are written, and nothing else is
pub record Progress (old new : Device) (g : Group) (name : ℕ → PageName) (bytes : ℕ → List ℕ) (i : ℕ) : Type 0 where
  pub lasts : Lasts old new
  pub failures : new.failures ≡ old.failures
  pub changes : new.changes ≡ old.changes + i
  pub reads : ReadsFew 0 old new
  pub bad : new.flash.bad ≡ old.flash.bad
  pub next : new.flash.next g.block ≡ Some (g.start + i)
  pub other_nexts : (k : ℕ) → k ≢ g.block → new.flash.next k ≡ old.flash.next k
  pub named : old.honest ≡ true → (k : ℕ) → k < i → IsAsked g name bytes k (new.flash.page g.block (g.start + k))
  pub before : old.honest ≡ true → (l : ℕ) → l < g.start → new.flash.page g.block l ≡ old.flash.page g.block l
  pub rest : old.honest ≡ true → (l : ℕ) → g.start + i ≤ l → new.flash.page g.block l ≡ old.flash.page g.block l
  pub other_blocks : old.honest ≡ true → (k l : ℕ) → k ≢ g.block → new.flash.page k l ≡ old.flash.page k l

-- What the writing of a group leaves, wherever it stopped: each of its pages is as wanted, or not written.
pub record Wrote (g : Group) (name : ℕ → PageName) (bytes : ℕ → List ℕ) (old new : Flash) : Type 0 where
  pub bad : new.bad ≡ old.bad
  pub others : (k l : ℕ) → k ≢ g.block → new.page k l ≡ old.page k l
  pub outside : (l : ℕ) → (l < g.start) ⊎ (g.start + g.size ≤ l) → new.page g.block l ≡ old.page g.block l
  pub inside : (i : ℕ) → i < g.size → IsAsked g name bytes i (new.page g.block (g.start + i)) ⊎ IsNothing (new.page g.block (g.start + i))

-- a page of the group is not there
abbrev pub OneLacks : Group → (ℕ → PageName) → (ℕ → List ℕ) → Flash → Type 0
OneLacks g name bytes flash = (i : ℕ) × (i < g.size) × (flash.page g.block (g.start + i) ≢ page_in g name bytes i)

-- how the writing of a group ends
abbrev pub AllEnds : Device → Device → ℕ → Result LastPage GroupFault → Type 0
AllEnds old new count (Ok lasts.Done) = (new.failures ≡ old.failures) × (new.gone ≡ false) × (new.changes ≡ old.changes + count)
AllEnds old new count (Ok lasts.Suspect) = (new.failures ≡ old.failures + 1) × (new.gone ≡ false) × (new.changes ≡ old.changes + count)
AllEnds old new count (Err fault) = StopsBy old new fault

-- which of the pages are there: all, or after a failure not all, or where it stopped for another reason either
abbrev pub AllLeaves : Group → (ℕ → PageName) → (ℕ → List ℕ) → Flash → Result LastPage GroupFault → Type 0
AllLeaves g name bytes flash (Ok last) = AllThere g (tag_in g name) bytes flash
AllLeaves g name bytes flash (Err faults.NoRoom) = AllThere g (tag_in g name) bytes flash ⊎ OneLacks g name bytes flash
AllLeaves g name bytes flash (Err faults.Failed) = OneLacks g name bytes flash
AllLeaves g name bytes flash (Err faults.Lost) = AllThere g (tag_in g name) bytes flash ⊎ OneLacks g name bytes flash
AllLeaves g name bytes flash (Err faults.Gone) = AllThere g (tag_in g name) bytes flash ⊎ OneLacks g name bytes flash

-- what the writing of all pages of a group does: no page is written before those in front of it, and where there was no change no page
-- is other
pub record WritesAll (old new : Device) (g : Group) (name : ℕ → PageName) (bytes : ℕ → List ℕ) (result : Result LastPage GroupFault) : Type 0 where
  pub lasts : Lasts old new
  pub ends : AllEnds old new g.size result
  pub changes : new.changes ≤ old.changes + g.size
  pub reads : ReadsFew (unwritten result) old new
  pub bad : new.flash.bad ≡ old.flash.bad
  pub next : LastNext (g.start + g.size - 1) result (new.flash.next g.block)
  pub other_nexts : (k : ℕ) → k ≢ g.block → new.flash.next k ≡ old.flash.next k
  pub wrote : old.honest ≡ true → Wrote g name bytes old.flash new.flash
  pub order : old.honest ≡ true → (i k : ℕ) → k < i → new.flash.page g.block (g.start + i) ≢ Erased → IsAsked g name bytes k (new.flash.page g.block (g.start + k))
  pub all : old.honest ≡ true → AllLeaves g name bytes new.flash result
  pub still : old.honest ≡ true → new.changes ≡ old.changes → (k l : ℕ) → new.flash.page k l ≡ old.flash.page k l

-- all pages but the last are written, or the writing ended short
abbrev pub FirstEnds : Device → Device → Group → (ℕ → PageName) → (ℕ → List ℕ) → Result (Unit {0}) GroupFault → Type 0
FirstEnds old new g name bytes (Ok done) = Progress old new g name bytes (g.size - 1)
FirstEnds old new g name bytes (Err fault) = WritesAll old new g name bytes (Err fault)

-- the open block has so many pages less; and where it takes no more pages, no block is open
abbrev pub TableAfter : ℕ → ℕ → Bool → Table → Table → Type 0
TableAfter block count true old new = Sets block (record (old.entry block) { next = (old.entry block).next + count }) old new
    × (new.open_block ≡ old.open_block) × (new.checkpoint ≡ old.checkpoint) × (new.next_seq ≡ old.next_seq)
TableAfter block count false old new = new ≡ record old { open_block = None }

-- the page is written
abbrev pub IsWrittenPage : Page → Type 0
IsWrittenPage page = (bytes tag : List ℕ) × (page ≡ Written bytes tag)

-- only a group that was written without a failure leaves its block open
abbrev pub stays_open : Result LastPage GroupFault → Bool
stays_open (Ok lasts.Done) = true
stays_open (Ok lasts.Suspect) = false
stays_open (Err fault) = false
