-- What keeps the summaries of a flash right.
-- From: this project.
use Rattle.std.specs.Prelude.{◌≡◌, ◌≢◌, ◌⊎◌, ◌<◌, ℕ, ◌+◌, false, List, Contains}
use Rattle.nand_model.specs.Flash.{Flash, Erased}
use Rattle.nand_model.specs.Changes.{Grows}
use Rattle.nand_model.specs.declared.geometry.Geometry.{Geometry}
use Rattle.page_tags.specs.declared.tag.Tag.{Tag}
use Rattle.page_tags.specs.declared.check.CheckEntry.{CheckEntry}
use Rattle.flash_tree.specs.Checkpoints.{entry_of}
use Rattle.flash_tree.specs.Groups.{HasTag, Group, SameGroups, AddsGroup, AllThere, NamesOnce}
use Rattle.flash_tree.specs.Newest.{Spot, spot_in, Holds, IsAfter, IsNewest}
use Rattle.flash_tree.specs.Numbering.{AreBelow}
use Rattle.flash_tree.specs.Slots.{check_object}
use Rattle.flash_tree.specs.Summaries.{BeginsSummary, Summary, summary_group, IsWholeSummary, AreSummariesRight, AreFindable}

-- no good block has a tag
abbrev pub HasNoTags : Flash → Type 0
HasNoTags flash = (b l : ℕ) (t : Tag) → flash.bad b ≡ false → HasTag flash b l t → ⊥

-- Pages are written in block o, which has this seq, for the group of this number. Only erased pages of that block are other than they
-- were, its tags are of that group where they are new, and it has none without its page 0; and before no number of a group was as great
-- as this one, and no seq greater.
pub record WritesIn (o number seq : ℕ) (old new : Flash) : Type 0 where
  pub grows : Grows old new
  pub bads : new.bad ≡ old.bad
  pub elsewhere : (k l : ℕ) → k ≢ o → new.page k l ≡ old.page k l
  pub own : (l : ℕ) (t : Tag) → HasTag new o l t → t.seq ≡ seq
  pub named : (l : ℕ) (t : Tag) → HasTag new o l t → HasTag old o l t ⊎ (t.group ≡ number)
  pub begun : (l : ℕ) (t : Tag) → HasTag new o l t → new.page o 0 ≢ Erased
  pub below : AreBelow old number (1 + seq)

-- pages are written in one block, for one group
abbrev pub WritesInOne : Flash → Flash → Type 0
WritesInOne old new = (o : ℕ) × (number : ℕ) × (seq : ℕ) × WritesIn o number seq old new

-- the group that is added, if one is, does not begin as a summary
abbrev pub AddsNoSummary : Flash → Flash → Type 0
AddsNoSummary old new = SameGroups old new
    ⊎ ((g : Group) × AddsGroup g old new × ((t : Tag) → HasTag new g.block g.start t → BeginsSummary t → ⊥))

-- The summary lists pages of a block that was allocated before its own: each entry is of a valid page there.
pub record ListsBlock (flash : Flash) (s : Summary) : Type 0 where
  pub older : s.head.seq < s.seq
  pub seqs : (l : ℕ) (t : Tag) → HasTag flash s.head.block l t → t.seq ≡ s.head.seq
  pub only : (e : CheckEntry) → Contains s.entries e → (p : Spot) × Holds flash e.object e.chunk p × (p.block ≡ s.head.block) × (e ≡ entry_of p)

-- the summary has an entry of the newest page of the key, if that lies in the block that it lists
abbrev pub ListsKey : Flash → Summary → ℕ → ℕ → Type 0
ListsKey flash s o c = (p : Spot) → IsNewest flash o c p → p.block ≡ s.head.block → Contains s.entries (entry_of p)

-- the group that is added, if one is, is that of a whole summary, which lists a block as it was
pub record AddsSummary (g : Geometry) (old new : Flash) (s : Summary) : Type 0 where
  pub writes : WritesIn s.block s.number s.seq old new
  pub lists : ListsBlock old s
  pub groups : SameGroups old new ⊎ (AddsGroup (summary_group s) old new × IsWholeSummary g new s)

-- A group that is no summary is added, with these tags and data, and no page before it in its block was erased.
pub record AddsNamed (x : Group) (tag : ℕ → Tag) (bytes : ℕ → List ℕ) (old new : Flash) : Type 0 where
  pub writes : WritesIn x.block x.number x.seq old new
  pub adds : AddsGroup x old new
  pub all : AllThere x tag bytes new
  pub no_summary : BeginsSummary (tag 0) → ⊥
  pub in_order : (l : ℕ) → l < x.start → old.page x.block l ≢ Erased

-- A group that is no summary is added, with these tags and some data, to a flash whose summaries are right.
pub record AddsTagged (g : Geometry) (x : Group) (tag : ℕ → Tag) (old new : Flash) : Type 0 where
  pub bytes : ℕ → List ℕ
  pub named : AddsNamed x tag bytes old new
  pub right : AreSummariesRight g old

-- the numbers are those of the key
abbrev pub IsKey : ℕ → ℕ → ℕ → ℕ → Type 0
IsKey o c k d = (k ≡ o) × (d ≡ c)

-- the key alone is findable: keys are exactly if each of them is
abbrev pub IsFindable : Geometry → Flash → ℕ → ℕ → Type 0
IsFindable g flash o c = AreFindable g flash (IsKey o c)

-- each of these keys that was findable is so still
abbrev pub LeavesFindable : Geometry → Flash → Flash → (ℕ → ℕ → Type 0) → Type 0
LeavesFindable g old new keys = (o c : ℕ) → keys o c → IsFindable g old o c → IsFindable g new o c

-- each key that was findable is so still
abbrev pub LeavesAllFindable : Geometry → Flash → Flash → Type 0
LeavesAllFindable g old new = (o c : ℕ) → IsFindable g old o c → IsFindable g new o c

-- no newest page of the key lies in block b
abbrev pub LiesElsewhere : Flash → ℕ → ℕ → ℕ → Type 0
LiesElsewhere flash b o c = (p : Spot) → IsNewest flash o c p → p.block ≢ b

-- s has the version of the newest page of its key
abbrev pub IsCopy : Flash → Spot → Type 0
IsCopy flash s = (p : Spot) × IsNewest flash s.tag.object s.tag.chunk p × (s.tag.version ≡ p.tag.version)

-- A page that is not yet on the flash, of a group of this number, is to be the newest of its key: no valid page of the key comes after
-- it, and its version is that number, or it is a copy of the newest page, which is findable.
pub record Renews (g : Geometry) (flash : Flash) (number : ℕ) (s : Spot) : Type 0 where
  pub ordinary : s.tag.object ≢ check_object
  pub last : (t : Spot) → Holds flash s.tag.object s.tag.chunk t → IsAfter t s → ⊥
  pub version : (s.tag.version ≡ number) ⊎ (IsFindable g flash s.tag.object s.tag.chunk × IsCopy flash s)

-- each key that the group names once, by a page that renews it, is findable afterwards
abbrev pub FindsNamed : Geometry → Group → (ℕ → Tag) → Flash → Flash → Type 0
FindsNamed g x tag old new = (o c i : ℕ) → NamesOnce x tag o c i → Renews g old x.number (spot_in x tag i) → IsFindable g new o c
