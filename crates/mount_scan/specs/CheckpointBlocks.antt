-- The pages of a candidate.
use Rattle.std.specs.Prelude.{◌≡◌, ◌<◌, ℕ, ◌+◌, ◌*◌, min, true, List, Option, Some, None}
use Rattle.volume_terms.specs.Rounding.{ceiling}
use Rattle.nand_model.specs.Flash.{Flash, Written}
use Rattle.nand_model.specs.Calls.{Device}
use Rattle.nand_model.specs.declared.geometry.Geometry.{Geometry}
use Rattle.page_tags.specs.declared.tag.Tag.{Tag}
use Rattle.page_tags.specs.declared.check.CheckEntry.{CheckEntry}
use Rattle.page_tags.specs.Tags.{tag_bytes}
use Rattle.page_tags.specs.Checks.{check_page}
use Rattle.flash_tree.specs.Groups.{HasTag}
use Rattle.flash_tree.specs.Slots.{check_object}
use Rattle.flash_tree.specs.Checkpoints.{Checkpoint, IsWhole}
use Rattle.mount_scan.specs.CheckpointParts.{AreEntries, BeginsWith}
use Rattle.mount_scan.specs.CheckpointPages.{entries_below}
use Rattle.mount_scan.specs.declared.checkpoint_candidate.Candidate.{Candidate}

-- the tag of page i of a checkpoint whose first page has this tag
abbrev pub page_tag : Tag → ℕ → Tag
page_tag t i = record { index = i; count = t.count; object = check_object; chunk = 1 + i; version = t.group; group = t.group; seq = t.seq }

-- the checkpoint of a candidate that has these entries
abbrev pub begun : Candidate → List CheckEntry → Checkpoint
begun c es = record { block = c.block; size = c.tag.count; number = c.tag.group; seq = c.tag.seq; entries = es }

-- page i of the candidate's block has these bytes and the tag of page i of the checkpoint
abbrev pub IsTagged : Flash → Candidate → ℕ → List ℕ → Type 0
IsTagged flash c i bytes = flash.page c.block i ≡ Written bytes (tag_bytes (page_tag c.tag i))

-- it has another tag or none
abbrev pub IsUntagged : Flash → Candidate → ℕ → Type 0
IsUntagged flash c i = (bytes : List ℕ) → IsTagged flash c i bytes → ⊥

-- it is that of these entries
abbrev pub HasPage : Geometry → Flash → Candidate → ℕ → List CheckEntry → Type 0
HasPage g flash c i es = IsTagged flash c i (check_page g.bytes es i)

-- The first i pages were read: they are those of each list of n entries that begins with these, and a whole checkpoint of the
-- candidate has n entries that begin with these.
pub record HasBegun (g : Geometry) (flash : Flash) (c : Candidate) (n i : ℕ) (es : List CheckEntry) : Type 0 where
  pub pages : (fs : List CheckEntry) → AreEntries n fs → BeginsWith es fs → (j : ℕ) → j < i → HasPage g flash c j fs
  pub among : (fs : List CheckEntry) → IsWhole g flash (begun c fs) → AreEntries n fs × BeginsWith es fs

-- of an honest device: no checkpoint of the candidate is whole
abbrev pub IsNone : Device → Candidate → Type 0
IsNone device c = device.honest ≡ true → (es : List CheckEntry) → IsWhole device.geometry device.flash (begun c es) → ⊥

-- The first i pages were read. Of any device: n entries take as many pages as the candidate says, and these are the first of them.
pub record IsBegun (device : Device) (c : Candidate) (n i : ℕ) (es : List CheckEntry) : Type 0 where
  pub size : c.tag.count ≡ ceiling (32 * (1 + n)) device.geometry.bytes
  pub so_far : AreEntries (min n (entries_below device.geometry.bytes i)) es
  pub pages : device.honest ≡ true → HasBegun device.geometry device.flash c n i es

-- of an honest device whose page 0 of the candidate's block has its tag: no checkpoint in that block is whole
abbrev pub HasNoneAt : Device → Candidate → Type 0
HasNoneAt device c =
    device.honest ≡ true → HasTag device.flash c.block 0 c.tag → (x : Checkpoint) → IsWhole device.geometry device.flash x → x.block ≡ c.block → ⊥

-- how many pages the best candidate says that it has
abbrev pub pages_of : Option Candidate → ℕ
pages_of None = 0
pages_of (Some c) = c.tag.count
