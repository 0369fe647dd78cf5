-- What sessions in turn make of a device, and the life that they are.
-- From: this project.
use Rattle.std.specs.Prelude.{◌≡◌, ◌⊎◌, ◌≤◌, ◌+◌, ℕ, true, false, List}
use Rattle.std.specs.Global.{Vec}
use Rattle.nand_model.specs.Flash.{Flash}
use Rattle.nand_model.specs.Calls.{Device}
use Rattle.nand_model.specs.MemoryState.{device}
use Rattle.nand_model.specs.declared.memory.MemNand.{MemNand}
use Rattle.page_tags.specs.declared.tag.Tag.{Tag}
use Rattle.flash_tree.specs.Groups.{HasTag}
use Rattle.flash_tree.specs.Newest.{Numbers, AreGreatest}
use Rattle.flash_tree.specs.Mount.{sizes_of}
use Rattle.flash_tree.specs.Sound.{IsSoundFlash}
use Rattle.posix_profile.specs.State.{Objects}
use Rattle.lives.specs.Lives.{SessionRecord, IsLife}
use Rattle.page_store.specs.Checked.{IsConsistent}
use Rattle.pages.specs.Stores.{bad_on}
use Rattle.powercut.specs.Limits.{StaysWithin}
use Rattle.powercut.specs.Sessions.{records_of}
use Rattle.powercut.specs.declared.session.Session.{Session}
use Rattle.powercut.specs.declared.session.SessionEnd.{SessionEnd}

-- the pages and the marks are the same
pub record HasSame (old new : Flash) : Type 0 where
  pub page : new.page ≡ old.page
  pub bad : new.bad ≡ old.bad

-- no valid tag of a good block has a group or a seq above these
abbrev pub AreWithin : Flash → (group seq : ℕ) → Type 0
AreWithin flash group seq = (b p : ℕ) (t : Tag) → flash.bad b ≡ false → HasTag flash b p t → (t.group ≤ group) × (t.seq ≤ seq)

-- the flash of the device shows a tree, and a mount finds it by whichever way it goes
abbrev pub IsTrueOn : Device → Type 0
IsTrueOn d = IsConsistent d.geometry d.flash

-- the device soundly shows the tree, and a mount finds it by whichever way it goes
pub record IsSoundOn (spare : ℕ) (tree : Objects) (d : Device) : Type 0 where
  pub sound : IsSoundFlash d.geometry d.flash spare tree
  pub truth : IsTrueOn d

-- from this tree on the sessions are a life to the tree that the last device soundly shows
abbrev pub LivesOn : (spare : ℕ) → Objects → (first : Device) → List SessionRecord → (last : Device) → Type 0
LivesOn spare tree first sessions last = (left : Objects) × IsLife (sizes_of first.geometry spare) tree sessions left × IsSoundFlash last.geometry last.flash spare left

-- what is true of each tree that the device soundly shows, with whatever number of spare blocks
abbrev pub OfSoundTree : Device → (ℕ → Objects → Type 0) → Type 0
OfSoundTree d A = (spare : ℕ) (tree : Objects) → IsSoundOn spare tree d → A spare tree

-- the sessions as they ended are a life from this tree to the one that the device which is returned soundly shows
abbrev pub LivesAs : (spare : ℕ) → Objects → (first : Device) → List Session → MemNand × Vec SessionEnd → Type 0
LivesAs spare tree first sessions lived = LivesOn spare tree first (records_of sessions lived.1.items) (device lived.0)

-- What became of a true flash in these sessions: it is true still; the numbers on it rise by no more than the changes that there were;
-- its greatest numbers at first are known, unless nothing was changed; and from each tree that it soundly shows, as long as the limits are
-- committed, the sessions are a life to the tree that is there now.
pub record TrulyLived (first last : Device) (sessions : List SessionRecord) : Type 0 where
  pub truth : IsTrueOn last
  pub numbers : (group seq more : ℕ) → AreWithin first.flash group seq → last.changes ≡ first.changes + more → AreWithin last.flash (group + more) (seq + more)
  pub known : HasSame first.flash last.flash ⊎ ((n : Numbers) × AreGreatest first.flash n)
  pub life : (spare : ℕ) (tree : Objects) → IsSoundFlash first.geometry first.flash spare tree → StaysWithin spare first last → LivesOn spare tree first sessions last

-- The one device became the other in these sessions. Marks stay, and no more blocks become bad than there were failures; and of a true
-- flash it is known what it shows.
pub record HasLived (first last : Device) (sessions : List SessionRecord) : Type 0 where
  pub geometry : last.geometry ≡ first.geometry
  pub changes : first.changes ≤ last.changes
  pub marks : (b : ℕ) → first.flash.bad b ≡ true → last.flash.bad b ≡ true
  pub answered : bad_on last + first.failures ≤ bad_on first + last.failures
  pub truly : IsTrueOn first → TrulyLived first last sessions
