-- What is known of a store's pages at one moment, and what a look-up leaves of it.
use Rattle.std.specs.Prelude.{◌≡◌, ◌<◌, ◌≤◌, ℕ, Bool, true, List, Option, Some, None}
use Rattle.nand_model.specs.Calls.{Device}
use Rattle.nand_model.specs.Flash.{Flash}
use Rattle.nand_model.specs.Changes.{OnlyReads}
use Rattle.pages.specs.Maps.{PageMap}
use Rattle.pages.specs.declared.store.Presence.{Presence}
use Rattle.pages.specs.declared.store.Presence.TheVariants as presences
use Rattle.volume_terms.specs.declared.fault.StoreFault.{StoreFault}
use Rattle.volume_terms.specs.declared.fault.StoreFault.TheVariants as faults

-- the numbers that the next group and the next block get
pub record NextNumbers : Type 0 where
  pub group : ℕ
  pub seq : ℕ

-- no number is handed out
abbrev pub no_numbers : NextNumbers
no_numbers = record { group = 0; seq = 0 }

-- The bytes of a page, how many pages a change has at most, the page of each key now and at the last commit, the page that
-- was found last, of which keys a look-up makes no call of the device, and how many pages the next commit is to write; whether
-- the store keeps what is written, whether its device has failed, how many growths were refused to it, how many commits of
-- buffered pages it began, and how many pages it has looked up so far; and its device, the numbers that come next, how many blocks may be
-- bad, whether it can only be read, the block that may have a checkpoint, and the flash with which it began, where that is remembered.
pub record PagesState : Type 0 where
  pub page_bytes : ℕ
  pub most : ℕ
  pub present : PageMap
  pub committed : PageMap
  pub lent : List ℕ
  pub near : ℕ → ℕ → Bool
  pub in_buffer : ℕ
  pub sound : Bool
  pub failed : Bool
  pub refused : ℕ
  pub commits : ℕ
  pub issued : ℕ
  pub device : Device
  pub next : NextNumbers
  pub spare : ℕ
  pub worn : Bool
  pub checkpoint : Option ℕ
  pub first : Option Flash

-- a call that only looks for pages keeps all but the page that was found last, and which pages are near
pub record OnlyFinds (old new : PagesState) : Type 0 where
  pub page_bytes : new.page_bytes ≡ old.page_bytes
  pub most : new.most ≡ old.most
  pub present : new.present ≡ old.present
  pub committed : new.committed ≡ old.committed
  pub in_buffer : new.in_buffer ≡ old.in_buffer
  pub sound : new.sound ≡ old.sound
  pub failed : old.failed ≡ true → new.failed ≡ true
  pub refused : old.refused ≤ new.refused
  pub commits : new.commits ≡ old.commits
  pub issued : old.issued ≤ new.issued
  pub device : OnlyReads old.device new.device
  pub next : new.next ≡ old.next
  pub spare : new.spare ≡ old.spare
  pub worn : new.worn ≡ old.worn
  pub checkpoint : new.checkpoint ≡ old.checkpoint
  pub first : new.first ≡ old.first

-- the device has power where it had it
abbrev pub KeepsPower : PagesState → PagesState → Type 0
KeepsPower old new = new.device.gone ≡ old.device.gone

-- the key has the page that is lent, or none
abbrev pub FindsPage : PageMap → ℕ → ℕ → List ℕ → Presence → Type 0
FindsPage m o c lent presences.Present = m o c ≡ Some lent
FindsPage m o c lent presences.Absent = m o c ≡ None

-- Each fault of a look-up has its cause: a growth was refused in that call, or the device has failed. It wears nothing.
abbrev pub FailsBy : PagesState → PagesState → StoreFault → Type 0
FailsBy old new faults.NoMemory = old.refused < new.refused
FailsBy old new faults.Device = new.failed ≡ true
FailsBy old new faults.Worn = ⊥
