-- What calls of a store of objects leave of its pages.
use Rattle.std.specs.Prelude.{◌≡◌, ◌⊎◌, ◌≤◌, ◌<◌, true, Result, Ok, Err}
use Rattle.nand_model.specs.Changes.{OnlyReads}
use Rattle.volume_terms.specs.Sizes.{Sizes, number_end}
use Rattle.volume_terms.specs.declared.fault.StoreFault.{StoreFault}
use Rattle.volume_terms.specs.declared.fault.StoreFault.TheVariants as faults
use Rattle.posix_profile.specs.State.{Objects}
use Rattle.object_store.specs.Stores.{settled}
use Rattle.pages.specs.State.{PagesState}
use Rattle.pages.specs.Stores.{Begins, SamePages, GoesOn, HasFailed, bad_on}
use Rattle.paged_objects.specs.Holding.{HoldsObjects}
use Rattle.object_store.specs.Stores.{CanHave}
use Rattle.paged_objects.specs.Representing.{PagesRepresent, Shown}

-- The pages are the same, and the device was only read: so look-ups leave them, and a change that was refused memory.
pub record StaysAs (old new : PagesState) : Type 0 where
  pub page_bytes : new.page_bytes ≡ old.page_bytes
  pub most : new.most ≡ old.most
  pub spare : new.spare ≡ old.spare
  pub present : SamePages new.present old.present
  pub committed : SamePages new.committed old.committed
  pub worn : new.worn ≡ old.worn
  pub sound : new.sound ≡ old.sound
  pub failed : old.failed ≡ true → new.failed ≡ true
  pub refused : old.refused ≤ new.refused
  pub commits : old.commits ≤ new.commits
  pub device : OnlyReads old.device new.device
  pub next : new.next ≡ old.next
  pub checkpoint : new.checkpoint ≡ old.checkpoint
  pub first : new.first ≡ old.first

-- a mount shows the tree that it did, or the settled objects
abbrev pub Turns : Sizes → Objects → PagesState → PagesState → Type 0
Turns z objects p q = (tree : Objects) → Shown z p tree → Shown z q tree ⊎ Shown z q (settled objects)

-- a number of 2^62 would be needed
abbrev pub HasNoNumber : PagesState → Type 0
HasNoNumber p = (number_end ≤ p.next.group) ⊎ (number_end ≤ p.next.seq)

-- Nothing is left to write with: more blocks are bad than there are to spare; or a number of 2^62 would be needed, of a store
-- that can only be read, or that began to commit pages between two states.
abbrev pub IsUsedUp : PagesState → PagesState → Type 0
IsUsedUp p q = (q.spare < bad_on q.device) ⊎ (((q.worn ≡ true) ⊎ Begins p q) × HasNoNumber q)

-- what ended the use of a store between two states: its device is gone or not honest, or nothing is left to write with
abbrev pub HasEnded : PagesState → PagesState → Type 0
HasEnded p q = HasFailed q.device ⊎ IsUsedUp p q

-- the same of one state, whatever was begun before it
abbrev pub HasEndedAt : PagesState → Type 0
HasEndedAt q = HasFailed q.device ⊎ (number_end ≤ q.next.group) ⊎ (number_end ≤ q.next.seq) ⊎ (q.spare < bad_on q.device)

-- a change of the objects was made
pub record Changes (z : Sizes) (objects : Objects) (p q : PagesState) : Type 0 where
  pub goes_on : GoesOn p q
  pub turns : Turns z objects p q

-- a call ended the use of the store that had these objects
pub record Fails (z : Sizes) (objects : Objects) (p q : PagesState) : Type 0 where
  pub goes_on : GoesOn p q
  pub turns : Turns z objects p q
  pub cause : HasEnded p q

-- the objects were committed: a mount shows them settled, and a sound store keeps their pages and no others
pub record Commits (z : Sizes) (objects : Objects) (p q : PagesState) : Type 0 where
  pub goes_on : GoesOn p q
  pub shown : Shown z q (settled objects)
  pub holds : q.sound ≡ true → HoldsObjects z q.committed objects

-- a store of pages holds objects that its volume can have
pub record HasPages (z : Sizes) (p : PagesState) (objects : Objects) : Type 0 where
  pub represents : PagesRepresent z p objects
  pub can : CanHave z objects

-- how a change of the pages ends, which was to make the second objects of the first
abbrev pub EndsPages : Sizes → PagesState → PagesState → Objects → Objects → Result (Unit {0}) StoreFault → Type 0
EndsPages z p q old new (Ok done) = PagesRepresent z q new × Turns z old p q
EndsPages z p q old new (Err faults.NoMemory) = StaysAs p q
EndsPages z p q old new (Err faults.Device) = Fails z old p q
EndsPages z p q old new (Err faults.Worn) = Fails z old p q
