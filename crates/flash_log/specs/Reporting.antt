-- The reporting of copies to the index.
-- From: this project.
use Rattle.std.specs.Prelude.{◌≡◌, ◌≢◌, ◌<◌, ℕ, ◌+◌, List, Some, slice_get}
use Rattle.block_state.specs.Table.{Table}
use Rattle.chunk_index.specs.declared.form.PagePlace.{PagePlace}
use Rattle.chunk_index.specs.declared.index.Index.{Index}
use Rattle.chunk_index.specs.Maps.{committed_pages, present, moved_to, StaysPrepared, IsReadyKey}
use Rattle.chunk_index.specs.declared.form.CommittedKey.{CommittedKey}
use Rattle.flash_log.specs.Copying.{IsCopyOf, copy_in}

-- none of the first n copies is of the key
abbrev pub IsNone : ℕ → List CommittedKey → ℕ → ℕ → Type 0
IsNone n copies o c = (j : ℕ) (x : CommittedKey) → j < n → slice_get copies j ≡ Some x → IsCopyOf x o c → ⊥

-- The keys of the first n copies are committed in these, copy j lying j pages behind a place, and what is present of them follows;
-- no other key changes.
pub record ReportsFirst (n : ℕ) (at : PagePlace) (copies : List CommittedKey) (old new : Index) : Type 0 where
  pub committed_here : (j : ℕ) (x : CommittedKey) → j < n → slice_get copies j ≡ Some x → committed_pages new x.key.object x.key.chunk ≡ Some (copy_in at j x)
  pub present_here : (j : ℕ) (x : CommittedKey) → j < n → slice_get copies j ≡ Some x
      → present new x.key.object x.key.chunk ≡ moved_to (copy_in at j x) (present old x.key.object x.key.chunk)
  pub committed_elsewhere : (o c : ℕ) → IsNone n copies o c → committed_pages new o c ≡ committed_pages old o c
  pub present_elsewhere : (o c : ℕ) → IsNone n copies o c → present new o c ≡ present old o c
  pub prepared : StaysPrepared old new
  pub can_write : (o c : ℕ) → IsReadyKey old o c → IsReadyKey new o c

-- So many keys less are in block v and more in block w, and nothing else of the blocks is other.
pub record CountsMoved (v w n : ℕ) (old new : Table) : Type 0 where
  pub here : (new.entry v).committed + n ≡ (old.entry v).committed
  pub there : (new.entry w).committed ≡ (old.entry w).committed + n
  pub elsewhere : (b : ℕ) → b ≢ v → b ≢ w → (new.entry b).committed ≡ (old.entry b).committed
  pub bad : (b : ℕ) → (new.entry b).bad ≡ (old.entry b).bad
  pub seq : (b : ℕ) → (new.entry b).seq ≡ (old.entry b).seq
  pub next : (b : ℕ) → (new.entry b).next ≡ (old.entry b).next
  pub geometry : new.geometry ≡ old.geometry
  pub open_block : new.open_block ≡ old.open_block
  pub checkpoint : new.checkpoint ≡ old.checkpoint
  pub next_seq : new.next_seq ≡ old.next_seq
  pub next_group : new.next_group ≡ old.next_group

pub record Reports (v n : ℕ) (at : PagePlace) (copies : List CommittedKey) (old new : Index) (t t' : Table) : Type 0 where
  pub index : ReportsFirst n at copies old new
  pub counts : CountsMoved v at.block n t t'
