-- The two maps that an index is, and how they change.
use Rattle.std.specs.Prelude.{◌≡◌, ◌≢◌, ◌⊎◌, ◌<◌, ◌≤◌, ◌+◌, ℕ, Bool, true, false, Option, Some, None, IsSome, IsTrue}
use Rattle.block_state.specs.Table.{Table}
use Rattle.chunk_index.specs.declared.form.PagePlace.{PagePlace}
use Rattle.chunk_index.specs.declared.form.CommittedPage.{CommittedPage}
use Rattle.chunk_index.specs.declared.form.Form.{Form}
use Rattle.chunk_index.specs.declared.form.Present.{Present}
use Rattle.chunk_index.specs.declared.form.Present.TheVariants as presents
use Rattle.chunk_index.specs.declared.form.WrittenGroup.{WrittenGroup}
use Rattle.chunk_index.specs.declared.index.Index.{Index}
use Rattle.chunk_index.specs.Entries.{committed_of, present_of, stays_of, as_committed, shown_by, written_page, one_at, counted_at}
use Rattle.chunk_index.specs.Shelves.{look, total, Differs}

-- from the object and the chunk of a key to its committed page
abbrev pub CommittedMap : Type 0
CommittedMap = ℕ → ℕ → Option CommittedPage

-- the committed page of chunk c of object o
abbrev pub committed_pages : Index → CommittedMap
committed_pages x o c = committed_of (look x.shelf.objects o c)

-- the present page of chunk c of object o
abbrev pub present : Index → ℕ → ℕ → Present
present x o c = present_of (look x.shelf.objects o c)

-- there is room for the key's present page, so that placing it takes no memory
abbrev pub IsPrepared : Index → ℕ → ℕ → Type 0
IsPrepared x o c = IsSome (look x.shelf.objects o c)

-- and there still is once the changes are settled
abbrev pub IsReadyKey : Index → ℕ → ℕ → Type 0
IsReadyKey x o c = IsTrue (stays_of (look x.shelf.objects o c))

-- prepared keys are still prepared
abbrev pub StaysPrepared : Index → Index → Type 0
StaysPrepared old new = (o c : ℕ) → IsPrepared old o c → IsPrepared new o c

-- how many keys are committed in the block, by a recount over all entries
abbrev pub count_committed_in : Index → ℕ → ℕ
count_committed_in x b = total (counted_at b) x.shelf.objects

-- The committed count of each block is the number of keys that are committed in it, and no key is committed past the last block.
pub record CountsAgree (t : Table) (x : Index) : Type 0 where
  pub counts : (b : ℕ) → (t.entry b).committed ≡ count_committed_in x b
  pub within : (b : ℕ) → t.geometry.blocks ≤ b → count_committed_in x b ≡ 0

-- no key is committed, present or prepared
pub record IsEmpty (x : Index) : Type 0 where
  pub committed : (o c : ℕ) → committed_pages x o c ≡ None
  pub present : (o c : ℕ) → present x o c ≡ presents.Absent
  pub counts : (b : ℕ) → count_committed_in x b ≡ 0

-- no key's committed page changes, and so no block's count
pub record SameCommitted (old new : Index) : Type 0 where
  pub committed : (o c : ℕ) → committed_pages new o c ≡ committed_pages old o c
  pub counts : (b : ℕ) → count_committed_in new b ≡ count_committed_in old b

-- no key's present page changes
abbrev pub SamePresent : Index → Index → Type 0
SamePresent old new = (o c : ℕ) → present new o c ≡ present old o c

-- One key gets a present page; no other key's changes.
pub record Places (o c : ℕ) (form : Form) (old new : Index) : Type 0 where
  pub here : present new o c ≡ shown_by form
  pub others : (k l : ℕ) → Differs o c k l → present new k l ≡ present old k l

-- the number that a key's page has in the buffer, or this one where it has none there
abbrev pub buffered_or : ℕ → Present → ℕ
buffered_or n presents.Absent = n
buffered_or n (presents.OnFlash p) = n
buffered_or n (presents.InBuffer i) = i

-- Nothing of an object is present from a chunk on, and no other key's present page changes.
pub record Cuts (o from : ℕ) (old new : Index) : Type 0 where
  pub gone : (l : ℕ) → from ≤ l → present new o l ≡ presents.Absent
  pub others : (k l : ℕ) → (k ≢ o) ⊎ (l < from) → present new k l ≡ present old k l

-- the page at another place, in the version that it has
abbrev pub moved_page : PagePlace → CommittedPage → CommittedPage
moved_page place p = record { block = place.block; page = place.page; version = p.version }

-- what is present of a key once its committed page is another
abbrev pub moved_to : CommittedPage → Present → Present
moved_to p presents.Absent = presents.Absent
moved_to p (presents.OnFlash q) = presents.OnFlash p
moved_to p (presents.InBuffer i) = presents.InBuffer i

-- The committed page of one key lies at another place, in its version; a key that is buffered or dropped stays so, and no
-- other key changes. Its old block counts one key less, and its new one one more.
pub record Copies (o c : ℕ) (place : PagePlace) (was : CommittedPage) (old new : Index) : Type 0 where
  pub committed_here : committed_pages new o c ≡ Some (moved_page place was)
  pub present_here : present new o c ≡ moved_to (moved_page place was) (present old o c)
  pub committed_elsewhere : (k l : ℕ) → Differs o c k l → committed_pages new k l ≡ committed_pages old k l
  pub present_elsewhere : (k l : ℕ) → Differs o c k l → present new k l ≡ present old k l
  pub counts : (b : ℕ) → count_committed_in new b + one_at (Some was) b ≡ count_committed_in old b + one_at (Some (moved_page place was)) b

-- the committed page of what is present, once the pages of the buffer were written as this group
abbrev pub once_written : WrittenGroup → Present → Option CommittedPage
once_written g presents.Absent = None
once_written g (presents.OnFlash p) = Some p
once_written g (presents.InBuffer i) = Some (written_page g i)

-- Each committed page is where the present page lies, and what is present is what is committed.
pub record Settles (g : WrittenGroup) (old new : Index) : Type 0 where
  pub committed : (o c : ℕ) → committed_pages new o c ≡ once_written g (present old o c)
  pub presents : (o c : ℕ) → present new o c ≡ as_committed (committed_pages new o c)
  pub has_room : (o c : ℕ) → IsReadyKey old o c → IsReadyKey new o c

-- each page of the buffer lies in a block of so many pages
abbrev pub Fits : ℕ → WrittenGroup → Index → Type 0
Fits pages g x = (o c i : ℕ) → present x o c ≡ presents.InBuffer i → g.first + i < pages

-- The keys that stay are committed, present, prepared and ready as they were, and of all others nothing is committed or present.
pub record Retains (keeps : ℕ → ℕ → Bool) (old new : Index) : Type 0 where
  pub committed_no_more : (o c : ℕ) → keeps o c ≡ false → committed_pages new o c ≡ None
  pub present_no_more : (o c : ℕ) → keeps o c ≡ false → present new o c ≡ presents.Absent
  pub committed : (o c : ℕ) → keeps o c ≡ true → committed_pages new o c ≡ committed_pages old o c
  pub present : (o c : ℕ) → keeps o c ≡ true → present new o c ≡ present old o c
  pub prepared : (o c : ℕ) → keeps o c ≡ true → IsPrepared old o c → IsPrepared new o c
  pub has_room : (o c : ℕ) → keeps o c ≡ true → IsReadyKey old o c → IsReadyKey new o c
