-- An index and the buffer that it lists, and how they change together.
use Rattle.std.specs.Prelude.{◌≡◌, ◌<◌, ◌≤◌, ℕ, ◌+◌, List, [], ◌∷◌, length, Option, Some, None, slice_get}
use Rattle.std.specs.Option.{option_map}
use Rattle.flash_tree.specs.declared.place.Key.{Key}
use Rattle.nand_model.specs.Flash.{Flash}
use Rattle.flash_tree.specs.declared.place.FreshPage.{FreshPage}
use Rattle.pages.specs.Maps.{IsPageOf, after_change}
use Rattle.pages.specs.declared.change.Cut.{Cut}
use Rattle.pages.specs.declared.change.Change.{Change}
use Rattle.chunk_index.specs.declared.form.CommittedPage.{CommittedPage}
use Rattle.chunk_index.specs.declared.form.Present.{Present}
use Rattle.chunk_index.specs.declared.form.Present.TheVariants as presents
use Rattle.chunk_index.specs.declared.index.Index.{Index}
use Rattle.chunk_index.specs.Maps.{present, IsReadyKey, IsPrepared, Settles}
use Rattle.chunk_index.specs.Entries.{written_page}
use Rattle.chunk_index.specs.declared.form.WrittenGroup.{WrittenGroup}
use Rattle.page_store.specs.Shown.{data_at, data_in, present_data}
use Rattle.pages.specs.Changes.{AreSized, AreApart}

-- the key of page i
abbrev pub key_at : List FreshPage → ℕ → Option Key
key_at pages i = option_map (λ (p : FreshPage). p.key) (slice_get pages i)

-- A key is present in the buffer, at place i, exactly where page i is of this key.
pub record Buffers (x : Index) (pages : List FreshPage) : Type 0 where
  pub there : (o c i : ℕ) → present x o c ≡ presents.InBuffer i → key_at pages i ≡ Some (record { object = o; chunk = c })
  pub reported : (o c i : ℕ) → key_at pages i ≡ Some (record { object = o; chunk = c }) → present x o c ≡ presents.InBuffer i

-- no key is present in a buffer
abbrev pub IsUnbuffered : Index → Type 0
IsUnbuffered x = (o c i : ℕ) → present x o c ≡ presents.InBuffer i → ⊥

-- 0 for a key that is present in the buffer, and else 1
abbrev pub lacks : Present → ℕ
lacks presents.Absent = 1
lacks (presents.OnFlash k) = 1
lacks (presents.InBuffer i) = 0

-- how many of the pages are of keys that are not present in the buffer
abbrev pub new_keys : Index → List FreshPage → ℕ
new_keys x [] = 0
new_keys x (p ∷ ps) = lacks (present x p.key.object p.key.chunk) + new_keys x ps

-- how many pages there are with these, each key once
abbrev pub with_new : Index → List FreshPage → List FreshPage → ℕ
with_new x buffer pages = length buffer + new_keys x pages

-- each of the pages is of a key that is present in the buffer
abbrev pub AreBuffered : List FreshPage → Index → Type 0
AreBuffered pages x = (i : ℕ) (p : FreshPage) → slice_get pages i ≡ Some p → lacks (present x p.key.object p.key.chunk) ≡ 0

-- there is room in the index for each of the pages
abbrev pub ArePrepared : Index → List FreshPage → Type 0
ArePrepared x pages = (o c i : ℕ) → IsPageOf pages o c i → IsPrepared x o c

-- and also once the changes are settled
abbrev pub AreReady : Index → List FreshPage → Type 0
AreReady x pages = (o c i : ℕ) → IsPageOf pages o c i → IsReadyKey x o c

-- the key of each page
abbrev pub IsKeyOf : FreshPage → ℕ → ℕ → Type 0
IsKeyOf p o c = (p.key.object ≡ o) × (p.key.chunk ≡ c)

-- The page is the present one of its key, and every other key has the page that it had, in the buffer or not as before. The
-- buffer has one page more where the key had none there.
pub record PutsPage (page : FreshPage) (x y : Index) (old new : List FreshPage) : Type 0 where
  pub here : (flash : Flash) → present_data y new flash page.key.object page.key.chunk ≡ Some page.bytes.items
  pub others : (flash : Flash) (o c : ℕ) → (IsKeyOf page o c → ⊥) → present_data y new flash o c ≡ present_data x old flash o c
  pub lacking : (o c : ℕ) → (IsKeyOf page o c → ⊥) → lacks (present y o c) ≡ lacks (present x o c)
  pub longer : length new ≡ length old + lacks (present x page.key.object page.key.chunk)

-- The page at place i goes, and its key has none then; every other key has the page that it had, in the buffer or not as
-- before.
pub record DropsSlot (i : ℕ) (x y : Index) (old new : List FreshPage) : Type 0 where
  pub gone : (o c : ℕ) → IsPageOf old o c i → present y o c ≡ presents.Absent
  pub others : (flash : Flash) (o c : ℕ) → (IsPageOf old o c i → ⊥) → present_data y new flash o c ≡ present_data x old flash o c
  pub lacking : (o c : ℕ) → (IsPageOf old o c i → ⊥) → lacks (present y o c) ≡ lacks (present x o c)
  pub fewer : length new + 1 ≡ length old
  pub below : (o c k : ℕ) → k < i → IsPageOf new o c k → IsPageOf old o c k

-- the cut takes the key's page
abbrev pub IsTaken : Cut → ℕ → ℕ → Type 0
IsTaken cut o c = (cut.object ≡ o) × (cut.from ≤ c)

-- No page in the buffer is one that the cut takes, and every other key has the page that it had.
pub record DropsCut (cut : Cut) (x y : Index) (old new : List FreshPage) : Type 0 where
  pub gone : (o c i : ℕ) → IsTaken cut o c → IsPageOf new o c i → ⊥
  pub others : (flash : Flash) (o c : ℕ) → (IsTaken cut o c → ⊥) → present_data y new flash o c ≡ present_data x old flash o c

-- What is cut has no page, and all else is as it was.
pub record CutsPages (cut : Cut) (x y : Index) (old new : List FreshPage) : Type 0 where
  pub gone : (flash : Flash) (o c : ℕ) → IsTaken cut o c → present_data y new flash o c ≡ None
  pub others : (flash : Flash) (o c : ℕ) → (IsTaken cut o c → ⊥) → present_data y new flash o c ≡ present_data x old flash o c

-- The present pages are changed by a change, on every flash.
abbrev pub ChangesPages : Change → (x y : Index) (old new : List FreshPage) → Type 0
ChangesPages change x y old new = (flash : Flash) (o c : ℕ) → present_data y new flash o c ≡ after_change change (present_data x old flash) o c

-- The pages were written as this group: page i has its data where the group says.
abbrev pub HasWritten : WrittenGroup → List FreshPage → Flash → Type 0
HasWritten g pages flash = (i : ℕ) → i < length pages → data_at flash (written_page g i) ≡ data_in pages i

-- the present pages that lie on the flash have the data there that they had
abbrev pub KeepsPresent : Index → Flash → Flash → Type 0
KeepsPresent x old new = (o c : ℕ) (k : CommittedPage) → present x o c ≡ presents.OnFlash k → data_at new k ≡ data_at old k

-- A commit of a buffer: its pages were written as a group, by which the index was settled, and present pages that lay on the flash have the
-- data that they had.
pub record BufferCommit : Type 0 where
  pub before : Index
  pub after : Index
  pub pages : List FreshPage
  pub old : Flash
  pub new : Flash
  pub group : WrittenGroup
  pub settles : Settles group before after
  pub buffers : Buffers before pages
  pub written : HasWritten group pages new
  pub same : KeepsPresent before old new

-- The pages of a change can be put in the buffer: there is room in the index for each, each has so many bytes, and no two have one key.
pub record CanPut (x : Index) (bytes : ℕ) (pages : List FreshPage) : Type 0 where
  pub prepared : ArePrepared x pages
  pub size : AreSized pages bytes
  pub apart : AreApart pages
