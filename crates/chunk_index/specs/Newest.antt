-- The newest pages of a scan, and the index of them.
use Rattle.std.specs.Prelude.{◌≡◌, ◌<◌, ◌^◌, ℕ, List, length, get_or, Some, None}
use Rattle.mount_scan.specs.declared.page_copy.PageCopy.{PageCopy}
use Rattle.chunk_index.specs.declared.form.CommittedPage.{CommittedPage}
use Rattle.chunk_index.specs.declared.form.Present.TheVariants as presents
use Rattle.chunk_index.specs.declared.index.Index.{Index}
use Rattle.chunk_index.specs.Maps.{committed_pages, present}

-- where a page lies, and its version
abbrev pub page_of : PageCopy → CommittedPage
page_of f = record { block = f.block; page = f.page; version = f.version }

-- the page is of chunk c of object o
abbrev pub IsFoundOf : ℕ → ℕ → PageCopy → Type 0
IsFoundOf o c f = (f.object ≡ o) × (f.chunk ≡ c)

-- each page lies in one of so many blocks
abbrev pub LieWithin : ℕ → List PageCopy → Type 0
LieWithin blocks fs = (i : ℕ) (d : PageCopy) → i < length fs → (get_or fs i d).block < blocks

-- each page is one of so many of its block
abbrev pub LieInPages : ℕ → List PageCopy → Type 0
LieInPages pages fs = (i : ℕ) (d : PageCopy) → i < length fs → (get_or fs i d).page < pages

-- each page is of a chunk that a tree may look up
abbrev pub LieLow : List PageCopy → Type 0
LieLow fs = (i : ℕ) (d : PageCopy) → i < length fs → (get_or fs i d).chunk < 2 ^ 32

-- The first n of the pages are committed and present, each where it lies in its version, and no key that none of them is of.
pub record Indexes (fs : List PageCopy) (n : ℕ) (x : Index) : Type 0 where
  pub committed_here : (i : ℕ) (d : PageCopy) → i < n → committed_pages x (get_or fs i d).object (get_or fs i d).chunk ≡ Some (page_of (get_or fs i d))
  pub present_here : (i : ℕ) (d : PageCopy) → i < n → present x (get_or fs i d).object (get_or fs i d).chunk ≡ presents.OnFlash (page_of (get_or fs i d))
  pub committed_elsewhere : (o c : ℕ) → ((i : ℕ) (d : PageCopy) → i < n → IsFoundOf o c (get_or fs i d) → ⊥) → committed_pages x o c ≡ None
  pub present_elsewhere : (o c : ℕ) → ((i : ℕ) (d : PageCopy) → i < n → IsFoundOf o c (get_or fs i d) → ⊥) → present x o c ≡ presents.Absent
