-- The entries of the pages that a scan found, one after another.
use Rattle.std.specs.Prelude.{◌≡◌, ◌<◌, ℕ, List, get_or, Some, None}
use Rattle.mount_scan.specs.declared.page_copy.PageCopy.{PageCopy}
use Rattle.chunk_index.specs.Entries.{committed_at}
use Rattle.chunk_index.specs.Newest.{page_of, IsFoundOf}
use Rattle.chunk_index.specs.Shelves.{ObjectMap, look}

-- The first n of the pages have their entries, and no other key has one.
pub record HasPages (fs : List PageCopy) (n : ℕ) (m : ObjectMap) : Type 0 where
  pub done : (i : ℕ) (d : PageCopy) → i < n → look m (get_or fs i d).object (get_or fs i d).chunk ≡ Some (committed_at (get_or fs i d).chunk (Some (page_of (get_or fs i d))))
  pub rest : (o c : ℕ) → ((i : ℕ) (d : PageCopy) → i < n → IsFoundOf o c (get_or fs i d) → ⊥) → look m o c ≡ None
