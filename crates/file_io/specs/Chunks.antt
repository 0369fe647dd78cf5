-- The chunks of a file, numbered from 0: chunk k of its bytes is chunk 1 + k of the object.
use Rattle.std.specs.Global.{Vec}
use Rattle.std.specs.Prelude.{◌≡◌, ◌<◌, ◌≤◌, ◌⊎◌, ℕ, zero, suc, ◌+◌, ◌-◌, ◌*◌, ◌/◌, ◌%◌, true, List, ◌++◌, length, take, drop, slice_get, slice_index, Option, Some, None}
use Rattle.page_tags.specs.Headers.{is_present}
use Rattle.pages.specs.Maps.{IsPageOf, PageMap}
use Rattle.pages.specs.Changes.{AreApart}
use Rattle.pages.specs.State.{PagesState}
use Rattle.flash_tree.specs.declared.place.FreshPage.{FreshPage}

-- over so many chunks n bytes from a place on extend
abbrev pub chunks_over : ℕ → ℕ → ℕ → ℕ
chunks_over d off zero = 0
chunks_over d off (suc n) = (off + n) / d - off / d + 1

-- 1 where there is a page
abbrev pub one_page : Option (List ℕ) → ℕ
one_page None = 0
one_page (Some page) = 1

-- how many of n chunks of an object, from chunk k on, have a page
abbrev pub count_pages : PageMap → ℕ → ℕ → ℕ → ℕ
count_pages m o k zero = 0
count_pages m o k (suc n) = count_pages m o k n + one_page (m o (k + n))

-- the page has the bytes of chunk k, and zeros where the file has none
pub record HoldsChunk (d : ℕ) (bytes : List ℕ) (k : ℕ) (page : List ℕ) : Type 0 where
  pub size : length page ≡ d
  pub each : (j : ℕ) → j < d → slice_index page j ≡ slice_index bytes (k * d + j)

-- each of the pages that is of a chunk of bytes holds it
abbrev pub HoldChunks : ℕ → List ℕ → List FreshPage → Type 0
HoldChunks d bytes pages = (i k : ℕ) (p : FreshPage) → slice_get pages i ≡ Some p → p.key.chunk ≡ 1 + k → HoldsChunk d bytes k p.bytes.items

-- the page, which is as long as a page of the store, has the bytes of chunk k, and zeros where the file has none
abbrev pub HoldsChunkIn : PagesState → List ℕ → ℕ → Vec ℕ → Type 0
HoldsChunkIn p bytes k page = HoldsChunk p.page_bytes bytes k page.items

-- each of the pages that is of a chunk of bytes holds it so
abbrev pub HoldChunksIn : PagesState → List ℕ → Vec FreshPage → Type 0
HoldChunksIn p bytes pages = HoldChunks p.page_bytes bytes pages.items

-- the pages are of these chunks of the object, one of each
pub record AreOf (o : ℕ) (IsOne : ℕ → Type 0) (pages : List FreshPage) : Type 0 where
  pub each : (i : ℕ) (p : FreshPage) → slice_get pages i ≡ Some p → (p.key.object ≡ o) × IsOne p.key.chunk
  pub all : (c : ℕ) → IsOne c → (i : ℕ) × IsPageOf pages o c i
  pub apart : AreApart pages

-- The last chunk of a file of this length, where it is present, partly used, and before chunk k.
pub record IsTail (d len : ℕ) (bits : List ℕ) (k c : ℕ) : Type 0 where
  pub chunk : c ≡ 1 + len / d
  pub partly : 1 ≤ len % d
  pub before : len / d < k
  pub there : is_present bits c ≡ true

-- the chunk is one of those from k on, before chunk n
pub record IsAmong (k n c : ℕ) : Type 0 where
  pub from : k < c
  pub to : c ≤ n

-- the chunk of a place, numbered from 0
abbrev pub first_chunk : ℕ → ℕ → ℕ
first_chunk d off = off / d

-- the chunk behind that of the last of n bytes from a place on
abbrev pub end_chunk : ℕ → ℕ → ℕ → ℕ
end_chunk d off n = (off + n - 1) / d + 1

-- this holds where n bytes from a place on go over the whole of chunk k
abbrev pub IfNoneStays : PagesState → ℕ → ℕ → ℕ → Type 0 → Type 0
IfNoneStays p k off n A = off ≤ k * p.page_bytes → k * p.page_bytes + p.page_bytes ≤ off + n → A

-- this holds of a sound store, where chunk k has a byte before n bytes from a place on, or behind them
abbrev pub IfPartStays : PagesState → ℕ → ℕ → ℕ → Type 0 → Type 0
IfPartStays p k off n A = p.sound ≡ true → (k * p.page_bytes < off) ⊎ (off + n < k * p.page_bytes + p.page_bytes) → A

-- chunk c has a byte from one place on and before another
pub record HasByte (d from end c : ℕ) : Type 0 where
  pub place : ℕ
  pub least : from ≤ place
  pub most : place < end
  pub chunk : c ≡ 1 + place / d

-- it has such a byte, and one that lies before or behind these
pub record IsSplit (d from end c : ℕ) : Type 0 where
  pub inside : HasByte d from end c
  pub place : ℕ
  pub chunk : c ≡ 1 + place / d
  pub outside : (place < from) ⊎ (end ≤ place)

-- the last chunk of so many bytes, which do not fill it
pub record IsPartLast (d len c : ℕ) : Type 0 where
  pub chunk : c ≡ 1 + len / d
  pub partly : 1 ≤ len % d

-- A chunk of which a write of n bytes keeps a part: it goes over some of its bytes and not over others, or a file of this
-- length, whose last chunk it is, grows past it.
abbrev pub IsPartCommitted : ℕ → ℕ → ℕ → ℕ → ℕ → Type 0
IsPartCommitted d len off n c = IsSplit d off (off + n) c ⊎ ((1 ≤ n) × (len < off) × IsPartLast d len c)

-- the chunks of which a write into the chunks from k on has made pages when it comes to chunk n
abbrev pub IsWritten : ℕ → ℕ → List ℕ → ℕ → ℕ → ℕ → Type 0
IsWritten d len bits k n c = IsTail d len bits k c ⊎ IsAmong k n c

-- the bytes with others over them from a place on, where there is room for these
abbrev pub overwritten : List ℕ → ℕ → List ℕ → List ℕ
overwritten xs at bytes = take at xs ++ (bytes ++ drop (at + length bytes) xs)
