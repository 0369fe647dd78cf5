-- The reading of a file's bytes into a buffer.
use Rattle.std.specs.Prelude.{◌≡◌, ◌≤◌, ◌+◌, ◌-◌, ◌/◌, ℕ, List, length, take, drop, min}
use Rattle.volume_terms.specs.Sizes.{Sizes}
use Rattle.pages.specs.State.{PagesState}
use Rattle.file_io.specs.Chunks.{chunks_over, one_page, count_pages, overwritten}
use Rattle.file_io.specs.Files.{FileIn}
use Rattle.file_io.specs.Parts.{part_from, part_of}

-- how many bytes are read: as many as a file of this length has from a place on, and the buffer has room for
abbrev pub read_count : List ℕ → ℕ → ℕ → ℕ
read_count buffer len off = min (length buffer) (len - off)

-- so many bytes of the buffer are now the file's from a place on, which are no more than it has room for
abbrev pub HasRead : List ℕ → ℕ → List ℕ → List ℕ → ℕ → Type 0
HasRead bytes off old new count = take count new ≡ take (length old) (drop off bytes)

-- the buffer, which begins with the byte at a place, with the file's bytes of chunk k from that place on and before `end`
abbrev pub filled : {p : PagesState} {z : Sizes} {o moment : ℕ} {bytes : List ℕ} → FileIn p z o moment bytes → ℕ → ℕ → ℕ → List ℕ → List ℕ
filled {z = z} {bytes = bytes} f k off end buffer = overwritten buffer (part_from z.page_bytes k off - off) (part_of z.page_bytes k off end bytes)

-- at most as many pages were looked up as the chunks over which n bytes from a place on extend
abbrev pub IssuesForChunks : PagesState → PagesState → ℕ → ℕ → Type 0
IssuesForChunks old new off n = new.issued ≤ old.issued + chunks_over old.page_bytes off n

-- at most the page of chunk c was wanted for, and none where it has none
abbrev pub IssuesForPage : PagesState → PagesState → ℕ → ℕ → Type 0
IssuesForPage old new o c = new.issued ≤ old.issued + one_page (old.present o c)

-- at most those pages were looked up that the chunks have over which n bytes from a place on extend
abbrev pub IssuesForPages : PagesState → PagesState → ℕ → ℕ → ℕ → Type 0
IssuesForPages old new o off n = new.issued ≤ old.issued + count_pages old.present o (1 + off / old.page_bytes) (chunks_over old.page_bytes off n)
