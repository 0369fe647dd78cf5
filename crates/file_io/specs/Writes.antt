-- The change of a file's bytes.
use Rattle.std.specs.Prelude.{◌≡◌, ◌<◌, ◌≤◌, ◌+◌, ◌-◌, ◌/◌, ◌%◌, ◌^◌, ℕ, true, List, length, min}
use Rattle.page_tags.specs.Headers.{is_present}
use Rattle.posix_profile.specs.Changes.{resized, written}
use Rattle.volume_terms.specs.Sizes.{Sizes}
use Rattle.flash_tree.specs.declared.place.FreshPage.{FreshPage}
use Rattle.pages.specs.Changes.{IsChange}
use Rattle.pages.specs.Maps.{IsPageOf, after_change}
use Rattle.pages.specs.State.{PagesState}
use Rattle.pages.specs.declared.change.Change.{Change}
use Rattle.file_io.specs.Chunks.{IsAmong, IsWritten, end_chunk, first_chunk}
use Rattle.file_io.specs.Files.{Becomes, FileIn}
use Rattle.file_io.specs.Heads.{bits_in}
use Rattle.file_io.specs.declared.file_head.FileHead.{FileHead}

-- at most so many pages of the store's size, and each of a key of its own
abbrev pub IsChangeIn : PagesState → ℕ → Change → Type 0
IsChangeIn p most change = IsChange change p.page_bytes most

-- some bytes are written, all of them before place 2^32
pub record IsSmallWrite (off n : ℕ) : Type 0 where
  pub some : 1 ≤ n
  pub small : off + n < 2 ^ 32

-- no page is of the object's chunk 0
abbrev pub HasNoHeader : ℕ → Change → Type 0
HasNoHeader o change = (i : ℕ) → IsPageOf change.pages.items o 0 i → ⊥

-- After the change the object is the file with this length, with zeros where it grew, changed at this moment. Its header names no chunk that
-- it did not name before.
abbrev pub MakesLength : {p : PagesState} {z : Sizes} {o before : ℕ} {all : List ℕ} → FileIn p z o before all → ℕ → ℕ → Change → Type 0
MakesLength {p = p} {z = z} {o = o} {all = all} f len moment change = Becomes z p.present (after_change change p.present) o f.reads.fields 0 0 moment (resized all len)

-- After the change the object is the file with these bytes over it from a place on, changed at this moment. Its header names each chunk that
-- the bytes go over, and of others none that it did not name before.
abbrev pub MakesWritten : {p : PagesState} {z : Sizes} {o before : ℕ} {all : List ℕ} → FileIn p z o before all → ℕ → List ℕ → ℕ → Change → Type 0
MakesWritten {p = p} {z = z} {o = o} {all = all} f off bytes moment change =
    Becomes z p.present (after_change change p.present) o f.reads.fields (first_chunk z.page_bytes off) (end_chunk z.page_bytes off (length bytes)) moment (written all off bytes)

-- this holds where a write of n bytes from a place on changes nothing that the header says: at the moment of the last change, within the
-- file, and over chunks that the header names
abbrev pub IfHeaderStays : {p : PagesState} {z : Sizes} {o before : ℕ} {all : List ℕ} → FileIn p z o before all → ℕ → ℕ → ℕ → Type 0 → Type 0
IfHeaderStays {z = z} {before = before} {all = all} f moment off n A =
    moment ≡ before → off + n ≤ length all
    → ((c : ℕ) → IsAmong (first_chunk z.page_bytes off) (end_chunk z.page_bytes off n) c → is_present f.reads.fields.bits c ≡ true) → A

-- the chunk is one of which such a write makes a page: the bytes go over it, or it is the last one and has bytes past the end to clear
abbrev pub IsWrittenBy : PagesState → FileHead → ℕ → ℕ → ℕ → Type 0
IsWrittenBy p head off n c = IsWritten p.page_bytes head.length (bits_in head) (first_chunk p.page_bytes off) (end_chunk p.page_bytes off n) c

-- the pages are at most one more than the chunks over which n bytes from a place on extend
abbrev pub AreFewOver : PagesState → ℕ → ℕ → List FreshPage → Type 0
AreFewOver p off n pages = length pages + off / p.page_bytes ≤ (off + n - 1) / p.page_bytes + 2

-- so many, and one more for each chunk of which a write of n bytes from a place on may keep a part: the last one of a file of this length,
-- if that ends before it, and the first and the last that it goes over
abbrev pub with_parts : ℕ → ℕ → ℕ → ℕ → ℕ → ℕ
with_parts d len off n count = count + min 1 (off - len) + min 1 (off % d) + min 1 ((off + n) % d)

-- at most the header and these pages were looked up, by a write of n bytes from a place on into the file
abbrev pub IssuesForWrite : {p : PagesState} {z : Sizes} {o before : ℕ} {all : List ℕ} → FileIn p z o before all → PagesState → ℕ → ℕ → Type 0
IssuesForWrite {p = p} {z = z} {all = all} f new off n = new.issued ≤ with_parts z.page_bytes (length all) off n (p.issued + 1)
