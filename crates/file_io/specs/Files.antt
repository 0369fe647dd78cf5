-- A file of a store's pages, and what a change makes of it.
use Rattle.std.specs.Prelude.{◌≡◌, ◌⊎◌, ◌<◌, ◌≤◌, ℕ, true, false, List, [], Some, None}
use Rattle.page_tags.specs.Headers.{Fields, IsHeader, header_bytes, is_present}
use Rattle.page_tags.specs.declared.header.ObjectKind.TheVariants as kinds
use Rattle.flash_tree.specs.Tree.{ReadsFile}
use Rattle.volume_terms.specs.Sizes.{Sizes}
use Rattle.pages.specs.Maps.{PageMap, has}
use Rattle.pages.specs.State.{PagesState}
use Rattle.flash_tree.specs.declared.place.FreshPage.{FreshPage}
use Rattle.file_io.specs.Chunks.{IsAmong, IsPartCommitted, IsPartLast}

-- the object is this file, in a sound store with pages of this size
pub record FileIn (p : PagesState) (z : Sizes) (o moment : ℕ) (bytes : List ℕ) : Type 0 where
  pub sound : p.sound ≡ true
  pub size : z.page_bytes ≡ p.page_bytes
  pub reads : ReadsFile z (has p.present) o moment bytes

-- this holds of the object, if it is a file in a sound store: by the sizes, the moment of its last change, its bytes, and that it is this file
abbrev pub OfFile : (p : PagesState) (o : ℕ) → ((z : Sizes) (moment : ℕ) (bytes : List ℕ) → FileIn p z o moment bytes → Type 0) → Type 0
OfFile p o A = (z : Sizes) (moment : ℕ) (bytes : List ℕ) (f : FileIn p z o moment bytes) → A z moment bytes f

-- the page of the object's chunk 0 is the header of a file
pub record HasFileHeader (p : PagesState) (o : ℕ) : Type 0 where
  pub fields : Fields
  pub there : p.present o 0 ≡ Some (header_bytes fields)
  pub valid : IsHeader p.page_bytes fields
  pub kind : fields.kind ≡ kinds.File

-- each of these chunks that the bits name has a page
abbrev pub HasPages : PageMap → ℕ → List ℕ → (ℕ → Type 0) → Type 0
HasPages m o bits IsOne = (c : ℕ) → IsOne c → is_present bits c ≡ true → (page : List ℕ) × (m o c ≡ Some page)

-- the last chunk, if its bytes do not fill it and the header names it, has a page
abbrev pub HasLastPage : PagesState → ℕ → Fields → Type 0
HasLastPage p o f = HasPages p.present o f.bits (IsPartLast p.page_bytes f.length)

-- each chunk that the header names, and of which a write of n bytes from a place on keeps a part, has a page
abbrev pub HasCommittedPages : PagesState → ℕ → Fields → ℕ → ℕ → Type 0
HasCommittedPages p o f off n = HasPages p.present o f.bits (IsPartCommitted p.page_bytes f.length off n)

-- the object has the header of a file, and the pages of which such a write keeps a part
abbrev pub HasForWrite : PagesState → ℕ → ℕ → ℕ → Type 0
HasForWrite p o off n = (h : HasFileHeader p o) × HasCommittedPages p o h.fields off n

-- the object has the header of a file, and if it is to grow to this length, the page of its last chunk
abbrev pub HasForLength : PagesState → ℕ → ℕ → Type 0
HasForLength p o len = (h : HasFileHeader p o) × (h.fields.length < len → HasLastPage p o h.fields)

-- with the page at its chunk 0, the object is a file of no bytes
abbrev pub IsEmptyFile : Sizes → PageMap → ℕ → ℕ → FreshPage → Type 0
IsEmptyFile z m o moment page = m o 0 ≡ Some page.bytes.items → ReadsFile z (has m) o moment []

-- the object has no chunk besides those that the header names
abbrev pub HasOnly : PageMap → ℕ → Fields → Type 0
HasOnly m o f = (c : ℕ) → 1 ≤ c → is_present f.bits c ≡ false → m o c ≡ None

-- this holds of the object, if it is a file as above and has no chunk besides those that its header names
abbrev pub OfFileOnly : (p : PagesState) (o : ℕ) → ((z : Sizes) (moment : ℕ) (bytes : List ℕ) → FileIn p z o moment bytes → Type 0) → Type 0
OfFileOnly p o A = (z : Sizes) (moment : ℕ) (bytes : List ℕ) (f : FileIn p z o moment bytes) → HasOnly p.present o f.reads.fields → A z moment bytes f

-- The object is this file in the new pages, where it was one with the header f in the old. Of the chunks from `first` on
-- and before `end` there are pages now, of others only where there were; and the header names all chunks, if it did before.
pub record Becomes (z : Sizes) (old new : PageMap) (o : ℕ) (f : Fields) (first end moment : ℕ) (bytes : List ℕ) : Type 0 where
  pub reads : ReadsFile z (has new) o moment bytes
  pub written : (c : ℕ) → IsAmong first end c → is_present reads.fields.bits c ≡ true
  pub others : (c : ℕ) → 1 ≤ c → is_present reads.fields.bits c ≡ true → (is_present f.bits c ≡ true) ⊎ IsAmong first end c
  pub only : HasOnly old o f → HasOnly new o reads.fields
