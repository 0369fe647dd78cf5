-- Directories whose names an index holds, and what a look-up through it reports.
use Rattle.std.specs.Prelude.{◌≡◌, ◌≢◌, ◌<◌, ◌≤◌, ◌+◌, ℕ, true, List, length, Option, Some, None, Result, IfOk, slice_get}
use Rattle.std.specs.FinMap as map
use Rattle.flash_tree.specs.Tree.{ReadsDir}
use Rattle.page_tags.specs.Slots.{Entry}
use Rattle.volume_terms.specs.Sizes.{Sizes}
use Rattle.posix_profile.specs.State.{Entries}
use Rattle.name_index.specs.Covering.{HasHashes}
use Rattle.name_index.specs.Hashes.{fnv1a}
use Rattle.name_index.specs.Names.{Holds}
use Rattle.name_index.specs.declared.index.NameIndex.{NameIndex}
use Rattle.pages.specs.Maps.{has}
use Rattle.pages.specs.State.{PagesState}
use Rattle.directories.specs.Directories.{SlotOf}
use Rattle.directories.specs.Heads.{IsHeadOf, IsHeaded, SaysHead}
use Rattle.directories.specs.Slots.{IsLocated}
use Rattle.directories.specs.declared.lookup.Located.{Located}
use Rattle.directories.specs.declared.seeking.Sought.{Sought}

-- the object is this directory, in a sound store with pages of this size, and the index has the hash of each of its names
pub record NamedIn (names : NameIndex) (p : PagesState) (z : Sizes) (o moment : ℕ) (entries : Entries) : Type 0 where
  pub sound : p.sound ≡ true
  pub size : z.page_bytes ≡ p.page_bytes
  pub reads : ReadsDir z (has p.present) o moment entries
  pub hashes : HasHashes names z p.present o (map.len entries)

-- the slot is held under the hash of the name
abbrev pub IsHeld : NameIndex → ℕ → List ℕ → ℕ → Type 0
IsHeld names directory name slot = Holds names directory (fnv1a name) slot

-- each of the slots is held under the hash of the name, and none is there twice in the list
pub record AreHeld (names : NameIndex) (directory : ℕ) (name slots : List ℕ) : Type 0 where
  pub held : (i s : ℕ) → slice_get slots i ≡ Some s → IsHeld names directory name s
  pub once : (i j s : ℕ) → slice_get slots i ≡ Some s → slice_get slots j ≡ Some s → i ≡ j

-- no more pages are looked up than slots are held under the name's hash, each once
abbrev pub IssuesHeld : NameIndex → ℕ → List ℕ → ℕ → ℕ → Type 0
IssuesHeld names directory name old new = (slots : List ℕ) × AreHeld names directory name slots × (new ≤ old + length slots)

-- six pages are looked up, and no more besides than the one relation and then the other allow
abbrev pub IssuesBoth : (ℕ → ℕ → Type 0) → (ℕ → ℕ → Type 0) → PagesState → PagesState → Type 0
IssuesBoth R S old new = (mid : ℕ) × R (old.issued + 6) mid × S mid new.issued

-- where a name is among so many slots; or of those that may have it, each has another
abbrev pub FindsHeld : (ℕ → Type 0) → (ℕ → Entry → Type 0) → ℕ → List ℕ → Option Located → Type 0
FindsHeld held at to name None = (i : ℕ) → i < to → held i → (e : Entry) × at i e × (e.name ≢ name)
FindsHeld held at to name (Some found) = IsLocated at 0 to name found

-- the name leads to the object from one of so many slots; or of those that may have it, each has another
abbrev pub LeadsHeld : (ℕ → Type 0) → (ℕ → Entry → Type 0) → ℕ → List ℕ → Option ℕ → Type 0
LeadsHeld held at count name None = (i : ℕ) → i < count → held i → (e : Entry) × at i e × (e.name ≢ name)
LeadsHeld held at count name (Some object) = (i : ℕ) × (i < count) × ((e : Entry) × at i e × (e.name ≡ name) × (object ≡ e.object))

-- what is reported of a name is what the header says, and the slots that the index has under its hash
abbrev pub ReportsHeld : NameIndex → Sizes → PagesState → ℕ → List ℕ → Option ℕ → Type 0
ReportsHeld names z p d name found = (h : IsHeaded p d) × LeadsHeld (IsHeld names d name) (SlotOf z p.present d) h.fields.length name found

-- there is a change exactly where they say that the name is there
abbrev pub ReportsHeldChange : {A : Type 0} → NameIndex → Sizes → PagesState → ℕ → List ℕ → Option A → Type 0
ReportsHeldChange names z p d name None = ReportsHeld names z p d name None
ReportsHeldChange names z p d name (Some change) = (object : ℕ) × ReportsHeld names z p d name (Some object)

-- the slots are those of the entries: the name is in this one of them and leads to its object, or it is none of the entries
abbrev pub IsFoundAt : List Entry → Entries → List ℕ → Option Located → Type 0
IsFoundAt slots entries name None = map.get entries name ≡ None
IsFoundAt slots entries name (Some found) = (e : Entry) × (slice_get slots found.place ≡ Some e) × (e.name ≡ name) × (found.object ≡ e.object)

-- what was sought in a directory: its header, and where the name is
pub record IsSought (z : Sizes) (p : PagesState) (o : ℕ) (name : List ℕ) (sought : Sought) (moment : ℕ) (entries : Entries) (r : ReadsDir z (has p.present) o moment entries) : Type 0 where
  pub head : IsHeadOf sought.head r.fields
  pub found : IsFoundAt r.slots entries name sought.found

-- what was sought in the directory that the object is, of whose names the index has the hashes, is its header, and where the name is
abbrev pub IsSoughtIn : {E : Type 0} → NameIndex → PagesState → ℕ → List ℕ → Result Sought E → Type 0
IsSoughtIn names p o name result =
    (z : Sizes) (moment : ℕ) (entries : Entries) (d : NamedIn names p z o moment entries) → IfOk result (λ sought. IsSought z p o name sought moment entries d.reads)

-- what is reported of it, whatever is there
abbrev pub ReportsSought : NameIndex → Sizes → PagesState → ℕ → List ℕ → Sought → Type 0
ReportsSought names z p d name sought = SaysHead p d sought.head × FindsHeld (IsHeld names d name) (SlotOf z p.present d) sought.head.length name sought.found
