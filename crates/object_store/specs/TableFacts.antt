-- What the table keeps of an object.
use Rattle.std.specs.Prelude.{◌≡◌, ℕ, ◌+◌, ◌-◌, ◌^◌, min, max, List, length, Option, Some, None}
use Rattle.std.specs.FinMap as map
use Rattle.volume_terms.specs.Sizes.{Sizes, page_slots}
use Rattle.volume_terms.specs.Rounding.{ceiling}
use Rattle.posix_profile.specs.State.{Name, Object, File, Dir, Objects}
use Rattle.posix_profile.specs.Names.{Names}
use Rattle.posix_profile.specs.NameSteps.{reported_size}
use Rattle.posix_profile.specs.declared.reply.Kind.{Kind}
use Rattle.posix_profile.specs.declared.reply.Kind.TheVariants as kinds
use Rattle.posix_profile.specs.declared.reply.Info.{Info}
use Rattle.posix_profile.specs.laws.Link.{Lists, IsSubdirectory}
use Rattle.object_store.specs.Facts.{NamedBy}
use Rattle.object_store.specs.declared.table_facts.ObjectFacts.{ObjectFacts}
use Rattle.object_store.specs.declared.edit.Edit.{Edit}
use Rattle.object_store.specs.declared.edit.Edit.TheVariants as edits

-- the links of an object without names or content
abbrev pub fresh_links : Kind → ℕ
fresh_links kinds.File = 0
fresh_links kinds.Directory = 2

-- an object without names or content
abbrev pub fresh_facts : Kind → ℕ → ObjectFacts
fresh_facts kind moment = record { kind = kind; moment = moment; links = fresh_links kind; size = 0; parent = None }

-- an object without a name, of so many bytes where it is a file, and else without entries
abbrev pub bare_facts : Kind → ℕ → ℕ → ObjectFacts
bare_facts kinds.File moment n = record { kind = kinds.File; moment = moment; links = 0; size = n; parent = None }
bare_facts kinds.Directory moment n = fresh_facts kinds.Directory moment

-- what a unit of an object's size is: the bytes of a page, or its slots
abbrev pub unit_of : Sizes → Kind → ℕ
unit_of z kinds.File = z.page_bytes
unit_of z kinds.Directory = page_slots z

-- the units that an object with these facts costs
abbrev pub facts_cost : Sizes → ObjectFacts → ℕ
facts_cost z f = 1 + ceiling f.size (unit_of z f.kind)

-- what is reported of an object with these facts
abbrev pub reported_info : ℕ → ObjectFacts → Info
reported_info o f = record { kind = f.kind; object = o; links = f.links; size = reported_size f.kind f.size; moment = f.moment }

-- one more, as far as numbers of 64 bits go
abbrev pub one_more : ℕ → ℕ
one_more n = min (n + 1) (2 ^ 64 - 1)

-- the links of a directory after an object of this kind comes into it
abbrev pub links_with : Kind → ℕ → ℕ
links_with kinds.File n = n
links_with kinds.Directory n = one_more n

-- the links of a directory after an object of this kind leaves it
abbrev pub links_without : Kind → ℕ → ℕ
links_without kinds.File n = n
links_without kinds.Directory n = n - 1

-- a directory with an entry more, which leads to an object of this kind
abbrev pub entry_added : Kind → ℕ → ObjectFacts → ObjectFacts
entry_added child moment f = record { kind = f.kind; moment = moment; links = links_with child f.links; size = one_more f.size; parent = f.parent }

-- a directory with an entry less, which led to an object of this kind
abbrev pub entry_removed : Kind → ℕ → ObjectFacts → ObjectFacts
entry_removed child moment f = record { kind = f.kind; moment = moment; links = links_without child f.links; size = f.size - 1; parent = f.parent }

-- an object of this kind with a name more, in this directory: a file has a link more
abbrev pub name_added : Kind → ℕ → ObjectFacts → ObjectFacts
name_added kinds.File directory f = record { kind = f.kind; moment = f.moment; links = one_more f.links; size = f.size; parent = f.parent }
name_added kinds.Directory directory f = record { kind = f.kind; moment = f.moment; links = f.links; size = f.size; parent = Some directory }

-- an object of this kind with a name less
abbrev pub name_removed : Kind → ObjectFacts → ObjectFacts
name_removed kinds.File f = record { kind = f.kind; moment = f.moment; links = f.links - 1; size = f.size; parent = f.parent }
name_removed kinds.Directory f = record { kind = f.kind; moment = f.moment; links = f.links; size = f.size; parent = None }

-- an object of another size
abbrev pub resized_facts : ℕ → ℕ → ObjectFacts → ObjectFacts
resized_facts size moment f = record { kind = f.kind; moment = moment; links = f.links; size = size; parent = f.parent }

-- the facts after an edit
abbrev pub edited : Edit → ObjectFacts → ObjectFacts
edited (edits.EntryAdded child moment) f = entry_added child moment f
edited (edits.EntryRemoved child moment) f = entry_removed child moment f
edited (edits.NameAdded directory) f = name_added f.kind directory f
edited edits.NameRemoved f = name_removed f.kind f
edited (edits.Resized size moment) f = resized_facts size moment f
edited (edits.Lengthened size moment) f = resized_facts (max f.size size) moment f

-- The facts are of a file that is there: its moment and length, and as many links as it has names.
pub record IsFileFacts (objects : Objects) (o stamp length' : ℕ) (f : ObjectFacts) : Type 0 where
  pub kind : f.kind ≡ kinds.File
  pub moment : f.moment ≡ stamp
  pub size : f.size ≡ length'
  pub links : (pairs : List (ℕ × Name)) × Lists (λ pair. Names objects pair.0 pair.1 o) pairs × (f.links ≡ length pairs)

-- The facts are of a directory that is there: its moment, how many entries it has, a link for each directory in it above 2, and the directory that names it.
pub record IsDirectoryFacts (objects : Objects) (o stamp entries : ℕ) (f : ObjectFacts) : Type 0 where
  pub kind : f.kind ≡ kinds.Directory
  pub moment : f.moment ≡ stamp
  pub size : f.size ≡ entries
  pub links : (children : List ℕ) × Lists (IsSubdirectory objects o) children × (f.links ≡ 2 + length children)
  pub parent : NamedBy objects o f.parent

-- the facts are of this object
abbrev pub AreFactsOf : Objects → ℕ → Object → ObjectFacts → Type 0
AreFactsOf objects o (File moment bytes) f = IsFileFacts objects o moment (length bytes) f
AreFactsOf objects o (Dir moment entries) f = IsDirectoryFacts objects o moment (map.len entries) f

-- there are facts exactly where there is an object, and they are of it
abbrev pub IsStated : Objects → ℕ → Option Object → Option ObjectFacts → Type 0
IsStated objects o None None = Unit {0}
IsStated objects o None (Some f) = ⊥
IsStated objects o (Some x) None = ⊥
IsStated objects o (Some x) (Some f) = AreFactsOf objects o x f
