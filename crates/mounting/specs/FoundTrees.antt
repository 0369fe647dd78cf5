-- A tree that was found in the pages of a map.
use Rattle.std.specs.Prelude.{◌≡◌, ◌≤◌, ◌+◌, ℕ, true}
use Rattle.nand_model.specs.Calls.{Device}
use Rattle.nand_model.specs.declared.geometry.Geometry.{Geometry}
use Rattle.flash_tree.specs.Mount.{IsVolume, sizes_of}
use Rattle.chunk_index.specs.declared.index.Index.{Index}
use Rattle.page_store.specs.Shown.{committed_data}
use Rattle.pages.specs.Maps.{PageMap, has}
use Rattle.pages.specs.State.{PagesState}
use Rattle.tree_walk.specs.Hashes.{CoversTree}
use Rattle.tree_walk.specs.Trees.{tree_pages}
use Rattle.tree_walk.specs.declared.fault.RootFault.{RootFault}
use Rattle.mounting.specs.TreeAnswers.{WhyNoTree}
use Rattle.mounting.specs.Trees.{IsGoneThrough}
use Rattle.mounting.specs.declared.tree.FoundTree.{FoundTree}

-- the pages that an index keeps on a device
abbrev pub committed_on : Device → Index → PageMap
committed_on device x = committed_data x device.flash

-- the tree was gone through wholly
abbrev pub IsFoundIn : Geometry → PageMap → FoundTree → Type 0
IsFoundIn g m found = IsGoneThrough g (has m) found.spare found.tree

-- the index has the hashes of its names
abbrev pub HasNamesIn : Geometry → PageMap → FoundTree → Type 0
HasNamesIn g m found = CoversTree found.names (sizes_of g found.spare) m found.tree

-- why none was gone through
abbrev pub WhyNoneIn : Geometry → PageMap → RootFault → Type 0
WhyNoneIn g m fault = WhyNoTree g (has m) fault

-- what is said of a sound store with pages of a device's size
abbrev pub OfSized : Geometry → PagesState → Type 0 → Type 0
OfSized g p A = p.sound ≡ true → g.bytes ≡ p.page_bytes → A

-- at most the pages of the tree's headers and slots were looked up
abbrev pub IssuesForTree : Geometry → PagesState → PagesState → FoundTree → Type 0
IssuesForTree g old new found = new.issued ≤ old.issued + tree_pages (sizes_of g found.spare) found.tree

-- the pages are those of a volume, and then this is why none was gone through
abbrev pub IsWhyBelow : Geometry → PageMap → RootFault → Type 0
IsWhyBelow g m fault = (spare : ℕ) → IsVolume g (has m) spare → WhyNoneIn g m fault
