-- What objects the pages of a store hold.
use Rattle.std.specs.Prelude.{◌≡◌, ℕ, true, List, Option, Some, None}
use Rattle.std.specs.FinMap as map
use Rattle.flash_tree.specs.Tree.{ReadsFile, ReadsDir}
use Rattle.volume_terms.specs.Sizes.{Sizes, root_number}
use Rattle.posix_profile.specs.State.{Entries, Object, File, Dir, Objects}
use Rattle.pages.specs.Maps.{PageMap, has}
use Rattle.pages.specs.State.{PagesState}
use Rattle.directories.specs.Directories as directories
use Rattle.file_io.specs.Files as files

-- the object is this file, and has no page but its header and the chunks that this names
pub record HoldsFile (z : Sizes) (m : PageMap) (o moment : ℕ) (bytes : List ℕ) : Type 0 where
  pub reads : ReadsFile z (has m) o moment bytes
  pub only : files.HasOnly m o reads.fields

-- the object is this directory, and has no page behind its slots; the root's header says how many spare blocks the volume has
pub record HoldsDirectory (z : Sizes) (m : PageMap) (o moment : ℕ) (entries : Entries) : Type 0 where
  pub reads : ReadsDir z (has m) o moment entries
  pub only : directories.HasOnly z m o (map.len entries)
  pub spare : o ≡ root_number → reads.fields.spare ≡ z.spare_blocks

-- the pages of this number are those of its object; where there is none it has no page
abbrev pub HoldsObject : Sizes → PageMap → ℕ → Option Object → Type 0
HoldsObject z m o None = (c : ℕ) → m o c ≡ None
HoldsObject z m o (Some (File moment bytes)) = HoldsFile z m o moment bytes
HoldsObject z m o (Some (Dir moment entries)) = HoldsDirectory z m o moment entries

-- the pages are those of these objects, and no others
pub record HoldsObjects (z : Sizes) (m : PageMap) (objects : Objects) : Type 0 where
  pub each : (o : ℕ) → HoldsObject z m o (map.get objects o)

-- a sound store with pages of this size holds these objects
pub record HoldsIn (p : PagesState) (z : Sizes) (objects : Objects) : Type 0 where
  pub sound : p.sound ≡ true
  pub size : z.page_bytes ≡ p.page_bytes
  pub holds : HoldsObjects z p.present objects
