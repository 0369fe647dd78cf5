-- What a volume can have of a folder.
use Rattle.std.specs.Prelude.{◌≤◌, ℕ, length, All}
use Rattle.volume_terms.specs.Names.{IsName}
use Rattle.volume_terms.specs.Sizes.{path_limit}
use Rattle.image_tools.specs.Folders.{Held, FileOf, DirectoryOf, LinkTo, Entry}

-- a file of so many bytes at most, a directory of names, or a link
abbrev pub CanHold : ℕ → Held → Type 0
CanHold greatest (FileOf bytes) = length bytes ≤ greatest
CanHold greatest (DirectoryOf names) = All IsName names
CanHold greatest (LinkTo path) = Unit {0}

-- a volume with files of so many bytes at most can have the entry
pub record CanHave (greatest : ℕ) (entry : Entry) : Type 0 where
  pub path : length entry.path ≤ path_limit
  pub holds : CanHold greatest entry.held
