-- A directory of objects whose names an index holds.
use Rattle.std.specs.Prelude.{ℕ}
use Rattle.name_index.specs.declared.index.NameIndex.{NameIndex}
use Rattle.volume_terms.specs.Sizes.{Sizes}
use Rattle.posix_profile.specs.State.{Objects, IsDirectory}
use Rattle.pages.specs.State.{PagesState}
use Rattle.directories.specs.Named.{NamedIn}
use Rattle.paged_objects.specs.Naming.{HoldsNamed}
use Rattle.paged_objects.specs.laws.Holding.{directory_in}

abbrev pub named_in : (names : NameIndex) (p : PagesState) (z : Sizes) (objects : Objects) → HoldsNamed names p z objects → (d : ℕ) (dir : IsDirectory objects d) → NamedIn names p z d dir.0 dir.1
named_in names p z objects n d dir =
    let here = directory_in p z objects n.holds d dir in
    record { sound = here.sound; size = here.size; reads = here.reads; hashes = n.hashes d dir }
