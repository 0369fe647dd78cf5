-- The copies of pages that a scan lists.
use Rattle.std.specs.Prelude.{◌<◌, ◌≤◌, ℕ, ◌^◌, List, map}
use Rattle.page_tags.specs.declared.check.CheckEntry.{CheckEntry}
use Rattle.flash_tree.specs.Newest.{Spot}
use Rattle.flash_tree.specs.Places.{spot_of, ComesBefore}
use Rattle.flash_tree.specs.declared.place.Found.{Found}
use Rattle.mount_scan.specs.declared.page_copy.PageCopy.{PageCopy}

-- the copy at a place with a tag
abbrev pub copy_at : Spot → PageCopy
copy_at s = record { object = s.tag.object; chunk = s.tag.chunk; version = s.tag.version; seq = s.tag.seq; block = s.block; page = s.page }

-- the copy of a page that was found
abbrev pub copy_of : Found → PageCopy
copy_of f = copy_at (spot_of f)

-- the copy has an object and a version that a valid tag may have
abbrev pub HasValidName : PageCopy → Type 0
HasValidName f = (1 ≤ f.object) × (f.object < 2 ^ 64) × (1 ≤ f.version)

-- the page has a chunk that a tree may look up, a place that a device may have, and an object and a version that a valid tag may have
abbrev pub FitsCopy : Found → Type 0
FitsCopy f = (f.tag.chunk < 2 ^ 32) × (f.block < 2 ^ 16) × (f.page < 2 ^ 16) × HasValidName (copy_of f)

-- the place of a copy with what its tag is known to be: its index, count and group are 0 here, since no order of copies depends on them
abbrev pub spot_of_copy : PageCopy → Spot
spot_of_copy f = record { block = f.block; page = f.page; tag = record { index = 0; count = 0; object = f.object; chunk = f.chunk; version = f.version; group = 0; seq = f.seq } }

-- the key of one copy comes before that of another
abbrev pub IsKeyBefore : PageCopy → PageCopy → Type 0
IsKeyBefore f g = ComesBefore f.object f.chunk g.object g.chunk

-- the page that an entry of a summary names, with what its tag is known to be: its index, count and group are 0 here
abbrev pub page_named : (seq : ℕ) → CheckEntry → Found
page_named seq e = record { block = e.block; page = e.page; tag = record { index = 0; count = 0; object = e.object; chunk = e.chunk; version = e.version; group = 0; seq = seq } }

-- the pages that some entries name
abbrev pub pages_named : (seq : ℕ) → List CheckEntry → List Found
pages_named seq entries = map (page_named seq) entries
