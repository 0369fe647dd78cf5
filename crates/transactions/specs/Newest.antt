-- What becomes of newest pages where a group is written.
use Rattle.std.specs.Prelude.{◌≡◌, ◌⊎◌, ◌<◌, ℕ, List, Result, Ok, Err}
use Rattle.nand_model.specs.Flash.{Flash}
use Rattle.flash_tree.specs.Groups.{Group}
use Rattle.flash_tree.specs.Keeping.{StaysNewest, KeepsNewest}
use Rattle.flash_tree.specs.Newest.{Spot, spot_in, Holds, IsAfter, IsNewest, IsNewestWith}
use Rattle.transactions.specs.declared.source.PageName.{PageName}
use Rattle.transactions.specs.declared.group.Placed.{Placed}
use Rattle.transactions.specs.declared.group.GroupFault.{GroupFault}
use Rattle.transactions.specs.declared.group.GroupFault.TheVariants as faults
use Rattle.transactions.specs.Groups.{GroupsAfter}
use Rattle.transactions.specs.Naming.{IsNamed, NamesOnce}
use Rattle.flash_tree.specs.Numbering.{AreBelow}
use Rattle.transactions.specs.Written.{tag_in}

-- the place of page i of a group whose pages have these names
abbrev pub spot_at : Group → (ℕ → PageName) → ℕ → Spot
spot_at g name i = spot_in g (tag_in g name) i

-- for each key that the group names once, no page that counts comes after the group's
abbrev pub ComesLast : Group → (ℕ → PageName) → Flash → Type 0
ComesLast g name flash = (o c i : ℕ) → NamesOnce g name o c i → (t : Spot) → Holds flash o c t → IsAfter t (spot_at g name i) → ⊥

-- the group is of new pages: their version is its number, which is above those of all tags
pub record IsCommit (g : Group) (name : ℕ → PageName) (flash : Flash) : Type 0 where
  pub versions : (i : ℕ) → i < g.size → (name i).version ≡ g.number
  pub seq : ℕ
  pub below : AreBelow flash g.number seq

-- The group is of copies: each is in the version of its key's newest page, and the group's block has a number above those of all valid
-- pages of that key.
pub record IsOfCopies (g : Group) (name : ℕ → PageName) (flash : Flash) : Type 0 where
  pub versions : (o c i : ℕ) → NamesOnce g name o c i → (s : Spot) × IsNewest flash o c s × ((name i).version ≡ s.tag.version)
  pub older : (o c i : ℕ) → NamesOnce g name o c i → (t : Spot) → Holds flash o c t → t.tag.seq < g.seq

-- The group's pages are the newest of the keys that it names once, and the newest pages of all other keys stay so.
pub record ShowsGroup (g : Group) (name : ℕ → PageName) (bytes : ℕ → List ℕ) (old new : Flash) : Type 0 where
  pub named : (o c i : ℕ) → NamesOnce g name o c i → IsNewestWith new o c (spot_at g name i) (bytes i)
  pub others : (o c : ℕ) (s : Spot) → ((i : ℕ) → i < g.size → IsNamed name o c i → ⊥) → IsNewest old o c s → StaysNewest old new o c s

-- Which pages are newest afterwards: after Ok the group's, after NoRoom, a failure or a loss those before, and after a cut
-- either all of the one or all of the other.
abbrev pub NewestAfter : Group → (ℕ → PageName) → (ℕ → List ℕ) → Flash → Flash → Result Placed GroupFault → Type 0
NewestAfter g name bytes old new (Ok placed) = ShowsGroup g name bytes old new
NewestAfter g name bytes old new (Err faults.NoRoom) = KeepsNewest old new
NewestAfter g name bytes old new (Err faults.Failed) = KeepsNewest old new
NewestAfter g name bytes old new (Err faults.Lost) = KeepsNewest old new
NewestAfter g name bytes old new (Err faults.Gone) = KeepsNewest old new ⊎ ShowsGroup g name bytes old new

-- however the writing of the group ended, by the groups that are valid afterwards, those pages are newest
abbrev pub EndsNewest : Group → (ℕ → PageName) → (ℕ → List ℕ) → Flash → Flash → Type 0
EndsNewest g name bytes old new = (result : Result Placed GroupFault) → GroupsAfter g name bytes old new result → NewestAfter g name bytes old new result
