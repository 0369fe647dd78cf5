-- What becomes of newest pages.
-- From: this project.
use Rattle.std.specs.Prelude.{◌≡◌, ◌≢◌, ℕ, false, List}
use Rattle.nand_model.specs.Flash.{Flash}
use Rattle.page_tags.specs.declared.tag.Tag.{Tag}
use Rattle.flash_tree.specs.Groups.{HasTag, Group, NamesOnce, NamesNot}
use Rattle.flash_tree.specs.Newest.{Spot, spot_in, IsNewest, IsNewestWith, HasNoneAfter}

-- the page there is the key's newest afterwards, and as it was
pub record StaysNewest (old new : Flash) (o c : ℕ) (s : Spot) : Type 0 where
  pub newest : IsNewest new o c s
  pub page : new.page s.block s.page ≡ old.page s.block s.page

-- each newest page stays the newest of its key
abbrev pub KeepsNewest : Flash → Flash → Type 0
KeepsNewest old new = (o c : ℕ) (s : Spot) → IsNewest old o c s → StaysNewest old new o c s

-- and so does each that does not lie in block b
abbrev pub KeepsElsewhere : ℕ → Flash → Flash → Type 0
KeepsElsewhere b old new = (o c : ℕ) (s : Spot) → IsNewest old o c s → s.block ≢ b → StaysNewest old new o c s

-- each newest page of a key that the group does not name stays so
abbrev pub KeepsUnnamed : Group → (ℕ → Tag) → Flash → Flash → Type 0
KeepsUnnamed g tag old new = (o c : ℕ) (s : Spot) → NamesNot g tag o c → IsNewest old o c s → StaysNewest old new o c s

-- the newest page of each key that the group names once, by a page that comes after all that the key had, is that page, with its data
abbrev pub RenewsNamed : Group → (ℕ → Tag) → (ℕ → List ℕ) → Flash → Flash → Type 0
RenewsNamed g tag bytes old new = (o c i : ℕ) → NamesOnce g tag o c i → HasNoneAfter old o c (spot_in g tag i) → IsNewestWith new o c (spot_in g tag i) (bytes i)

-- Block b gains no tag and is not good again, and nothing else is other: so it is after an erase or a mark of it, however
-- that ends.
pub record Loses (b : ℕ) (old new : Flash) : Type 0 where
  pub good : new.bad b ≡ false → old.bad b ≡ false
  pub tags : (l : ℕ) (t : Tag) → HasTag new b l t → HasTag old b l t
  pub other_marks : (k : ℕ) → k ≢ b → new.bad k ≡ old.bad k
  pub other_pages : (k l : ℕ) → k ≢ b → new.page k l ≡ old.page k l
