-- The objects that directories name.
-- From: this project.
use Rattle.std.specs.Prelude.{◌≡◌, ◌≢◌, ◌⊎◌, ◌↔◌, ◌<◌, ℕ, true, false, List, [], ◌∷◌, ◌++◌, slice_get, Some}
use Rattle.std.specs.Ordering.{nat_cmp}
use Rattle.std.specs.BTreeSet as set
use Rattle.std.specs.BTreeSet.{BTreeSet}
use Rattle.std.specs.List.{Contains}
use Rattle.page_tags.specs.Headers.{Fields}
use Rattle.volume_terms.specs.Sizes.{Sizes, root_number}
use Rattle.flash_tree.specs.Tree.{NewestMap, HasHeader}
use Rattle.salvage.specs.Headers.{Rises}
use Rattle.salvage.specs.Reached.{LeadsTo}

-- the set has the number
abbrev pub IsIn : BTreeSet ℕ → ℕ → Type 0
IsIn numbers o = set.contains nat_cmp numbers o ≡ true

-- the set has these numbers besides those that it had
abbrev pub Adds : (ℕ → Type 0) → BTreeSet ℕ → BTreeSet ℕ → Type 0
Adds IsNew old new = (o : ℕ) → IsIn new o ↔ (IsIn old o ⊎ IsNew o)

-- one of the objects is a directory that names it
abbrev pub IsNamedBy : Sizes → NewestMap → List ℕ → ℕ → Type 0
IsNamedBy z m directories o = (d : ℕ) × Contains directories d × LeadsTo z m d o

-- the set has exactly the objects that directories of the list name
abbrev pub HasNamed : Sizes → NewestMap → List ℕ → BTreeSet ℕ → Type 0
HasNamed z m directories named = (o : ℕ) → IsIn named o ↔ IsNamedBy z m directories o

-- the object is not the root, it is none of those that are named, and its header reads
pub record IsUnnamed (z : Sizes) (m : NewestMap) (named : BTreeSet ℕ) (o : ℕ) : Type 0 where
  pub other : o ≢ root_number
  pub unnamed : set.contains nat_cmp named o ≡ false
  pub fields : Fields
  pub has : HasHeader z m o fields

-- the object comes behind the others where the condition holds, and else nothing does
abbrev pub PutsUnnamed : Type 0 → ℕ → List ℕ → List ℕ → Type 0
PutsUnnamed Condition o old new = (Condition × (new ≡ old ++ o ∷ [])) ⊎ ((Condition → ⊥) × (new ≡ old))

-- the list has those of the first n objects that are unnamed, and rises where these do
pub record ListsUnnamed (z : Sizes) (m : NewestMap) (named : BTreeSet ℕ) (objects : List ℕ) (n : ℕ) (list : List ℕ) : Type 0 where
  pub all : (p o : ℕ) → p < n → slice_get objects p ≡ Some o → IsUnnamed z m named o → Contains list o
  pub only : (o : ℕ) → Contains list o → (p : ℕ) × (p < n) × (slice_get objects p ≡ Some o) × IsUnnamed z m named o
  pub rises : Rises objects → Rises list
