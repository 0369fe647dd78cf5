-- The objects that are reached, gone through one after the other.
-- From: this project.
use Rattle.std.specs.Prelude.{◌≡◌, ◌<◌, ◌≤◌, ℕ, [], ◌∷◌, List, length, slice_get, nat_eq, map as list_map, Some}
use Rattle.std.specs.List.{list_any}
use Rattle.std.specs.Ordering.{nat_cmp}
use Rattle.std.specs.BTreeSet as set
use Rattle.volume_terms.specs.Sizes.{Sizes}
use Rattle.flash_tree.specs.Tree.{NewestMap}
use Rattle.flash_tree.specs.Mount.{with_new}
use Rattle.tree_walk.specs.Walks.{IsOn, IsOnce}
use Rattle.salvage.specs.Reached.{LeadsTo, IsReached}
use Rattle.salvage.specs.declared.reaching.NamedObjects.{NamedObjects}
use Rattle.salvage.specs.declared.reported.SalvagedName.{SalvagedName}

-- the objects that names lead to
abbrev pub objects_in : List SalvagedName → List ℕ
objects_in names = list_map (λ (n : SalvagedName). n.object) names

-- the set is that of the list
abbrev pub Knows : NamedObjects → Type 0
Knows named = (o : ℕ) → set.contains nat_cmp named.known o ≡ list_any (nat_eq o) named.objects.items

-- these come behind the others, each that is not known yet
pub record Puts (more : List ℕ) (old new : NamedObjects) : Type 0 where
  pub objects : new.objects.items ≡ with_new old.objects.items more
  pub knows : Knows new

-- only the first object is known
pub record Begins (from : ℕ) (named : NamedObjects) : Type 0 where
  pub objects : named.objects.items ≡ from ∷ []
  pub knows : Knows named

-- The list begins with the first object, all on it are reached, each once, and what those before place n name is on it.
pub record IsReaching (z : Sizes) (m : NewestMap) (from n : ℕ) (list : List ℕ) : Type 0 where
  pub begins : slice_get list 0 ≡ Some from
  pub once : IsOnce list
  pub reached : (p o : ℕ) → slice_get list p ≡ Some o → IsReached z m from o
  pub within : n ≤ length list
  pub leads : (p d o : ℕ) → p < n → slice_get list p ≡ Some d → LeadsTo z m d o → IsOn list o

-- and that is so of the objects that were named
abbrev pub HasReached : Sizes → NewestMap → (from n : ℕ) → NamedObjects → Type 0
HasReached z m from n named = IsReaching z m from n named.objects.items
