-- What is reported of a tree that was gone through.
use Rattle.std.specs.Prelude.{◌≡◌, ◌⊎◌, ℕ, zero, suc, Bool, false, List, [], ◌∷◌, ◌++◌, length, map as list_map, sum_by, Option, Some, slice_get}
use Rattle.std.specs.Option.{option_map_or}
use Rattle.std.specs.Ordering.{nat_cmp}
use Rattle.std.specs.BTreeMap.{get}
use Rattle.page_tags.specs.Headers.{Fields}
use Rattle.flash_tree.specs.Tree.{NewestMap, HasHeader, LooksUp}
use Rattle.flash_tree.specs.Mount.{Wrong, IsDamaged, Leads, Finds, Wrongly, Wholly, GoesThrough, NamesTwice}
use Rattle.pages.specs.Maps.{PageMap, has}
use Rattle.volume_terms.specs.Sizes.{Sizes, root_number}
use Rattle.tree_walk.specs.Broken.{IsFirstBroken, wrong_of}
use Rattle.tree_walk.specs.Heads.{SaysHead, head_looks_up}
use Rattle.tree_walk.specs.Visits.{reported_pages}
use Rattle.tree_walk.specs.declared.broken.Broken.{Broken}
use Rattle.tree_walk.specs.declared.head.Head.{Head}
use Rattle.tree_walk.specs.declared.tree.NamedObject.{NamedObject}
use Rattle.tree_walk.specs.declared.tree.Tree.{Tree}

-- the objects, in the order in which they were gone through
abbrev pub objects_listed : Tree → List ℕ
objects_listed tree = tree.objects.items

-- what is reported of an object's header
abbrev pub head_at : Tree → ℕ → Option Head
head_at tree o = get nat_cmp tree.heads o

-- the bytes of a page
abbrev pub page_size : Tree → ℕ
page_size tree = tree.page_bytes

-- how many pages the headers and the slots of the objects take
abbrev pub tree_pages : Sizes → Tree → ℕ
tree_pages z tree = sum_by (reported_pages z tree.heads) (objects_listed tree)

-- whether the page of a key is looked up to see the tree, as the headers say
abbrev pub keeps_key : Tree → ℕ → ℕ → Bool
keeps_key tree o c = option_map_or (λ head. head_looks_up (page_size tree) head c) (head_at tree o) false

-- a directory names an object
abbrev pub name_in : ℕ → ℕ → NamedObject
name_in directory object = record { directory = directory; object = object }

-- a directory names these objects
abbrev pub named_in : ℕ → List ℕ → List NamedObject
named_in directory named = list_map (name_in directory) named

-- what the slots of the directories name, directory by directory
abbrev pub names_of : Tree → List NamedObject
names_of tree = tree.names.items

-- these are the names that are found of the first n objects of the list, object by object
abbrev pub AreNamesOf : Sizes → NewestMap → List ℕ → ℕ → List NamedObject → Type 0
AreNamesOf z m list zero names = names ≡ []
AreNamesOf z m list (suc n) names =
    (o : ℕ) × (named : List ℕ) × (before : List NamedObject) × (slice_get list n ≡ Some o) × Finds z m o (Leads named) × AreNamesOf z m list n before
    × (names ≡ before ++ named_in o named)

-- the names of a tree are those of all its objects
abbrev pub HasNames : Sizes → NewestMap → Tree → Type 0
HasNames z m tree = AreNamesOf z m (objects_listed tree) (length (objects_listed tree)) (names_of tree)

-- of each object of the list, and of no other, it is reported what its header says
pub record ReportsHeads (z : Sizes) (m : NewestMap) (tree : Tree) : Type 0 where
  pub each : (i o : ℕ) → slice_get (objects_listed tree) i ≡ Some o → (head : Head) × (head_at tree o ≡ Some head)
  pub only : (o : ℕ) (head : Head) → head_at tree o ≡ Some head → (i : ℕ) × (slice_get (objects_listed tree) i ≡ Some o)
  pub says : (o : ℕ) (head : Head) → head_at tree o ≡ Some head → SaysHead z m o head

-- this holds, by the sizes of a volume and by its pages, of a tree that has their headers
abbrev pub OfHeads : Tree → (Sizes → PageMap → Type 0) → Type 0
OfHeads tree A = (z : Sizes) (m : PageMap) → z.page_bytes ≡ page_size tree → ReportsHeads z (has m) tree → A z m

-- the page of the key is looked up to see the objects of the list
pub record IsLookedUp (z : Sizes) (m : NewestMap) (list : List ℕ) (o c : ℕ) : Type 0 where
  pub place : ℕ
  pub listed : slice_get list place ≡ Some o
  pub fields : Fields
  pub has : HasHeader z m o fields
  pub looks : LooksUp z fields c

-- going through the objects ends at something wrong, or two names lead to one directory
abbrev pub IsWrongTree : Sizes → NewestMap → Wrong → Type 0
IsWrongTree z m wrong =
    GoesThrough z m (root_number ∷ []) 0 (Wrongly wrong)
    ⊎ ((wrong ≡ IsDamaged) × ((list : List ℕ) × GoesThrough z m (root_number ∷ []) 0 (Wholly list) × NamesTwice z m list))

-- the rule is the first that is broken, which makes the tree wrong
abbrev pub IsWrongBy : Sizes → NewestMap → Broken → Type 0
IsWrongBy z m b = IsWrongTree z m (wrong_of b.rule) × IsFirstBroken z m b

-- The tree of these pages was gone through wholly: no directory is named twice, and all is reported that the tree keeps of them.
pub record IsTreeThrough (z : Sizes) (m : NewestMap) (tree : Tree) : Type 0 where
  pub through : GoesThrough z m (root_number ∷ []) 0 (Wholly (objects_listed tree))
  pub once : NamesTwice z m (objects_listed tree) → ⊥
  pub heads : ReportsHeads z m tree
  pub names : HasNames z m tree
