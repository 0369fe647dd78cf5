-- A walk over the objects of a tree that is on its way.
use Rattle.std.specs.Prelude.{◌≡◌, ◌⊎◌, ◌↔◌, ◌<◌, ◌≤◌, ◌+◌, ℕ, true, false, List, [], ◌∷◌, ◌++◌, length, slice_get, take, sum_by, nat_eq, Some}
use Rattle.std.specs.List.{list_any}
use Rattle.std.specs.Ordering.{nat_cmp}
use Rattle.std.specs.BTreeMap as table
use Rattle.std.specs.BTreeSet as set
use Rattle.page_tags.specs.declared.header.ObjectKind.TheVariants as kinds
use Rattle.flash_tree.specs.Tree.{NewestMap}
use Rattle.flash_tree.specs.Mount.{Leads, Finds, with_new, ListEnd, GoesThrough}
use Rattle.pages.specs.Maps.{PageMap, has}
use Rattle.pages.specs.State.{PagesState}
use Rattle.volume_terms.specs.Sizes.{Sizes, root_number}
use Rattle.tree_walk.specs.Broken.{ComesTo, StopsAt}
use Rattle.tree_walk.specs.Heads.{SaysHead}
use Rattle.tree_walk.specs.Trees.{AreNamesOf, named_in}
use Rattle.tree_walk.specs.Visits.{OfSeen, reported_pages}
use Rattle.tree_walk.specs.declared.broken.Broken.{Broken}
use Rattle.tree_walk.specs.declared.head.Head.{Head}
use Rattle.tree_walk.specs.declared.object.Visited.{Visited}
use Rattle.tree_walk.specs.declared.walking.WalkState.{WalkState}

-- the number is on the list
abbrev pub IsOn : List ℕ → ℕ → Type 0
IsOn list o = (i : ℕ) × (slice_get list i ≡ Some o)

-- no number is there twice
abbrev pub IsOnce : List ℕ → Type 0
IsOnce list = (i j o : ℕ) → slice_get list i ≡ Some o → slice_get list j ≡ Some o → i ≡ j

-- it is one of the numbers that are named, and is on the list already or is named before
pub record IsAgain (list named : List ℕ) (o : ℕ) : Type 0 where
  pub place : ℕ
  pub there : slice_get named place ≡ Some o
  pub before : IsOn list o ⊎ ((i : ℕ) × (i < place) × (slice_get named i ≡ Some o))

-- the set of the known objects is that of the list
abbrev pub Knows : WalkState → Type 0
Knows walk = (o : ℕ) → set.contains nat_cmp walk.known o ≡ list_any (nat_eq o) walk.objects.items

-- the object was named again
abbrev pub HasAgain : WalkState → ℕ → Type 0
HasAgain walk o = set.contains nat_cmp walk.again o ≡ true

-- what is said of the header of an object that was visited
abbrev pub HasHead : WalkState → ℕ → Head → Type 0
HasHead walk o head = table.get nat_cmp walk.heads o ≡ Some head

-- how many pages the headers and the slots of the first n objects take
abbrev pub pages_before : Sizes → WalkState → (n : ℕ) → ℕ
pages_before z walk n = sum_by (reported_pages z walk.heads) (take n walk.objects.items)

-- the objects that are named stand behind the others, each that is not known yet; the others of them are named again
pub record Puts (named : List ℕ) (old new : WalkState) : Type 0 where
  pub objects : new.objects.items ≡ with_new old.objects.items named
  pub knows : Knows new
  pub again : (o : ℕ) → HasAgain new o ↔ (HasAgain old o ⊎ IsAgain old.objects.items named o)
  pub heads : new.heads ≡ old.heads
  pub names : new.names ≡ old.names

-- the object was visited
pub record Visits (o : ℕ) (visited : Visited) (old new : WalkState) : Type 0 where
  pub objects : new.objects.items ≡ with_new old.objects.items visited.named.items
  pub knows : Knows new
  pub again : (p : ℕ) → HasAgain new p ↔ (HasAgain old p ⊎ IsAgain old.objects.items visited.named.items p)
  pub here : HasHead new o visited.head
  pub others : (p : ℕ) → nat_eq p o ≡ false → table.get nat_cmp new.heads p ≡ table.get nat_cmp old.heads p
  pub names : new.names.items ≡ old.names.items ++ named_in o visited.named.items

-- the root is known, nothing is named again, and nothing was visited
pub record Begins (walk : WalkState) : Type 0 where
  pub objects : walk.objects.items ≡ root_number ∷ []
  pub knows : Knows walk
  pub again : (o : ℕ) → HasAgain walk o → ⊥
  pub heads : (o : ℕ) (head : Head) → HasHead walk o head → ⊥
  pub names : walk.names.items ≡ []

-- the object at place p of the list names this one at place i
pub record IsNamedAt (z : Sizes) (m : NewestMap) (list : List ℕ) (p i o : ℕ) : Type 0 where
  pub object : ℕ
  pub listed : slice_get list p ≡ Some object
  pub named : List ℕ
  pub lookups : Finds z m object (Leads named)
  pub there : slice_get named i ≡ Some o

-- one of the first n of the list names it
pub record IsNamedBefore (z : Sizes) (m : NewestMap) (list : List ℕ) (n o : ℕ) : Type 0 where
  pub p : ℕ
  pub i : ℕ
  pub within : p < n
  pub at : IsNamedAt z m list p i o

-- the first n of the list name it at two places, the one before the other
pub record IsNamedTwice (z : Sizes) (m : NewestMap) (list : List ℕ) (n o : ℕ) : Type 0 where
  pub p : ℕ
  pub i : ℕ
  pub q : ℕ
  pub j : ℕ
  pub within : q < n
  pub first : IsNamedAt z m list p i o
  pub second : IsNamedAt z m list q j o
  pub before : (p < q) ⊎ ((p ≡ q) × (i < j))

-- the objects before place n of the list were visited: each is there whole, and what they name is known
pub record IsGoing (z : Sizes) (m : NewestMap) (n : ℕ) (walk : WalkState) : Type 0 where
  pub so_far : (end : ListEnd) → GoesThrough z m walk.objects.items n end → GoesThrough z m (root_number ∷ []) 0 end
  pub comes : (o : ℕ) → ComesTo z m walk.objects.items n o → ComesTo z m (root_number ∷ []) 0 o
  pub within : n ≤ length walk.objects.items
  pub begins : slice_get walk.objects.items 0 ≡ Some root_number
  pub once : IsOnce walk.objects.items
  pub whole : (p o : ℕ) → p < n → slice_get walk.objects.items p ≡ Some o → (named : List ℕ) × Finds z m o (Leads named)
  pub named : (p o : ℕ) → 1 ≤ p → slice_get walk.objects.items p ≡ Some o → IsNamedBefore z m walk.objects.items n o
  pub known : (o : ℕ) → IsNamedBefore z m walk.objects.items n o → IsOn walk.objects.items o
  pub again : (o : ℕ) → HasAgain walk o ↔ IsNamedTwice z m walk.objects.items n o
  pub heads : (p o : ℕ) → p < n → slice_get walk.objects.items p ≡ Some o → (head : Head) × HasHead walk o head
  pub says : (o : ℕ) (head : Head) → HasHead walk o head → SaysHead z m o head
  pub only : (o : ℕ) (head : Head) → HasHead walk o head → (p : ℕ) × (p < n) × (slice_get walk.objects.items p ≡ Some o)
  pub names : AreNamesOf z m walk.objects.items n walk.names.items

-- this holds of the pages of a sound store, of which those of the objects before this place were visited
abbrev pub OfGoing : PagesState → (place : ℕ) → WalkState → (Sizes → PageMap → Type 0) → Type 0
OfGoing p place walk A = OfSeen p (λ z m. IsGoing z (has m) place walk → A z m)

-- from the one walk and store to the other, at most the pages of the header and the slots of the object in this place were looked up
abbrev pub IssuesAt : Sizes → (place : ℕ) → WalkState × WalkState → PagesState × PagesState → Type 0
IssuesAt z place walks stores = stores.1.issued + pages_before z walks.0 place ≤ stores.0.issued + pages_before z walks.1 (place + 1)

-- the object was named again, and is a directory
pub record IsDirectoryAgain (walk : WalkState) (o : ℕ) : Type 0 where
  pub known : IsOn walk.objects.items o
  pub again : HasAgain walk o
  pub head : Head
  pub has : HasHead walk o head
  pub kind : head.kind ≡ kinds.Directory

-- the object in this place of the list stops the walk, since it breaks the rule
abbrev pub StopsOn : Sizes → NewestMap → WalkState → (place : ℕ) → Broken → Type 0
StopsOn z m walk place b = (slice_get walk.objects.items place ≡ Some b.key.object) × StopsAt z m b.key.object b
