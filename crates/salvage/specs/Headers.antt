-- The objects of which a header is committed.
-- From: this project.
use Rattle.std.specs.Prelude.{◌≡◌, ◌<◌, ◌≤◌, ℕ, true, List, [], ◌∷◌, ◌++◌, nat_eq, Option, Some, None}
use Rattle.std.specs.List.{AllPairs, list_any}
use Rattle.flash_tree.specs.declared.place.Key.{Key}
use Rattle.pages.specs.Maps.{PageMap}
use Rattle.chunk_index.specs.declared.form.CommittedPage.{CommittedPage}
use Rattle.chunk_index.specs.Maps.{CommittedMap}

-- the number is on the list
abbrev pub IsListed : List ℕ → ℕ → Type 0
IsListed list o = list_any (nat_eq o) list ≡ true

-- each object that has a page of chunk 0 is on the list
abbrev pub HasHeaders : PageMap → List ℕ → Type 0
HasHeaders m list = (o : ℕ) (page : List ℕ) → m o 0 ≡ Some page → IsListed list o

-- the objects rise, so that none is on the list twice
abbrev pub Rises : List ℕ → Type 0
Rises list = AllPairs (λ a b. a < b) list

-- the list rises, and has each object of which a page of chunk 0 is committed
pub record ListsHeaders (m : CommittedMap) (list : List ℕ) : Type 0 where
  pub each : (o : ℕ) (k : CommittedPage) → m o 0 ≡ Some k → IsListed list o
  pub rises : Rises list

-- the object comes no later than that of the key
abbrev pub IsUpTo : Option Key → ℕ → Type 0
IsUpTo None o = ⊥
IsUpTo (Some key) o = o ≤ key.object

-- up to the object of the key the list has each of which a page of chunk 0 is committed, and no later one
pub record ListsUpTo (m : CommittedMap) (last : Option Key) (list : List ℕ) : Type 0 where
  pub each : (o : ℕ) (k : CommittedPage) → IsUpTo last o → m o 0 ≡ Some k → IsListed list o
  pub none_later : (o : ℕ) → IsListed list o → IsUpTo last o
  pub rises : Rises list

-- the object of a key of chunk 0 comes behind the others, and no other
pub record PutsHeader (key : Key) (old new : List ℕ) : Type 0 where
  pub header : key.chunk ≡ 0 → new ≡ old ++ key.object ∷ []
  pub other : 0 < key.chunk → new ≡ old
