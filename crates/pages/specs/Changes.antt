-- Changes that a store takes.
use Rattle.std.specs.Prelude.{◌≡◌, ◌⊎◌, ◌<◌, ◌≤◌, ◌+◌, ◌^◌, ℕ, List, [], ◌∷◌, ◌++◌, length, Some, slice_get}
use Rattle.pages.specs.Maps.{IsPageOf, IsCut}
use Rattle.flash_tree.specs.Truth.{IsObjectNumber}
use Rattle.flash_tree.specs.declared.place.FreshPage.{FreshPage}
use Rattle.flash_tree.specs.declared.place.Key.{Key}
use Rattle.pages.specs.declared.change.Cut.{Cut}
use Rattle.pages.specs.declared.change.Change.{Change}

-- no key is there twice among the pages
abbrev pub AreApart : List FreshPage → Type 0
AreApart pages = (o c i j : ℕ) → IsPageOf pages o c i → IsPageOf pages o c j → i ≡ j

-- each page has so many bytes
abbrev pub AreSized : List FreshPage → ℕ → Type 0
AreSized pages bytes = (i : ℕ) (p : FreshPage) → slice_get pages i ≡ Some p → length p.bytes.items ≡ bytes

-- a key that a tree may look up: of an object's number, and of a chunk of 32 bits
pub record IsTreeKey (key : Key) : Type 0 where
  pub object : IsObjectNumber key.object
  pub low : key.chunk < 2 ^ 32

-- each page is of such a key
abbrev pub AreOfTrees : List FreshPage → Type 0
AreOfTrees pages = (i : ℕ) (p : FreshPage) → slice_get pages i ≡ Some p → IsTreeKey p.key

-- at most so many pages, of so many bytes each, and each of a key of its own
pub record IsChange (change : Change) (bytes most : ℕ) : Type 0 where
  pub apart : AreApart change.pages.items
  pub size : AreSized change.pages.items bytes
  pub within_limit : length change.pages.items ≤ most

-- the last change has fewer pages than the first two together
abbrev pub HasFewerPages : Change → Change → Change → Type 0
HasFewerPages first second both = length both.pages.items + 1 ≤ length first.pages.items + length second.pages.items

-- nothing is written and nothing is cut
pub record IsNothing (change : Change) : Type 0 where
  pub pages : change.pages.items ≡ []
  pub cuts : change.cuts.items ≡ []

-- no page or cut is of another object
pub record IsOnlyOf (change : Change) (object : ℕ) : Type 0 where
  pub pages : (o c i : ℕ) → IsPageOf change.pages.items o c i → o ≡ object
  pub cuts : (o c i : ℕ) → IsCut change.cuts.items o c i → o ≡ object

-- the page is behind the others, or one of them is of its key, or a cut takes it away
abbrev pub IsPutBehind : List FreshPage → List Cut → FreshPage → List FreshPage → Type 0
IsPutBehind pages cuts page new =
    (((i : ℕ) → IsPageOf pages page.key.object page.key.chunk i → ⊥) × ((i : ℕ) → IsCut cuts page.key.object page.key.chunk i → ⊥) × (new ≡ pages ++ page ∷ []))
    ⊎ ((((i : ℕ) × IsPageOf pages page.key.object page.key.chunk i) ⊎ ((i : ℕ) × IsCut cuts page.key.object page.key.chunk i)) × (new ≡ pages))
