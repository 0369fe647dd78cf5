-- Which page each key has, and what a change makes of that.
use Rattle.std.specs.Prelude.{◌≡◌, ◌<◌, ◌≤◌, ℕ, Bool, true, false, ◌&&◌, nat_eq, nat_le, List, [], ◌∷◌, Option, Some, None, slice_get, cond}
use Rattle.flash_tree.specs.Tree.{NewestMap}
use Rattle.flash_tree.specs.declared.place.FreshPage.{FreshPage}
use Rattle.pages.specs.declared.change.Cut.{Cut}
use Rattle.pages.specs.declared.change.Change.{Change}

-- the page of each key, by object and chunk
abbrev pub PageMap : Type 0
PageMap = ℕ → ℕ → Option (List ℕ)

-- no key has a page
abbrev pub no_pages : PageMap
no_pages o c = None

-- the pages of an honest device; of another nothing is known
abbrev pub known_pages : Bool → PageMap → PageMap
known_pages true m = m
known_pages false m = no_pages

-- the key has this page
abbrev pub has : PageMap → NewestMap
has m o c xs = m o c ≡ Some xs

-- the page is of this key
abbrev pub is_of : FreshPage → ℕ → ℕ → Bool
is_of p o c = nat_eq p.key.object o && nat_eq p.key.chunk c

-- the first of the pages that is of the key, and else what was there
abbrev pub with_pages : List FreshPage → PageMap → PageMap
with_pages [] m o c = m o c
with_pages (p ∷ ps) m o c = cond (is_of p o c) (Some p.bytes.items) (with_pages ps m o c)

-- the cut takes the key's page away
abbrev pub takes : Cut → ℕ → ℕ → Bool
takes cut o c = nat_eq cut.object o && nat_le cut.from c

-- what was there, but of the keys that are cut
abbrev pub without_cuts : List Cut → PageMap → PageMap
without_cuts [] m o c = m o c
without_cuts (cut ∷ cuts) m o c = cond (takes cut o c) None (without_cuts cuts m o c)

-- the pages after a change
abbrev pub after_change : Change → PageMap → PageMap
after_change change m = with_pages change.pages.items (without_cuts change.cuts.items m)

-- the page at place i is of this key
pub record IsPageOf (pages : List FreshPage) (o c i : ℕ) : Type 0 where
  pub page : FreshPage
  pub there : slice_get pages i ≡ Some page
  pub object : page.key.object ≡ o
  pub chunk : page.key.chunk ≡ c

-- and no page before it is
abbrev pub IsFirstOf : List FreshPage → ℕ → ℕ → ℕ → Type 0
IsFirstOf pages o c i = IsPageOf pages o c i × ((k : ℕ) → k < i → IsPageOf pages o c k → ⊥)

-- the cut at place i takes the key's page away
pub record IsCut (cuts : List Cut) (o c i : ℕ) : Type 0 where
  pub cut : Cut
  pub there : slice_get cuts i ≡ Some cut
  pub object : cut.object ≡ o
  pub chunk : cut.from ≤ c
