-- An index that keeps the pages of a tree, and no others.
use Rattle.std.specs.Prelude.{◌≡◌, ℕ, Some}
use Rattle.nand_model.specs.Flash.{Flash}
use Rattle.volume_terms.specs.Sizes.{Sizes}
use Rattle.posix_profile.specs.State.{Objects}
use Rattle.flash_tree.specs.Newest.{Spot, IsNewest}
use Rattle.flash_tree.specs.Tree.{InFootprint}
use Rattle.pages.specs.Maps.{PageMap, has}
use Rattle.chunk_index.specs.declared.form.CommittedPage.{CommittedPage}
use Rattle.chunk_index.specs.Maps.{CommittedMap}

-- each committed page lies in the block of the newest page of its key
abbrev pub LieNewest : Flash → CommittedMap → Type 0
LieNewest flash committed = (o c : ℕ) (p : CommittedPage) → committed o c ≡ Some p → (s : Spot) × IsNewest flash o c s × (s.block ≡ p.block)

-- each key with a newest page is committed
abbrev pub KeepsAll : Flash → CommittedMap → Type 0
KeepsAll flash committed = (o c : ℕ) (s : Spot) → IsNewest flash o c s → (p : CommittedPage) × (committed o c ≡ Some p)

-- Of the keys that are looked up to see the objects each that has a page is committed, in the block of its newest page; no other is.
pub record KeepsOnlyTree (flash : Flash) (z : Sizes) (m : PageMap) (objects : Objects) (committed : CommittedMap) : Type 0 where
  pub all : (o c : ℕ) (s : Spot) → InFootprint z (has m) objects o c → IsNewest flash o c s → (p : CommittedPage) × (committed o c ≡ Some p)
  pub only : (o c : ℕ) (p : CommittedPage) → committed o c ≡ Some p → InFootprint z (has m) objects o c
  pub newest : LieNewest flash committed
