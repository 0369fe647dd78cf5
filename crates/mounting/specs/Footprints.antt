-- The pages of a map that are looked up to see a tree.
use Rattle.std.specs.Prelude.{◌≡◌, ◌↔◌, ℕ, Bool, true, None}
use Rattle.volume_terms.specs.Sizes.{Sizes}
use Rattle.posix_profile.specs.State.{Objects}
use Rattle.flash_tree.specs.Tree.{InFootprint}
use Rattle.pages.specs.Maps.{PageMap, has}

-- of the keys that are looked up to see these objects the part has the pages that the map has, and of no other key any
pub record IsFootprint (z : Sizes) (m : PageMap) (objects : Objects) (part : PageMap) : Type 0 where
  pub same : (o c : ℕ) → InFootprint z (has m) objects o c → part o c ≡ m o c
  pub none : (o c : ℕ) → (InFootprint z (has m) objects o c → ⊥) → part o c ≡ None

-- the test keeps exactly the keys that are looked up to see these objects
abbrev pub KeepsFootprint : Sizes → PageMap → Objects → (ℕ → ℕ → Bool) → Type 0
KeepsFootprint z m objects keeps = (o c : ℕ) → (keeps o c ≡ true) ↔ InFootprint z (has m) objects o c
