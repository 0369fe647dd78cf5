-- Laws of pages that hold objects, as statements.
use Rattle.std.specs.Prelude.{◌≡◌, ◌≤◌, ◌+◌, ℕ, true, List, [], ◌∷◌, length}
use Rattle.std.specs.FinMap as map
use Rattle.nand_model.specs.declared.geometry.Geometry.{Geometry}
use Rattle.volume_terms.specs.Sizes.{IsSizes, Sizes}
use Rattle.flash_tree.specs.Mount.{IsVolume, sizes_of}
use Rattle.flash_tree.specs.Sound.{IsSoundFlash}
use Rattle.flash_tree.specs.declared.place.Key.{Key}
use Rattle.posix_profile.specs.Charge.{charge}
use Rattle.posix_profile.specs.State.{Objects}
use Rattle.posix_profile.specs.WellFormed.{IsForest}
use Rattle.pages.specs.Maps.{PageMap, has, without_cuts}
use Rattle.pages.specs.State.{PagesState}
use Rattle.pages.specs.Stores.{HasNumbersLeft, bad_on}
use Rattle.paged_objects.specs.Counting.{HavePages, IsOnce}
use Rattle.paged_objects.specs.Holding.{HoldsObjects}
use Rattle.paged_objects.specs.Representing.{Shown}

-- a tree that a mount would show is sound on the flash of an honest device, as long as numbers are left and no more blocks are bad than are
-- to spare
abbrev pub ShownTreesAreOnTheFlash : Type 0
ShownTreesAreOnTheFlash =
    (z : Sizes) (p : PagesState) (tree : Objects) → Shown z p tree → p.device.honest ≡ true → HasNumbersLeft p.device.flash → bad_on p.device ≤ p.spare
    → IsSoundFlash p.device.geometry p.device.flash p.spare tree

-- pages that hold the objects of a volume are those of a volume with as many spare blocks
abbrev pub HeldObjectsAreAVolume : Type 0
HeldObjectsAreAVolume =
    (g : Geometry) (spare : ℕ) (m : PageMap) (objects : Objects) → HoldsObjects (sizes_of g spare) m objects → IsForest (sizes_of g spare) objects
    → spare + 4 ≤ g.blocks → IsVolume g (has m) spare

-- pages that hold objects hold them without the one that is cut whole
abbrev pub CutObjectsAreHeldNoMore : Type 0
CutObjectsAreHeldNoMore =
    (z : Sizes) (m : PageMap) (objects : Objects) → HoldsObjects z m objects → (o : ℕ)
    → HoldsObjects z (without_cuts (record { object = o; from = 0 } ∷ []) m) (map.remove objects o)

-- where pages are those of objects, there are no more of them than units that the objects cost
abbrev pub PagesAreCharged : Type 0
PagesAreCharged =
    (z : Sizes) (m : PageMap) (objects : Objects) → IsSizes z → HoldsObjects z m objects → (keys : List Key) → IsOnce keys → HavePages m keys
    → length keys ≤ charge z objects
