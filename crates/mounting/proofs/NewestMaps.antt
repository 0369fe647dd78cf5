-- What is wrong with a map of the newest pages of a flash is wrong with the flash.
use Rattle.std.specs.Prelude.{◌<◌, ◌^◌, ℕ, List, [], ◌∷◌}
use Rattle.std.proofs.Common.{refl, sym, subst, inl, inr}
use Rattle.nand_model.specs.Flash.{Flash}
use Rattle.nand_model.specs.declared.geometry.Geometry.{Geometry}
use Rattle.volume_terms.specs.Sizes.{root_number}
use Rattle.flash_tree.specs.Newest.{HasNewest}
use Rattle.flash_tree.specs.Mount.{Wrong, IsDamaged, Wrongly, Wholly, GoesThrough, sizes_of, IsVolume, IsNoVolume, HasWrongRoot, NamesTwice, NotAVolume, IsWrong, Answers}
use Rattle.pages.specs.Maps.{PageMap, has}
use Rattle.flash_tree.specs.declared.place.Key.{Key}
use Rattle.tree_walk.specs.Broken.{Breaks, IsFirstBroken}
use Rattle.tree_walk.specs.Trees.{IsWrongTree}
use Rattle.tree_walk.specs.declared.broken.Broken.{Broken}
use Rattle.tree_walk.specs.declared.broken.Rule.{Rule}
use Rattle.mounting.specs.NewestMaps.{IsNewestMap}
use Rattle.mounting.proofs.VolumeSizes.{is_page_size}
use Rattle.mounting.proofs.SameMaps.{HasAll, through_too, twice_too, no_volume_too, wrong_root_too, volume_too, breaks_low, breaks_too, first_too}

-- what the map has is the newest, and what is the newest it has
pub has_newest : (flash : Flash) (m : PageMap) → IsNewestMap flash m → HasAll (has m) (HasNewest flash)
has_newest flash m is o c xs low at = ((is o c xs).0 at).0

pub newest_has : (flash : Flash) (m : PageMap) → IsNewestMap flash m → HasAll (HasNewest flash) (has m)
newest_has flash m is o c xs low at = (is o c xs).1 (at, low)

module _ (g : Geometry) (flash : Flash) (m : PageMap) where
  pub no_volume : IsNewestMap flash m → IsNoVolume (has m) → Answers g flash NotAVolume
  no_volume is = no_volume_too (has m) (HasNewest flash) (has_newest flash m is) (newest_has flash m is)

  pub wrong_root : (wrong : Wrong) → IsNewestMap flash m → HasWrongRoot g (has m) wrong → Answers g flash (IsWrong wrong)
  wrong_root wrong is root = inl (wrong_root_too (has m) (HasNewest flash) (has_newest flash m is) (newest_has flash m is) g wrong root)

  pub is_volume : (spare : ℕ) → IsNewestMap flash m → IsVolume g (has m) spare → IsVolume g (HasNewest flash) spare
  is_volume spare is volume = volume_too (has m) (HasNewest flash) (has_newest flash m is) (newest_has flash m is) g spare volume

  pub wrong_object : (spare : ℕ) (wrong : Wrong) → IsNewestMap flash m → IsVolume g (has m) spare
      → GoesThrough (sizes_of g spare) (has m) (root_number ∷ []) 0 (Wrongly wrong) → Answers g flash (IsWrong wrong)
  wrong_object spare wrong is volume on = inr (inl (
    spare,
    is_volume spare is volume,
    through_too (has m) (HasNewest flash) (has_newest flash m is) (newest_has flash m is) (sizes_of g spare) (root_number ∷ []) 0 (Wrongly wrong) (is_page_size g) on,
  ))

  pub two_names : (spare : ℕ) (list : List ℕ) → IsNewestMap flash m → IsVolume g (has m) spare
      → GoesThrough (sizes_of g spare) (has m) (root_number ∷ []) 0 (Wholly list) → NamesTwice (sizes_of g spare) (has m) list → Answers g flash (IsWrong IsDamaged)
  two_names spare list is volume on twice = inr (inr (inl (
    spare,
    is_volume spare is volume,
    refl,
    list,
    through_too (has m) (HasNewest flash) (has_newest flash m is) (newest_has flash m is) (sizes_of g spare) (root_number ∷ []) 0 (Wholly list) (is_page_size g) on,
    twice_too (has m) (HasNewest flash) (has_newest flash m is) (newest_has flash m is) (sizes_of g spare) list twice,
  )))

  pub wrong_tree : (spare : ℕ) (wrong : Wrong) → IsNewestMap flash m → IsVolume g (has m) spare → IsWrongTree (sizes_of g spare) (has m) wrong → Answers g flash (IsWrong wrong)
  wrong_tree spare wrong is volume (inl on) = wrong_object spare wrong is volume on
  wrong_tree spare wrong is volume (inr (damaged, (list, on, twice))) =
      subst (λ w. Answers g flash (IsWrong w)) (sym damaged) (two_names spare list is volume on twice)

  pub breaks : (spare : ℕ) (key : Key) (rule : Rule) → IsNewestMap flash m → Breaks (sizes_of g spare) (has m) key rule → Breaks (sizes_of g spare) (HasNewest flash) key rule
  breaks spare key rule is = breaks_too (has m) (HasNewest flash) (has_newest flash m is) (newest_has flash m is) (sizes_of g spare) (is_page_size g) key rule

  pub first_broken : (spare : ℕ) (broken : Broken) → IsNewestMap flash m → IsFirstBroken (sizes_of g spare) (has m) broken → IsFirstBroken (sizes_of g spare) (HasNewest flash) broken
  first_broken spare broken is = first_too (has m) (HasNewest flash) (has_newest flash m is) (newest_has flash m is) (sizes_of g spare) (is_page_size g) broken

pub chunk_low : (g : Geometry) (m : PageMap) (spare : ℕ) (key : Key) (rule : Rule) → Breaks (sizes_of g spare) (has m) key rule → key.chunk < 2 ^ 32
chunk_low g m spare key rule = breaks_low (sizes_of g spare) (is_page_size g) (has m) key rule
