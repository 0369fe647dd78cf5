-- Where a list was gone through wholly, and no directory is named twice, the flash's answer has a tree.
use Rattle.std.specs.Prelude.{◌≡◌, ℕ, List, [], ◌∷◌}
use Rattle.std.proofs.Common.{sym, ◌∙◌, ap, subst, inl, inr, arith}
use Rattle.nand_model.specs.Flash.{Flash}
use Rattle.nand_model.specs.declared.geometry.Geometry.{Geometry}
use Rattle.page_tags.specs.Headers.{Fields}
use Rattle.page_tags.specs.declared.header.HeaderFault.TheVariants as faults
use Rattle.volume_terms.specs.Sizes.{Sizes, root_number}
use Rattle.posix_profile.specs.State.{Objects}
use Rattle.flash_tree.specs.Newest.{HasNewest}
use Rattle.flash_tree.specs.laws.Newest.{one_newest}
use Rattle.flash_tree.specs.laws.Finding.{same_header, kinds_apart, header_no_fault, one_end}
use Rattle.flash_tree.specs.laws.Tree.{footprint_law}
use Rattle.flash_tree.specs.Tree.{NewestMap, IsSingle, Shows}
use Rattle.flash_tree.specs.Mount.{Wrong, ListEnd, Wrongly, Wholly, GoesThrough, NamesTwice, sizes_of, IsVolume, IsNoVolume, HasWrongRoot, Answer, NotAVolume, IsWrong, IsTreeOf, Answers}
use Rattle.pages.specs.Maps.{PageMap, has}
use Rattle.mounting.specs.NewestMaps.{IsNewestMap}
use Rattle.pages.specs.laws.Low.{looked_low}
use Rattle.mounting.proofs.SameMaps.{HasAll, through_too, twice_too}
use Rattle.mounting.proofs.NewestMaps.{has_newest, newest_has, is_volume}
use Rattle.mounting.proofs.VolumeSizes.{is_page_size}

module _ (g : Geometry) (m : NewestMap) (single : IsSingle m) where
  abbrev z : ℕ → Sizes
  z spare = sizes_of g spare

  same_root : (s t : ℕ) (a : IsVolume g m s) (b : IsVolume g m t) → a.fields ≡ b.fields
  same_root s t a b = same_header (z 0) (is_page_size g) m single root_number a.fields b.fields a.has b.has

  -- the root says one number of spare blocks
  one_volume : (s t : ℕ) → IsVolume g m s → IsVolume g m t → s ≡ t
  one_volume s t a b = sym a.spare_is ∙ ap (λ (f : Fields). f.spare) (same_root s t a b) ∙ b.spare_is

  a_volume : (s : ℕ) → IsVolume g m s → IsNoVolume m → ⊥
  a_volume s v (inl none) = none _ v.has.0
  a_volume s v (inr magic) = header_no_fault (z 0) (is_page_size g) m single root_number v.fields faults.Magic v.has magic

  a_right_root : (wrong : Wrong) (s : ℕ) → IsVolume g m s → HasWrongRoot g m wrong → ⊥
  a_right_root wrong s v (inl (fault, faulty, ne, is)) = header_no_fault (z 0) (is_page_size g) m single root_number v.fields fault v.has faulty
  a_right_root wrong s v (inr (is, f, there, inl file)) = kinds_apart (z 0) (is_page_size g) m single root_number f v.fields there v.has file v.kind
  a_right_root wrong s v (inr (is, f, there, inr within_limit)) =
      let same : f ≡ v.fields = same_header (z 0) (is_page_size g) m single root_number f v.fields there v.has in
      let spare : f.spare ≡ s = ap (λ (x : Fields). x.spare) same ∙ v.spare_is in
      let room = v.room in
      omega arith

  one_way : (s t : ℕ) (a b : ListEnd) → IsVolume g m s → IsVolume g m t
      → GoesThrough (z s) m (root_number ∷ []) 0 a → GoesThrough (z t) m (root_number ∷ []) 0 b → a ≡ b
  one_way s t a b v w x y = one_end (z t) (is_page_size g) m single (root_number ∷ []) 0 a b (subst (λ k. GoesThrough (z k) m (root_number ∷ []) 0 a) (one_volume s t v w) x) y

module _ (g : Geometry) (flash : Flash) (spare : ℕ) (list : List ℕ) (volume : IsVolume g (HasNewest flash) spare)
    (on : GoesThrough (sizes_of g spare) (HasNewest flash) (root_number ∷ []) 0 (Wholly list))
    (once : NamesTwice (sizes_of g spare) (HasNewest flash) list → ⊥) where
  abbrev HasTree : Type 0
  HasTree = (objects : Objects) × Shows (sizes_of g spare) (HasNewest flash) objects

  single : IsSingle (HasNewest flash)
  single = one_newest flash

  tree_of : (s : ℕ) (objects : Objects) → IsVolume g (HasNewest flash) s → Shows (sizes_of g s) (HasNewest flash) objects → HasTree
  tree_of s objects v shown = (objects, subst (λ k. Shows (sizes_of g k) (HasNewest flash) objects) (one_volume g (HasNewest flash) single s spare v volume) shown)

  pub answered_tree : (a : Answer) → Answers g flash a → HasTree
  answered_tree NotAVolume x = absurd (a_volume g (HasNewest flash) single spare volume x)
  answered_tree (IsWrong w) (inl root) = absurd (a_right_root g (HasNewest flash) single w spare volume root)
  answered_tree (IsWrong w) (inr (inl (s, v, on'))) =
      let same : Wrongly w ≡ Wholly list = one_way g (HasNewest flash) single s spare _ _ v volume on' on in absurd cc
  answered_tree (IsWrong w) (inr (inr (inl (s, v, is, list', on', twice)))) =
      let same : Wholly list' ≡ Wholly list = one_way g (HasNewest flash) single s spare _ _ v volume on' on in
      let lists : list' ≡ list = cc in
      absurd (once (subst (NamesTwice (sizes_of g spare) (HasNewest flash)) lists
      (subst (λ k. NamesTwice (sizes_of g k) (HasNewest flash) list') (one_volume g (HasNewest flash) single s spare v volume) twice)))
  answered_tree (IsWrong w) (inr (inr (inr (s, v, is, objects, shown, full)))) = tree_of s objects v shown
  answered_tree (IsTreeOf s objects) (v, shown, room) = tree_of s objects v shown

-- the map shows it too
pub both_show : (g : Geometry) (flash : Flash) (m : PageMap) (spare : ℕ) (list : List ℕ) → IsNewestMap flash m → IsVolume g (has m) spare
    → GoesThrough (sizes_of g spare) (has m) (root_number ∷ []) 0 (Wholly list) → (NamesTwice (sizes_of g spare) (has m) list → ⊥) → (a : Answer) → Answers g flash a
    → (objects : Objects) × Shows (sizes_of g spare) (has m) objects × Shows (sizes_of g spare) (HasNewest flash) objects
both_show g flash m spare list is volume on once a answers =
    let to : HasAll (has m) (HasNewest flash) = has_newest flash m is in
    let back : HasAll (HasNewest flash) (has m) = newest_has flash m is in
    let z : Sizes = sizes_of g spare in
    let found = answered_tree g flash spare list (is_volume g flash m spare is volume)
    (through_too (has m) (HasNewest flash) to back z (root_number ∷ []) 0 (Wholly list) (is_page_size g) on)
    (λ twice. once (twice_too (HasNewest flash) (has m) back to z list twice)) a answers in
    (found.0, footprint_law z (HasNewest flash) (has m) found.0 (λ o c bytes looked there. back o c bytes (looked_low z (is_page_size g) looked.fields c looked.has.1 looked.looks) there) found.1, found.1)
