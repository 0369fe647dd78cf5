-- A flash has one answer at most.
use Rattle.std.specs.Prelude.{◌≡◌, ℕ, zero, suc, List, [], ◌∷◌, Some, None}
use Rattle.std.proofs.Common.{refl, sym, ◌∙◌, ap, subst, inl, inr, arith}
use Rattle.nand_model.specs.Flash.{Flash}
use Rattle.nand_model.specs.declared.geometry.Geometry.{Geometry}
use Rattle.page_tags.specs.Headers.{Fields}
use Rattle.page_tags.specs.declared.header.HeaderFault.TheVariants as faults
use Rattle.volume_terms.specs.Sizes.{Sizes, root_number}
use Rattle.posix_profile.specs.State.{Objects, Dir}
use Rattle.flash_tree.specs.Newest.{HasNewest}
use Rattle.flash_tree.specs.laws.Newest.{one_newest}
use Rattle.flash_tree.specs.Tree.{NewestMap, IsSingle, Shows}
use Rattle.flash_tree.specs.laws.OneTree.{one_tree}
use Rattle.flash_tree.specs.Mount.{Wrong, wrong_by, ListEnd, Wrongly, Wholly, GoesThrough, NamesTwice, sizes_of, IsVolume, IsNoVolume, HasWrongRoot, HasRoom, Answer, NotAVolume, IsWrong, IsTreeOf, Answers}
use Rattle.flash_tree.specs.laws.Finding.{same_header, kinds_apart, header_no_fault, same_fault, one_end}
use Rattle.flash_tree.specs.Tree.{IsPageSize}
use Rattle.flash_tree.specs.laws.Shown.{Each, IsThere, ends_well, not_twice}

-- a device's pages can be filled by headers
pub is_page_size : (g : Geometry) → IsPageSize g.bytes
is_page_size g = record { least = omega (arith, g.least_bytes); most = g.most_bytes }

module _ (g : Geometry) (m : NewestMap) (single : IsSingle m) where
  abbrev z : ℕ → Sizes
  z spare = sizes_of g spare

  same_root : (s t : ℕ) (a : IsVolume g m s) (b : IsVolume g m t) → a.fields ≡ b.fields
  same_root s t a b = same_header (z 0) (is_page_size g) m single root_number a.fields b.fields a.has b.has

  -- the root says one number of spare blocks
  pub one_volume : (s t : ℕ) → IsVolume g m s → IsVolume g m t → s ≡ t
  one_volume s t a b = sym a.spare_is ∙ ap (λ (f : Fields). f.spare) (same_root s t a b) ∙ b.spare_is

  no_volume : (s : ℕ) → IsNoVolume m → IsVolume g m s → ⊥
  no_volume s (inl none) v = none _ v.has.0
  no_volume s (inr magic) v = header_no_fault (z 0) (is_page_size g) m single root_number v.fields faults.Magic v.has magic

  no_volume_no_root : (wrong : Wrong) → IsNoVolume m → HasWrongRoot g m wrong → ⊥
  no_volume_no_root wrong (inl none) (inl (fault, faulty, ne, is)) = none faulty.0 faulty.1
  no_volume_no_root wrong (inl none) (inr (is, f, has, amiss)) = none _ has.0
  no_volume_no_root wrong (inr magic) (inl (fault, faulty, ne, is)) = ne (same_fault (z 0) (is_page_size g) m single root_number fault faults.Magic faulty magic)
  no_volume_no_root wrong (inr magic) (inr (is, f, has, amiss)) = header_no_fault (z 0) (is_page_size g) m single root_number f faults.Magic has magic

  wrong_root_no_volume : (wrong : Wrong) (s : ℕ) → HasWrongRoot g m wrong → IsVolume g m s → ⊥
  wrong_root_no_volume wrong s (inl (fault, faulty, ne, is)) v = header_no_fault (z 0) (is_page_size g) m single root_number v.fields fault v.has faulty
  wrong_root_no_volume wrong s (inr (is, f, has, inl file)) v = kinds_apart (z 0) (is_page_size g) m single root_number f v.fields has v.has file v.kind
  wrong_root_no_volume wrong s (inr (is, f, has, inr within_limit)) v =
      let same : f ≡ v.fields = same_header (z 0) (is_page_size g) m single root_number f v.fields has v.has in
      let spare : f.spare ≡ s = ap (λ (x : Fields). x.spare) same ∙ v.spare_is in
      let room = v.room in
      omega arith

  one_wrong_root : (v w : Wrong) → HasWrongRoot g m v → HasWrongRoot g m w → v ≡ w
  one_wrong_root v w (inl (fault, faulty, ne, is)) (inl (fault', faulty', ne', is')) =
      is ∙ ap wrong_by (same_fault (z 0) (is_page_size g) m single root_number fault fault' faulty faulty') ∙ sym is'
  one_wrong_root v w (inl (fault, faulty, ne, is)) (inr (is', f, has, amiss)) = absurd (header_no_fault (z 0) (is_page_size g) m single root_number f fault has faulty)
  one_wrong_root v w (inr (is, f, has, amiss)) (inl (fault, faulty, ne, is')) = absurd (header_no_fault (z 0) (is_page_size g) m single root_number f fault has faulty)
  one_wrong_root v w (inr (is, f, has, amiss)) (inr (is', f', has', amiss')) = is ∙ sym is'

  -- from the root
  abbrev Goes : ℕ → ListEnd → Type 0
  Goes spare end = GoesThrough (z spare) m (root_number ∷ []) 0 end

  one_way : (s t : ℕ) (a b : ListEnd) → IsVolume g m s → IsVolume g m t → Goes s a → Goes t b → a ≡ b
  one_way s t a b v w x y = one_end (z t) (is_page_size g) m single (root_number ∷ []) 0 a b (subst (λ n. Goes n a) (one_volume s t v w) x) y

  root_there : (s : ℕ) (objects : Objects) (shown : Shows (z s) m objects) → Each (IsThere (z s) (is_page_size g) m single objects shown) (root_number ∷ [])
  root_there s objects shown zero c is =
      let same : root_number ≡ c = cc in
      let r = shown.tree.forest.root in
      subst (IsThere (z s) (is_page_size g) m single objects shown) same (Dir r.0 r.1, r.2)
  root_there s objects shown (suc k) c is = let two : None ≡ Some c = is in absurd cc

  -- where a tree is shown, the going through finds nothing wrong, and no directory named twice
  shown_not_wrong : (s t : ℕ) (objects : Objects) (wrong : Wrong) → IsVolume g m s → IsVolume g m t → Shows (z s) m objects → Goes t (Wrongly wrong) → ⊥
  shown_not_wrong s t objects wrong v w shown on =
      ends_well (z s) (is_page_size g) m single objects shown (root_number ∷ []) 0 (Wrongly wrong) (root_there s objects shown) (subst (λ n. Goes n (Wrongly wrong)) (one_volume t s w v) on)

  shown_not_twice : (s t : ℕ) (objects : Objects) (list : List ℕ) → IsVolume g m s → IsVolume g m t → Shows (z s) m objects → Goes t (Wholly list) → NamesTwice (z t) m list → ⊥
  shown_not_twice s t objects list v w shown on twice =
      let same : t ≡ s = one_volume t s w v in
      not_twice (z s) (is_page_size g) m single objects shown list
      (ends_well (z s) (is_page_size g) m single objects shown (root_number ∷ []) 0 (Wholly list) (root_there s objects shown) (subst (λ n. Goes n (Wholly list)) same on))
      (subst (λ n. NamesTwice (z n) m list) same twice)

  same_tree : (s t : ℕ) (x y : Objects) → IsVolume g m s → IsVolume g m t → Shows (z s) m x → Shows (z t) m y → x ≡ y
  same_tree s t x y v w a b = one_tree (z t) g.most_bytes m single x y (subst (λ n. Shows (z n) m x) (one_volume s t v w) a) b

module _ (g : Geometry) (flash : Flash) where
  abbrev single : IsSingle (HasNewest flash)
  single = one_newest flash

  not_with_wrong : (w : Wrong) → IsNoVolume (HasNewest flash) → Answers g flash (IsWrong w) → ⊥
  not_with_wrong w none (inl root) = no_volume_no_root g (HasNewest flash) single w none root
  not_with_wrong w none (inr (inl (s, v, on))) = no_volume g (HasNewest flash) single s none v
  not_with_wrong w none (inr (inr (inl (s, v, is, list, on, twice)))) = no_volume g (HasNewest flash) single s none v
  not_with_wrong w none (inr (inr (inr (s, v, is, objects, shown, full)))) = no_volume g (HasNewest flash) single s none v

  wrong_with_wrong : (a b : Wrong) → Answers g flash (IsWrong a) → Answers g flash (IsWrong b) → a ≡ b
  wrong_with_wrong a b (inl x) (inl y) = one_wrong_root g (HasNewest flash) single a b x y
  wrong_with_wrong a b (inl x) (inr (inl (s, v, on))) = absurd (wrong_root_no_volume g (HasNewest flash) single a s x v)
  wrong_with_wrong a b (inl x) (inr (inr (inl (s, v, is, list, on, twice)))) = absurd (wrong_root_no_volume g (HasNewest flash) single a s x v)
  wrong_with_wrong a b (inl x) (inr (inr (inr (s, v, is, objects, shown, full)))) = absurd (wrong_root_no_volume g (HasNewest flash) single a s x v)
  wrong_with_wrong a b (inr (inl (s, v, on))) (inl y) = absurd (wrong_root_no_volume g (HasNewest flash) single b s y v)
  wrong_with_wrong a b (inr (inl (s, v, on))) (inr (inl (t, w, on'))) =
      let same : Wrongly a ≡ Wrongly b = one_way g (HasNewest flash) single s t _ _ v w on on' in cc
  wrong_with_wrong a b (inr (inl (s, v, on))) (inr (inr (inl (t, w, is, list, on', twice)))) =
      let same : Wrongly a ≡ Wholly list = one_way g (HasNewest flash) single s t _ _ v w on on' in absurd cc
  wrong_with_wrong a b (inr (inl (s, v, on))) (inr (inr (inr (t, w, is, objects, shown, full)))) =
      absurd (shown_not_wrong g (HasNewest flash) single t s objects a w v shown on)
  wrong_with_wrong a b (inr (inr (inl (s, v, is, list, on, twice)))) (inl y) = absurd (wrong_root_no_volume g (HasNewest flash) single b s y v)
  wrong_with_wrong a b (inr (inr (inl (s, v, is, list, on, twice)))) (inr (inl (t, w, on'))) =
      let same : Wholly list ≡ Wrongly b = one_way g (HasNewest flash) single s t _ _ v w on on' in absurd cc
  wrong_with_wrong a b (inr (inr (inl (s, v, is, list, on, twice)))) (inr (inr (inl (t, w, is', list', on', twice')))) = is ∙ sym is'
  wrong_with_wrong a b (inr (inr (inl (s, v, is, list, on, twice)))) (inr (inr (inr (t, w, is', objects, shown, full)))) = is ∙ sym is'
  wrong_with_wrong a b (inr (inr (inr (s, v, is, objects, shown, full)))) (inl y) = absurd (wrong_root_no_volume g (HasNewest flash) single b s y v)
  wrong_with_wrong a b (inr (inr (inr (s, v, is, objects, shown, full)))) (inr (inl (t, w, on'))) =
      absurd (shown_not_wrong g (HasNewest flash) single s t objects b v w shown on')
  wrong_with_wrong a b (inr (inr (inr (s, v, is, objects, shown, full)))) (inr (inr (inl (t, w, is', list, on, twice)))) = is ∙ sym is'
  wrong_with_wrong a b (inr (inr (inr (s, v, is, objects, shown, full)))) (inr (inr (inr (t, w, is', objects', shown', full')))) = is ∙ sym is'

  wrong_with_tree : (wrong : Wrong) (t : ℕ) (objects : Objects) → Answers g flash (IsWrong wrong) → Answers g flash (IsTreeOf t objects) → ⊥
  wrong_with_tree wrong t objects (inl x) (w, shown, room) = wrong_root_no_volume g (HasNewest flash) single wrong t x w
  wrong_with_tree wrong t objects (inr (inl (s, v, on))) (w, shown, room) = shown_not_wrong g (HasNewest flash) single t s objects wrong w v shown on
  wrong_with_tree wrong t objects (inr (inr (inl (s, v, is, list, on, twice)))) (w, shown, room) = shown_not_twice g (HasNewest flash) single t s objects list w v shown on twice
  wrong_with_tree wrong t objects (inr (inr (inr (s, v, is, others, shown', full)))) (w, shown, room) =
      let spare : t ≡ s = one_volume g (HasNewest flash) single t s w v in
      let tree : objects ≡ others = same_tree g (HasNewest flash) single t s objects others w v shown shown' in
      full (subst (HasRoom g flash s) tree (subst (λ n. HasRoom g flash n objects) spare room))

  tree_with_tree : (s t : ℕ) (x y : Objects) → Answers g flash (IsTreeOf s x) → Answers g flash (IsTreeOf t y) → IsTreeOf s x ≡ IsTreeOf t y
  tree_with_tree s t x y (v, shown, room) (w, shown', room') =
      let spare : s ≡ t = one_volume g (HasNewest flash) single s t v w in
      let tree : x ≡ y = same_tree g (HasNewest flash) single s t x y v w shown shown' in
      ap (λ n. IsTreeOf n x) spare ∙ ap (IsTreeOf t) tree

  -- there is one answer at most
  pub one_answer : (a b : Answer) → Answers g flash a → Answers g flash b → a ≡ b
  one_answer NotAVolume NotAVolume x y = refl
  one_answer NotAVolume (IsWrong w) x y = absurd (not_with_wrong w x y)
  one_answer NotAVolume (IsTreeOf t objects) x (v, shown, room) = absurd (no_volume g (HasNewest flash) single t x v)
  one_answer (IsWrong w) NotAVolume x y = absurd (not_with_wrong w y x)
  one_answer (IsWrong v) (IsWrong w) x y = ap IsWrong (wrong_with_wrong v w x y)
  one_answer (IsWrong v) (IsTreeOf t objects) x y = absurd (wrong_with_tree v t objects x y)
  one_answer (IsTreeOf s objects) NotAVolume (v, shown, room) y = absurd (no_volume g (HasNewest flash) single s y v)
  one_answer (IsTreeOf s objects) (IsWrong w) x y = absurd (wrong_with_tree w s objects y x)
  one_answer (IsTreeOf s x) (IsTreeOf t y) a b = tree_with_tree s t x y a b
