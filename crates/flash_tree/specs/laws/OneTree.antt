-- The newest pages show one tree at most.
use Rattle.std.specs.Prelude.{◌≡◌, ◌≤◌, ℕ, ◌*◌, ◌%◌, true, false, List, length, take, drop, slice_index, map as list_map, Option, Some, None}
use Rattle.std.proofs.Common.{refl, sym, ◌∙◌, ap, subst, inl, inr, arith}
use Rattle.std.proofs.lemmas.List.{ext_get_or}
use Rattle.std.specs.Cmp.{nat_cmp_total}
use Rattle.std.specs.FinMap as map
use Rattle.page_tags.specs.Headers.{Fields}
use Rattle.page_tags.specs.laws.Header.{same_fields}
use Rattle.page_tags.specs.declared.header.ObjectKind.TheVariants as kinds
use Rattle.page_tags.specs.Slots.{Entry, slot_bytes}
use Rattle.page_tags.specs.laws.Slot.{same_slot}
use Rattle.volume_terms.specs.Sizes.{Sizes, page_slots, root_number}
use Rattle.volume_terms.specs.laws.Same.{same_lists}
use Rattle.posix_profile.specs.State.{Entries, Object, File, Dir, Objects}
use Rattle.posix_profile.specs.Names.{Names, Reached, root, below}
use Rattle.flash_tree.specs.Tree.{NewestMap, IsSingle, HasHeader, ByteIs, SlotIs, ReadsAs, ReadsFile, ReadsDir, Shows}

-- options with the same values are one
pub same_options : {A : Type 0} (x y : Option A) → ((v : A) → x ≡ Some v → y ≡ Some v) → ((v : A) → y ≡ Some v → x ≡ Some v) → x ≡ y
same_options None None f g = refl
same_options (Some v) y f g = sym (f v refl)
same_options None (Some v) f g = g v refl

module _ (z : Sizes) (within_limit : z.page_bytes ≤ 4096) (m : NewestMap) (single : IsSingle m) (o : ℕ) where
  pub one_header : (f g : Fields) → HasHeader z m o f → HasHeader z m o g → f ≡ g
  one_header f g a b = same_fields z.page_bytes f g within_limit a.1 b.1 (single o 0 _ _ a.0 b.0)

  one_byte : (f : Fields) (i x y : ℕ) → ByteIs z m o f i x → ByteIs z m o f i y → x ≡ y
  one_byte f i x y (inl a) (inl b) =
      let same : a.1.0 ≡ b.1.0 = single _ _ _ _ a.1.1 b.1.1 in
      sym a.1.2 ∙ ap (λ (p : List ℕ). slice_index p (i % z.page_bytes)) same ∙ b.1.2
  one_byte f i x y (inl a) (inr b) = let two : true ≡ false = sym a.0 ∙ b.0 in cc
  one_byte f i x y (inr a) (inl b) = let two : true ≡ false = sym b.0 ∙ a.0 in cc
  one_byte f i x y (inr a) (inr b) = a.1 ∙ sym b.1

  one_file : (s t : ℕ) (xs ys : List ℕ) → ReadsFile z m o s xs → ReadsFile z m o t ys → (s ≡ t) × (xs ≡ ys)
  one_file s t xs ys a b =
      let headers : a.fields ≡ b.fields = one_header _ _ a.has b.has in
      let lengths : length xs ≡ length ys = sym a.size ∙ ap (λ (f : Fields). f.length) headers ∙ b.size in (
        sym a.when ∙ ap (λ (f : Fields). f.moment) headers ∙ b.when,
        ext_get_or 0 xs ys lengths (λ i lt.
            one_byte b.fields i _ _ (subst (λ f. ByteIs z m o f i (slice_index xs i)) headers (a.each i lt)) (b.each i (omega arith))),
      )

  pub one_slot : (i : ℕ) (s t : Entry) → SlotIs z m o i s → SlotIs z m o i t → s ≡ t
  one_slot i s t a b =
      let pages : a.0 ≡ b.0 = single _ _ _ _ a.1 b.1 in
      let slots : slot_bytes s ≡ slot_bytes t = sym a.3 ∙ ap (λ (p : List ℕ). take 272 (drop (272 * (i % page_slots z)) p)) pages ∙ b.3 in
      same_slot s t a.2.slot b.2.slot slots

  one_dir : (s t : ℕ) (x y : Entries) → ReadsDir z m o s x → ReadsDir z m o t y → (s ≡ t) × (x ≡ y)
  one_dir s t x y a b =
      let headers : a.fields ≡ b.fields = one_header _ _ a.has b.has in
      let lengths : length a.slots ≡ length b.slots = sym a.size ∙ ap (λ (f : Fields). f.length) headers ∙ b.size in
      let slots : a.slots ≡ b.slots = same_lists a.slots b.slots lengths (λ i x y is is'. one_slot i x y (a.each i x is) (b.each i y is')) in (
        sym a.when ∙ ap (λ (f : Fields). f.moment) headers ∙ b.when,
        a.entries_are ∙ ap (λ (slots : List Entry). map.from_entries (list_map (λ entry. (entry.name, entry.object)) slots)) slots ∙ sym b.entries_are,
      )

  -- an object has one kind, one moment and one content
  pub one_object : (x y : Object) → ReadsAs z m o x → ReadsAs z m o y → x ≡ y
  one_object (File s xs) (File t ys) a b = let one = one_file s t xs ys a b in ap (λ n. File n xs) one.0 ∙ ap (File t) one.1
  one_object (Dir s xs) (Dir t ys) a b = let one = one_dir s t xs ys a b in ap (λ n. Dir n xs) one.0 ∙ ap (Dir t) one.1
  one_object (File s xs) (Dir t ys) a b = let two : kinds.File ≡ kinds.Directory = sym a.kind ∙ ap (λ (f : Fields). f.kind) (one_header _ _ a.has b.has) ∙ b.kind in cc
  one_object (Dir s xs) (File t ys) a b = let two : kinds.File ≡ kinds.Directory = sym b.kind ∙ ap (λ (f : Fields). f.kind) (one_header _ _ b.has a.has) ∙ a.kind in cc

module _ (z : Sizes) (within_limit : z.page_bytes ≤ 4096) (m : NewestMap) (single : IsSingle m) (x y : Objects) (a : Shows z m x) (b : Shows z m y) where
  -- what is reached in one is the same object in the other
  also : (o : ℕ) → Reached x o → (object : Object) × (map.get x o ≡ Some object) × (map.get y o ≡ Some object)
  also o root =
      let p = a.tree.forest.root in
      let q = b.tree.forest.root in
      let same : Dir p.0 p.1 ≡ Dir q.0 q.1 = one_object z within_limit m single root_number _ _ (a.each root_number _ p.2) (b.each root_number _ q.2) in
      (Dir p.0 p.1, p.2, q.2 ∙ ap Some (sym same))
  also o (below {directory} {object} name up names) =
      let p = also directory up in
      let here : Some p.0 ≡ Some (Dir names.moment names.entries) = sym p.1 ∙ names.directory_is in
      let same : p.0 ≡ Dir names.moment names.entries = cc in
      let there : Names y directory name object = record { moment = names.moment; entries = names.entries; directory_is = p.2 ∙ ap Some same; object_is = names.object_is } in
      let u = a.tree.forest.leads directory object name names in
      let v = b.tree.forest.leads directory object name there in
      let one : u.0 ≡ v.0 = one_object z within_limit m single object _ _ (a.each object _ u.1) (b.each object _ v.1) in
      (u.0, u.1, v.1 ∙ ap Some (sym one))

  in_both : (o : ℕ) (object : Object) → map.get x o ≡ Some object → map.get y o ≡ Some object
  in_both o object is = let p = also o (a.tree.all_reached o object is) in p.2 ∙ sym p.1 ∙ is

-- where each key has one newest data, one tree is shown at most
pub one_tree : (z : Sizes) → z.page_bytes ≤ 4096 → (m : NewestMap) → IsSingle m → (x y : Objects) → Shows z m x → Shows z m y → x ≡ y
one_tree z within_limit m single x y a b = map.same_map nat_cmp_total map.nat_cmp-IsAntisymmetric x y (λ o. same_options _ _ (in_both z within_limit m single x y a b o) (in_both z within_limit m single y x b a o))
