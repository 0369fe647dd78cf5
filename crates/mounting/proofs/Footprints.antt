-- The pages that are looked up to see a tree hold its objects.
use Rattle.std.specs.Prelude.{◌≡◌, ◌<◌, ◌≤◌, ℕ, ◌/◌, true, false, List, Option, Some, None}
use Rattle.std.specs.FinMap as map
use Rattle.std.specs.Int.{div_ceil}
use Rattle.std.proofs.Common.{refl, sym, ◌∙◌, ap, subst, inl, inr, arith}
use Rattle.nand_model.specs.declared.geometry.Geometry.{Geometry}
use Rattle.page_tags.specs.Headers.{Fields, is_present}
use Rattle.page_tags.specs.declared.header.ObjectKind.TheVariants as kinds
use Rattle.volume_terms.specs.Sizes.{Sizes, page_slots, root_number}
use Rattle.volume_terms.specs.laws.Rounding.{part_within}
use Rattle.posix_profile.specs.State.{Entries, Object, File, Dir, Objects}
use Rattle.posix_profile.specs.laws.Prune.{prune_same, tree_well_formed}
use Rattle.flash_tree.specs.Tree.{IsPageSize, IsSingle, HasHeader, ReadsAs, ReadsFile, ReadsDir, Shows, LooksUp, InFootprint}
use Rattle.flash_tree.specs.laws.OneTree.{one_header}
use Rattle.flash_tree.specs.laws.Tree.{footprint_law}
use Rattle.flash_tree.specs.Mount.{sizes_of, IsVolume}
use Rattle.object_store.specs.Stores.{settled}
use Rattle.pages.specs.Maps.{PageMap, has}
use Rattle.directories.specs.Directories as directories
use Rattle.file_io.specs.Files as files
use Rattle.paged_objects.specs.Holding.{HoldsObject, HoldsObjects}
use Rattle.mounting.specs.Footprints.{IsFootprint}
use Rattle.mounting.proofs.VolumeSizes.{is_page_size}
use Rattle.flash_tree.specs.laws.SlotCounts.{entries_len}

-- a map has one page of a key
pub one_page : (m : PageMap) → IsSingle (has m)
one_page m o c xs ys a b = let two : Some xs ≡ Some ys = sym a ∙ b in cc

module _ (z : Sizes) (size : IsPageSize z.page_bytes) (some : 1 ≤ page_slots z) (m n : PageMap) (objects : Objects) (shown : Shows z (has m) objects) (part : IsFootprint z m objects n) where
  shown_too : Shows z (has n) objects
  shown_too = footprint_law z (has m) (has n) objects (λ o c bytes looked there. part.same o c looked ∙ there) shown

  header_of : (o : ℕ) (x : Object) → ReadsAs z (has m) o x → (f : Fields) × HasHeader z (has m) o f
  header_of o (File moment bytes) r = (r.fields, r.has)
  header_of o (Dir moment entries) r = (r.fields, r.has)

  -- the header of an object is that of the map
  header_back : (o : ℕ) (x : Object) → map.get objects o ≡ Some x → (f : Fields) → HasHeader z (has n) o f → HasHeader z (has m) o f
  header_back o x there f (is, valid) =
      let h = header_of o x (shown.each o x there) in
      (sym (part.same o 0 (record { object = x; there = there; fields = h.0; has = h.1; looks = inl refl })) ∙ is, valid)

  same_fields : (o : ℕ) (f : Fields) (c : ℕ) → HasHeader z (has m) o f → (looked : InFootprint z (has m) objects o c) → looked.fields ≡ f
  same_fields o f c there looked = one_header z size.most (has m) (one_page m) o looked.fields f looked.has there

  -- a file has no page but its header and the chunks that this names
  file_looks : (f : Fields) (c : ℕ) → f.kind ≡ kinds.File → 1 ≤ c → is_present f.bits c ≡ false → LooksUp z f c → ⊥
  file_looks f c file from absent (inl first) = omega (arith, from, first)
  file_looks f c file from absent (inr (inl (kind, from', present))) = let two : true ≡ false = sym present ∙ absent in cc
  file_looks f c file from absent (inr (inr (directory, slot))) = let two : kinds.File ≡ kinds.Directory = sym file ∙ directory in cc

  file_only : (o moment : ℕ) (bytes : List ℕ) → map.get objects o ≡ Some (File moment bytes) → (r : ReadsFile z (has n) o moment bytes) → files.HasOnly n o r.fields
  file_only o moment bytes there r c from absent = part.none o c (λ looked.
      file_looks r.fields c r.kind from absent
      (subst (λ f. LooksUp z f c) (same_fields o r.fields c (header_back o (File moment bytes) there r.fields r.has) looked) looked.looks))

  -- a directory has no page behind its slots
  directory_looks : (f : Fields) (c count : ℕ) → f.kind ≡ kinds.Directory → f.length ≡ count → div_ceil count (page_slots z) < c → LooksUp z f c → ⊥
  directory_looks f c count directory len behind (inl first) = omega (arith, behind, first)
  directory_looks f c count directory len behind (inr (inl (file, from, present))) = let two : kinds.File ≡ kinds.Directory = sym file ∙ directory in cc
  directory_looks f c count directory len behind (inr (inr (kind, (i, lt, is)))) =
      let within = part_within i count (page_slots z) some (omega (arith, lt, len)) in
      omega (arith, within, behind, is)

  directory_only : (o moment : ℕ) (entries : Entries) → map.get objects o ≡ Some (Dir moment entries) → (r : ReadsDir z (has n) o moment entries) → directories.HasOnly z n o (map.len entries)
  directory_only o moment entries there r c behind = part.none o c (λ looked.
      directory_looks r.fields c (map.len entries) r.kind (r.size ∙ sym (ap map.len r.entries_are ∙ entries_len r.slots r.once)) behind
      (subst (λ f. LooksUp z f c) (same_fields o r.fields c (header_back o (Dir moment entries) there r.fields r.has) looked) looked.looks))

  module _ (spare : (f : Fields) → HasHeader z (has m) root_number f → f.spare ≡ z.spare_blocks) where
    held_as : (o : ℕ) (x : Object) → map.get objects o ≡ Some x → ReadsAs z (has n) o x → HoldsObject z n o (Some x)
    held_as o (File moment bytes) there r = record { reads = r; only = file_only o moment bytes there r }
    held_as o (Dir moment entries) there r = record {
      reads = r;
      only = directory_only o moment entries there r;
      spare = λ root. spare r.fields (subst (λ k. HasHeader z (has m) k r.fields) root (header_back o (Dir moment entries) there r.fields r.has));
    }

    held : (o : ℕ) (x : Option Object) → map.get objects o ≡ x → HoldsObject z n o x
    held o None is = λ c. part.none o c (λ looked. let two : None ≡ Some looked.object = sym is ∙ looked.there in absurd cc)
    held o (Some x) is = held_as o x is (shown_too.each o x is)

    -- the part holds the objects
    pub part_holds : HoldsObjects z n objects
    part_holds = record { each = λ o. held o (map.get objects o) refl }

-- of a volume
pub footprint_holds : (g : Geometry) (spare : ℕ) (m n : PageMap) (objects : Objects) → IsVolume g (has m) spare → Shows (sizes_of g spare) (has m) objects
    → IsFootprint (sizes_of g spare) m objects n → HoldsObjects (sizes_of g spare) n objects
footprint_holds g spare m n objects volume shown part = part_holds (sizes_of g spare) (is_page_size g) some m n objects shown part root_spare where
  some : 1 ≤ g.bytes / 272
  some = omega (arith, g.least_bytes)

  root_spare : (f : Fields) → HasHeader (sizes_of g spare) (has m) root_number f → f.spare ≡ spare
  root_spare f there = ap (λ (x : Fields). x.spare) (one_header (sizes_of g spare) g.most_bytes (has m) (one_page m) root_number f volume.fields there volume.has) ∙ volume.spare_is

-- a tree settles to itself
pub tree_settled : (z : Sizes) (m : PageMap) (objects : Objects) → Shows z (has m) objects → settled objects ≡ objects
tree_settled z m objects shown =
    ap (λ s. s.objects) (prune_same z (record { objects = objects; handles = map.empty }) (tree_well_formed z objects shown.tree))
