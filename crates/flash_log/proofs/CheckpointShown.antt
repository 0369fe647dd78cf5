-- Where the newest pages of a tree stay, the same tree is shown.
use Rattle.std.proofs.Common.{◌≡◌, ◌≤◌, ℕ, Some, refl, sym, subst, arith, inl}
use Rattle.std.specs.FinMap as map
use Rattle.volume_terms.specs.Sizes.{Sizes, root_number}
use Rattle.nand_model.specs.Flash.{Flash}
use Rattle.nand_model.specs.declared.geometry.Geometry.{Geometry}
use Rattle.page_tags.specs.Headers.{Fields, header_bytes}
use Rattle.posix_profile.specs.State.{Object, Objects, File, Dir}
use Rattle.flash_tree.specs.Keeping.{StaysNewest}
use Rattle.flash_tree.specs.Mount.{sizes_of, IsVolume}
use Rattle.flash_tree.specs.Newest.{Spot, IsNewest, HasNewest}
use Rattle.flash_tree.specs.Tree.{NewestMap, HasHeader, ReadsAs, InFootprint, KeepsFootprint}
use Rattle.flash_tree.specs.laws.Newest.{one_newest, has_newest_stays}
use Rattle.flash_tree.specs.laws.OneTree.{one_header}
use Rattle.flash_tree.specs.laws.Tree.{footprint_law}
use Rattle.chunk_index.specs.Maps.{CommittedMap}
use Rattle.flash_log.specs.CheckpointKeeping.{ShowsExactly}

-- what is read has a header
shown_header : (z : Sizes) (m : NewestMap) (o : ℕ) (x : Object) → ReadsAs z m o x → (f : Fields) × HasHeader z m o f
shown_header z m o (File moment bytes) r = (r.fields, r.has)
shown_header z m o (Dir moment entries) r = (r.fields, r.has)

module _ (g : Geometry) (old new : Flash) (m : CommittedMap) (spare : ℕ) (objects : Objects) (exact : ShowsExactly g old m spare objects)
    (stays : (o k : ℕ) (s : Spot) → InFootprint (sizes_of g spare) (HasNewest old) objects o k → IsNewest old o k s → StaysNewest old new o k s) where
  abbrev z : Sizes
  z = sizes_of g spare

  few_bytes : z.page_bytes ≤ 4096
  few_bytes = omega (arith, g.most_bytes)

  keeps : KeepsFootprint z (HasNewest old) (HasNewest new) objects
  keeps o k bytes foot is = has_newest_stays old new o k bytes is (stays o k is.spot foot is.newest)

  -- a header of an object of the tree is the one that it was
  header_is : (o : ℕ) (x : Object) → map.get objects o ≡ Some x → (f : Fields) → HasHeader z (HasNewest old) o f → HasHeader z (HasNewest new) o f
  header_is o x there f has = (keeps o 0 (header_bytes f) (record { object = x; there = there; fields = f; has = has; looks = inl refl }) has.0, has.1)

  header_was : (o : ℕ) (x : Object) → map.get objects o ≡ Some x → (f : Fields) → HasHeader z (HasNewest new) o f → HasHeader z (HasNewest old) o f
  header_was o x there f has =
      let was = shown_header z (HasNewest old) o x (exact.shows.each o x there) in
      let same : f ≡ was.0 = one_header z few_bytes (HasNewest new) (λ p k xs ys. one_newest new p k xs ys) o f was.0 has (header_is o x there was.0 was.1) in
      subst (HasHeader z (HasNewest old) o) (sym same) was.1

  foot_was : (o k : ℕ) → InFootprint z (HasNewest new) objects o k → InFootprint z (HasNewest old) objects o k
  foot_was o k foot = record { object = foot.object; there = foot.there; fields = foot.fields; has = header_was o foot.object foot.there foot.fields foot.has; looks = foot.looks }

  foot_is : (o k : ℕ) → InFootprint z (HasNewest old) objects o k → InFootprint z (HasNewest new) objects o k
  foot_is o k foot = record { object = foot.object; there = foot.there; fields = foot.fields; has = header_is o foot.object foot.there foot.fields foot.has; looks = foot.looks }

  volume : IsVolume g (HasNewest new) spare
  volume =
      let root = exact.shows.tree.forest.root in
      let was = exact.volume in
      record {
        fields = was.fields;
        has = header_is root_number (Dir root.0 root.1) root.2 was.fields was.has;
        kind = was.kind;
        spare_is = was.spare_is;
        room = was.room;
      }

  pub shows_still : ShowsExactly g new m spare objects
  shows_still = record {
    volume = volume;
    shows = footprint_law z (HasNewest old) (HasNewest new) objects keeps exact.shows;
    all = λ o k foot. exact.all o k (foot_was o k foot);
    only = λ o k is. foot_is o k (exact.only o k is);
  }
