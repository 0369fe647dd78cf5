-- On a true flash the way by the entries of a whole checkpoint ends the mount, or goes through the tree.
use Rattle.std.specs.Prelude.{◌≡◌, ◌⊎◌, ℕ, zero, suc, [], ◌∷◌}
use Rattle.std.specs.FinMap as map
use Rattle.std.specs.Option.{option_and_then}
use Rattle.std.proofs.Common.{refl, sym, ◌∙◌, ap, subst, inl, inr, arith}
use Rattle.nand_model.specs.Calls.{Device}
use Rattle.nand_model.specs.declared.geometry.Geometry.{Geometry}
use Rattle.page_tags.specs.Headers.{Fields, header_bytes}
use Rattle.page_tags.specs.declared.header.HeaderFault.TheVariants as headers
use Rattle.posix_profile.specs.State.{Dir, Objects}
use Rattle.flash_tree.specs.Mount.{Wrong, Wrongly, Wholly, IsVolume, IsNoVolume, HasWrongRoot, sizes_of}
use Rattle.flash_tree.specs.Newest.{HasNewest}
use Rattle.flash_tree.specs.Tree.{Shows, InFootprint, KeepsFootprint}
use Rattle.flash_tree.specs.laws.Finding.{same_header, header_no_fault, kinds_apart}
use Rattle.flash_tree.specs.laws.Shown.{Each, IsThere, ends_well, not_twice}
use Rattle.flash_tree.specs.laws.Tree.{footprint_law}
use Rattle.page_store.specs.Checked.{KeepsItsTree}
use Rattle.page_store.specs.declared.opening.Opened.{Opened}
use Rattle.page_store.specs.Shown.{data_of, data_at, committed_data}
use Rattle.pages.specs.Maps.{PageMap, has}
use Rattle.tree_walk.specs.Trees.{IsWrongTree}
use Rattle.tree_walk.specs.declared.fault.RootFault.{RootFault}
use Rattle.tree_walk.specs.declared.fault.RootFault.TheVariants as roots
use Rattle.volume_terms.specs.Sizes.{Sizes, root_number}
use Rattle.mounting.specs.Reads.{WhyNotThrough, EndsMount}
use Rattle.mounting.specs.TreeAnswers.{HasWrongTree, WhyNoTree}
use Rattle.mounting.proofs.Entering.{is_size}
use Rattle.paged_objects.specs.laws.Findable.{one_spare}
use Rattle.mounting.proofs.Parting.{single}

-- ---- where pages show the tree of a volume nothing is wrong

module _ (g : Geometry) (m : PageMap) (spare : ℕ) (objects : Objects) (volume : IsVolume g (has m) spare) (shown : Shows (sizes_of g spare) (has m) objects) where
  abbrev z : Sizes
  z = sizes_of g spare

  no_volume : IsNoVolume (has m) → ⊥
  no_volume (inl none) = none (header_bytes volume.fields) volume.has.0
  no_volume (inr fault) = header_no_fault z (is_size g spare) (has m) (single m) root_number volume.fields headers.Magic volume.has fault

  wrong_root : (wrong : Wrong) → HasWrongRoot g (has m) wrong → ⊥
  wrong_root wrong (inl (fault, has_fault, ne, is)) = header_no_fault z (is_size g spare) (has m) (single m) root_number volume.fields fault volume.has has_fault
  wrong_root wrong (inr (is, f, header, inl file)) = kinds_apart z (is_size g spare) (has m) (single m) root_number f volume.fields header volume.has file volume.kind
  wrong_root wrong (inr (is, f, header, inr many)) =
      let same : f ≡ volume.fields = same_header z (is_size g spare) (has m) (single m) root_number f volume.fields header volume.has in
      let spares : f.spare ≡ spare = ap (λ (x : Fields). x.spare) same ∙ volume.spare_is in
      let room = volume.room in
      omega (arith, spares, room, many)

  root_there : Each (IsThere z (is_size g spare) (has m) (single m) objects shown) (root_number ∷ [])
  root_there zero o is = let same : root_number ≡ o = cc in let r = shown.tree.forest.root in (Dir r.0 r.1, ap (map.get objects) (sym same) ∙ r.2)
  root_there (suc k) o is = absurd cc

  wrong_tree : (wrong : Wrong) → IsWrongTree z (has m) wrong → ⊥
  wrong_tree wrong (inl on) = ends_well z (is_size g spare) (has m) (single m) objects shown (root_number ∷ []) 0 (Wrongly wrong) root_there on
  wrong_tree wrong (inr (is, (list, on, twice))) =
      not_twice z (is_size g spare) (has m) (single m) objects shown list
      (ends_well z (is_size g spare) (has m) (single m) objects shown (root_number ∷ []) 0 (Wholly list) root_there on) twice

  wrong_none : (wrong : Wrong) → HasWrongTree g (has m) wrong → ⊥
  wrong_none wrong (inl at_root) = wrong_root wrong at_root
  wrong_none wrong (inr (s, other, amiss)) =
      wrong_tree wrong (subst (λ n. IsWrongTree (sizes_of g n) (has m) wrong) (one_spare g (has m) (single m) s spare other volume) amiss)

  pub nothing_wrong : (fault : RootFault) → WhyNoTree g (has m) fault → (fault ≡ roots.NoMemory) ⊎ (fault ≡ roots.Device)
  nothing_wrong roots.NoMemory reported = inl refl
  nothing_wrong roots.Device reported = inr refl
  nothing_wrong roots.NotAVolume reported = absurd (no_volume reported)
  nothing_wrong (roots.Newer format) reported = absurd (wrong_none _ reported)
  nothing_wrong roots.Damaged reported = absurd (wrong_none _ reported)

-- ---- the pages that a right checkpoint reports on show the tree

module _ (d : Device) (opened : Opened) (k : KeepsItsTree d opened) where
  abbrev committed : PageMap
  committed = committed_data opened.index d.flash

  held : KeepsFootprint (sizes_of d.geometry k.spare) (HasNewest d.flash) (has committed) k.objects
  held o c bytes foot newest = ap (option_and_then (data_at d.flash)) (k.all o c newest.spot foot newest.newest) ∙ ap data_of newest.stored

  shows : Shows (sizes_of d.geometry k.spare) (has committed) k.objects
  shows = footprint_law (sizes_of d.geometry k.spare) (HasNewest d.flash) (has committed) k.objects held k.shows

  root_looked : InFootprint (sizes_of d.geometry k.spare) (HasNewest d.flash) k.objects root_number 0
  root_looked = let r = k.shows.tree.forest.root in record { object = Dir r.0 r.1; there = r.2; fields = k.volume.fields; has = k.volume.has; looks = inl refl }

  volume : IsVolume d.geometry (has committed) k.spare
  volume = record {
    fields = k.volume.fields;
    has = (held root_number 0 _ root_looked k.volume.has.0, k.volume.has.1);
    kind = k.volume.kind;
    spare_is = k.volume.spare_is;
    room = k.volume.room;
  }

  -- so no scan follows where it is not gone through
  pub ends_mount : (new : Device) (fault : RootFault) → WhyNotThrough opened.index d new fault → EndsMount new fault
  ends_mount new fault (reported, gone) = elim (nothing_wrong d.geometry committed k.spare k.objects volume shows fault reported) [
    | inl memory ↦ inl memory
    | inr device ↦ inr (gone device)
  ]
