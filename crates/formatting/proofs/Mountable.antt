-- From a flash that holds nothing but an empty volume a mount may go by summaries: there is none.
use Rattle.std.specs.Prelude.{◌≡◌, ◌≢◌, ℕ, false, List}
use Rattle.std.proofs.Common.{refl, sym, ◌∙◌, ap, subst, arith, inl, inr}
use Rattle.nand_model.specs.Flash.{Flash, Erased, Written}
use Rattle.nand_model.specs.Calls.{Device}
use Rattle.page_tags.specs.Headers.{Fields, IsHeader, header_bytes}
use Rattle.page_tags.specs.declared.header.ObjectKind.TheVariants as kinds
use Rattle.page_tags.specs.declared.tag.Tag.{Tag}
use Rattle.page_tags.specs.Tags.{IsTag, tag_bytes}
use Rattle.volume_terms.specs.Sizes.{root_number}
use Rattle.flash_tree.specs.Checkpoints.{Checkpoint, check_tag, IsWhole}
use Rattle.flash_tree.specs.ErasedBlocks.{OnlyFirstHasTags}
use Rattle.flash_tree.specs.Groups.{HasTag}
use Rattle.flash_tree.specs.MountableFlash.{IsMountableFlash, IsTreeFindable}
use Rattle.flash_tree.specs.Mount.{sizes_of}
use Rattle.flash_tree.specs.Newest.{Spot, IsNewest, HasNewest}
use Rattle.flash_tree.specs.Slots.{check_object}
use Rattle.flash_tree.specs.Summaries.{Summary, summary_tag, IsWholeSummary}
use Rattle.flash_tree.specs.Summarizing.{IsFindable}
use Rattle.flash_tree.specs.Tree.{IsPageSize, LooksUp}
use Rattle.flash_tree.specs.laws.Checking.{first_tag as check_first}
use Rattle.flash_tree.specs.laws.Finding.{same_header}
use Rattle.flash_tree.specs.laws.Newest.{one_newest}
use Rattle.flash_tree.specs.laws.SameSummary.{first_tag}
use Rattle.directories.specs.Heads.{fields_in}
use Rattle.formatting.specs.Formatting.{single_tag, empty_root, root_key, HoldsOnlyRoot}
use Rattle.formatting.proofs.Rooted.{only_there, only_tag, only_spot, newest_there}
use Rattle.formatting.proofs.Truth.{root_valid}

module _ (spare : ℕ) (d : Device) (only : HoldsOnlyRoot spare d) (head : IsHeader d.geometry.bytes (fields_in d.geometry.bytes (empty_root spare))) where
  abbrev f : Flash
  f = d.flash

  abbrev tag : Tag
  tag = single_tag root_key only.number

  abbrev root : Fields
  root = fields_in d.geometry.bytes (empty_root spare)

  abbrev bytes : List ℕ
  bytes = header_bytes root

  valid : IsTag tag
  valid = root_valid spare d only

  -- no tag is of the object of checkpoints and summaries
  none_tagged : (b l : ℕ) (t : Tag) → f.bad b ≡ false → HasTag f b l t → t.object ≢ check_object
  none_tagged b l t good has same =
      let is : t ≡ tag = only_tag f bytes tag valid only.alone b l t good has in
      let object : check_object ≡ root_number = sym same ∙ ap (λ (u : Tag). u.object) is in
      omega (arith, object)

  none_whole : (s : Summary) → IsWholeSummary d.geometry f s → ⊥
  none_whole s whole = none_tagged s.block 0 (summary_tag s 0) whole.good (first_tag d.geometry f s whole) refl

  none_checked : (c : Checkpoint) → IsWhole d.geometry f c → ⊥
  none_checked c whole = none_tagged c.block 0 (check_tag c 0) whole.good (check_first d.geometry f c whole) refl

  -- the block of the only tag does not begin erased
  first : OnlyFirstHasTags f
  first b k l t lt begins erased has =
      let at = only_there f bytes tag valid only.alone k l t erased.0 has in
      let page : f.page only.alone.block 0 ≡ Erased = ap (λ j. f.page j 0) (sym at.0) ∙ erased.1 in
      let two : Written bytes (tag_bytes tag) ≡ Erased = sym only.alone.page ∙ page in
      cc

  there : HasNewest f root_number 0 bytes
  there = newest_there f bytes tag valid only.alone refl refl

  root_findable : IsFindable d.geometry f root_number 0
  root_findable = record {
    ordinary = λ o c key same. let object : check_object ≡ root_number = sym same ∙ key.0 in omega (arith, object);
    there = λ o c key. (there.spot, subst (λ k. IsNewest f o k there.spot) (sym key.1) (subst (λ k. IsNewest f k 0 there.spot) (sym key.0) there.newest));
    listed = λ s o c p whole matches key newest at. absurd (none_whole s whole);
    latest = λ s e p whole matches listed key newest after. none_whole s whole;
    in_order = λ o c l p key newest lt erased.
        let page : p.page ≡ 0 = ap (λ (s : Spot). s.page) (only_spot f bytes tag valid only.alone o c p newest.holds) in
        omega (arith, lt, page);
  }

  size : IsPageSize d.geometry.bytes
  size = record { least = let low = d.geometry.least_bytes in omega (arith, low); most = d.geometry.most_bytes }

  -- only the root's header is looked up
  found : IsTreeFindable d.geometry f
  found n objects volume shows o c foot =
      let spot = foot.has.0 in
      let object : root_number ≡ o = ap (λ (s : Spot). s.tag.object) (sym (only_spot f bytes tag valid only.alone o 0 spot.spot spot.newest.holds)) ∙ spot.newest.holds.object in
      let fields : foot.fields ≡ root = same_header (sizes_of d.geometry n) size (HasNewest f) (one_newest f) o foot.fields root foot.has
      (subst (λ k. HasNewest f k 0 bytes) object there, head) in
      let chunk : c ≡ 0 = elim (subst (λ (x : Fields). LooksUp (sizes_of d.geometry n) x c) fields foot.looks) [
        | inl zero ↦ zero
        | inr (inl (kind, some, present)) ↦ let two : kinds.Directory ≡ kinds.File = kind in absurd cc
        | inr (inr (kind, (i, lt, is))) ↦ absurd (omega (arith, lt))
      ] in
      subst (λ k. IsFindable d.geometry f o k) (sym chunk) (subst (λ k. IsFindable d.geometry f k 0) object root_findable)

  pub root_mountable : IsMountableFlash d.geometry f
  root_mountable = record {
    summarized = record {
      right = record {
        older = λ s whole. absurd (none_whole s whole);
        versions = λ s e whole listed. absurd (none_whole s whole);
        below = λ s l t whole matches has. absurd (none_whole s whole);
        ordered = record {
          one = λ b l m t u good has has'. ap (λ (x : Tag). x.seq) (only_tag f bytes tag valid only.alone b l t good has ∙ sym (only_tag f bytes tag valid only.alone b m u good has'));
          rise = λ b k l m t u good good' has has' less.
              let same : t.seq ≡ u.seq = ap (λ (x : Tag). x.seq) (only_tag f bytes tag valid only.alone b l t good has ∙ sym (only_tag f bytes tag valid only.alone k m u good' has')) in
              absurd (omega (arith, same, less));
        };
      };
      first = first;
    };
    found = found;
    checkpoints = λ c whole. absurd (none_checked c whole);
  }
