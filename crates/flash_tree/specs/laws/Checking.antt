-- What keeps a flash true.
use mathlib.Core.Logic.{∥∥₁_elim}
use Rattle.std.specs.Prelude.{◌≡◌, ◌≢◌, ◌<◌, ◌≤◌, ℕ, ◌+◌, ◌*◌, ◌/◌, ◌^◌, true, false, List, length, Option, Some, None, Contains}
use Rattle.std.proofs.Common.{refl, sym, ◌∙◌, ap, subst, inl, inr, arith}
use Rattle.std.proofs.Math.Nat.{mul-le-mul}
use Rattle.std.proofs.lemmas.Bool.{cases_eq}
use Rattle.std.specs.FinMap as map
use Rattle.volume_terms.specs.Rounding.{ceiling}
use Rattle.volume_terms.specs.Sizes.{Sizes, root_number}
use Rattle.nand_model.specs.Size.{IsSize}
use Rattle.nand_model.specs.Flash.{Flash, Written}
use Rattle.nand_model.specs.Changes.{Grows}
use Rattle.nand_model.specs.declared.geometry.Geometry.{Geometry}
use Rattle.page_tags.specs.declared.tag.Tag.{Tag}
use Rattle.page_tags.specs.Tags.{tag_bytes}
use Rattle.page_tags.specs.Headers.{Fields, header_bytes}
use Rattle.posix_profile.specs.State.{Object, File, Dir}
use Rattle.flash_tree.specs.Groups.{HasTag, Group, IsGroup, IsPart, SameGroups, AddsGroup}
use Rattle.flash_tree.specs.Newest.{Spot, IsNewest, HasNewest}
use Rattle.flash_tree.specs.Fading.{Fades}
use Rattle.flash_tree.specs.Keeping.{StaysNewest}
use Rattle.flash_tree.specs.Numbering.{AreBelow}
use Rattle.flash_tree.specs.laws.Added.{newest_other}
use Rattle.flash_tree.specs.Tree.{NewestMap, HasHeader, ReadsAs, InFootprint, KeepsFootprint}
use Rattle.flash_tree.specs.Mount.{sizes_of, IsVolume}
use Rattle.flash_tree.specs.laws.Newest.{one_tag, tag_grows, one_newest, one_spot, keeps_elsewhere, has_newest_stays}
use Rattle.flash_tree.specs.Slots.{check_object}
use Rattle.flash_tree.specs.laws.Tree.{footprint_law}
use Rattle.flash_tree.specs.laws.OneTree.{one_header}
use Rattle.page_tags.specs.Checks.{check_page}
use Rattle.flash_tree.specs.Checkpoints.{Checkpoint, check_group, check_tag, IsWhole, ListsTree, IsRight, IsTrueFlash, IsChecked, HasNothing, AddsOrdinary, AddsCheckpoint}
use Rattle.page_tags.specs.declared.check.CheckEntry.{CheckEntry}
use Rattle.page_tags.specs.laws.Check.{same_entries}
use Rattle.flash_tree.specs.laws.Fading.{loses_fading, written_before, good_before}

-- ---- a whole checkpoint

-- a whole checkpoint has a page
pub has_page : (g : Geometry) (flash : Flash) (c : Checkpoint) → IsWhole g flash c → 1 ≤ c.size → HasTag flash c.block 0 (check_tag c 0)
has_page g flash c whole some = let there = whole.pages 0 some in record { bytes = check_page g.bytes c.entries 0; page = there.0; valid = there.1 }

-- what is some at all is at least one part
ceiling_least : (n d : ℕ) → 1 ≤ d → 1 ≤ n → 1 ≤ ceiling n d
ceiling_least n d some more = grind arith

-- and the parts reach to the end
ceiling_reaches : (n d : ℕ) → 1 ≤ d → n ≤ ceiling n d * d
ceiling_reaches n d some = grind arith

-- what is read has a header
shown_header : (z : Sizes) (m : NewestMap) (o : ℕ) (x : Object) → ReadsAs z m o x → (f : Fields) × HasHeader z m o f
shown_header z m o (File moment bytes) r = (r.fields, r.has)
shown_header z m o (Dir moment entries) r = (r.fields, r.has)

module _ (g : Geometry) where
  few_bytes : (spare : ℕ) → (sizes_of g spare).page_bytes ≤ 4096
  few_bytes spare = omega (arith, g.most_bytes)

  pub some_pages : (flash : Flash) (c : Checkpoint) → IsWhole g flash c → 1 ≤ c.size
  some_pages flash c whole =
      let most = ceiling_least (32 * (1 + length c.entries)) g.bytes (omega (arith, g.least_bytes)) (omega arith) in
      omega (arith, most, whole.size)

  pub first_tag : (flash : Flash) (c : Checkpoint) → IsWhole g flash c → HasTag flash c.block 0 (check_tag c 0)
  first_tag flash c whole = has_page g flash c whole (some_pages flash c whole)

  -- two right checkpoints lie in one block
  pub same_block : (flash : Flash) → IsTrueFlash g flash → (c d : Checkpoint) → IsWhole g flash c → IsWhole g flash d → c.block ≡ d.block
  same_block flash true_flash c d whole other = elim (cases_eq c.block d.block) [
    | inl same ↦ same
    | inr apart ↦
        let up = (true_flash d other).above c.block 0 (check_tag c 0) whole.good (first_tag flash c whole) in
        let down = (true_flash c whole).above d.block 0 (check_tag d 0) other.good (first_tag flash d other) in
        absurd ((true_flash d other).alone c.block 0 (check_tag c 0) whole.good apart (first_tag flash c whole) (omega (arith, up.2, down.2)))
  ]

  -- so of a true flash it is known which block may have one
  pub only_there : (flash : Flash) → IsTrueFlash g flash → (c : Checkpoint) → IsWhole g flash c → IsChecked g flash (Some c.block)
  only_there flash true_flash c whole = record { right = true_flash; only = λ d other. ap Some (same_block flash true_flash c d whole other) }

  -- with none there is nothing to be right
  pub none_checked : (flash : Flash) → ((c : Checkpoint) → IsWhole g flash c → ⊥) → (at : Option ℕ) → IsChecked g flash at
  none_checked flash none at = record { right = λ c whole. absurd (none c whole); only = λ c whole. absurd (none c whole) }

  pub none_where : (flash : Flash) → IsChecked g flash None → (c : Checkpoint) → IsWhole g flash c → ⊥
  none_where flash checked c whole = let two : None ≡ Some c.block = checked.only c whole in cc

  -- ---- the tree's pages stay

  module _ (old new : Flash) (entries : List CheckEntry) (tree : ListsTree g old entries) where
    abbrev z : Sizes
    z = sizes_of g tree.spare

    module _ (stays : (o k : ℕ) (s : Spot) → InFootprint z (HasNewest old) tree.objects o k → IsNewest old o k s → StaysNewest old new o k s) where
      keeps : KeepsFootprint z (HasNewest old) (HasNewest new) tree.objects
      keeps o k bytes foot is = has_newest_stays old new o k bytes is (stays o k is.spot foot is.newest)

      -- a header of an object of the tree is the one that it was
      header_is : (o : ℕ) (x : Object) → map.get tree.objects o ≡ Some x → (f : Fields) → HasHeader z (HasNewest old) o f → HasHeader z (HasNewest new) o f
      header_is o x there f has = (keeps o 0 (header_bytes f) (record { object = x; there = there; fields = f; has = has; looks = inl refl }) has.0, has.1)

      header_was : (o : ℕ) (x : Object) → map.get tree.objects o ≡ Some x → (f : Fields) → HasHeader z (HasNewest new) o f → HasHeader z (HasNewest old) o f
      header_was o x there f has =
          let was = shown_header z (HasNewest old) o x (tree.shows.each o x there) in
          let same : f ≡ was.0 = one_header z (few_bytes tree.spare) (HasNewest new) (λ p k xs ys. one_newest new p k xs ys) o f was.0 has (header_is o x there was.0 was.1) in
          subst (HasHeader z (HasNewest old) o) (sym same) was.1

      foot_was : (o k : ℕ) → InFootprint z (HasNewest new) tree.objects o k → InFootprint z (HasNewest old) tree.objects o k
      foot_was o k foot = record { object = foot.object; there = foot.there; fields = foot.fields; has = header_was o foot.object foot.there foot.fields foot.has; looks = foot.looks }

      foot_is : (o k : ℕ) → InFootprint z (HasNewest old) tree.objects o k → InFootprint z (HasNewest new) tree.objects o k
      foot_is o k foot = record { object = foot.object; there = foot.there; fields = foot.fields; has = header_is o foot.object foot.there foot.fields foot.has; looks = foot.looks }

      volume : IsVolume g (HasNewest new) tree.spare
      volume =
          let root = tree.shows.tree.forest.root in
          let was = tree.volume in
          record {
            fields = was.fields;
            has = header_is root_number (Dir root.0 root.1) root.2 was.fields was.has;
            kind = was.kind;
            spare_is = was.spare_is;
            room = was.room;
          }

      -- where the newest pages of the tree stay, the entries list it still
      pub lists_committed : ListsTree g new entries
      lists_committed = record {
        spare = tree.spare;
        objects = tree.objects;
        volume = volume;
        shows = footprint_law z (HasNewest old) (HasNewest new) tree.objects keeps tree.shows;
        all = λ o k foot. tree.all o k (foot_was o k foot);
        only = λ e is. let was = tree.only e is in (foot_is e.object e.chunk was.0, (was.1.0, (stays e.object e.chunk was.1.0 was.0 was.1.1).newest, was.1.2));
      }

  -- ---- a block fades

  module _ (b : ℕ) (old new : Flash) (fades : Fades b old new) where
    pub whole_before : (c : Checkpoint) → IsWhole g new c → IsWhole g old c
    whole_before c whole = record {
      good = good_before b old new fades c.block whole.good;
      size = whole.size;
      pages = λ i lt. (written_before b old new fades c.block (0 + i) _ _ (whole.pages i lt).0, (whole.pages i lt).1);
      entries = whole.entries;
      rise = whole.rise;
    }

    tag_before : (k l : ℕ) (t : Tag) → HasTag new k l t → HasTag old k l t
    tag_before k l t has = record { bytes = has.bytes; page = written_before b old new fades k l has.bytes _ has.page; valid = has.valid }

    pub none_faded : IsChecked g old None → IsChecked g new None
    none_faded checked = none_checked new (λ c whole. none_where old checked c (whole_before c whole)) None

    -- the tree's pages stay where none of them lies in the block
    module _ (c : Checkpoint) (right : IsRight g old c) (there : c.block ≡ b) where
      abbrev tree : ListsTree g old c.entries
      tree = right.tree

      elsewhere : (o k : ℕ) (s : Spot) → InFootprint (sizes_of g tree.spare) (HasNewest old) tree.objects o k → IsNewest old o k s → s.block ≢ b
      elsewhere o k s foot newest at =
          let listed = tree.all o k foot in
          let of_key = (tree.only listed.0 listed.1).1 in
          let here : IsNewest old o k of_key.0 = subst (λ j. IsNewest old o j of_key.0) listed.3 (subst (λ p. IsNewest old p listed.0.chunk of_key.0) listed.2 of_key.1) in
          let same : of_key.0 ≡ s = one_spot old o k of_key.0 s here newest in
          right.apart listed.0 listed.1 (ap (λ (e : CheckEntry). e.block) of_key.2 ∙ ap (λ (t : Spot). t.block) same ∙ at ∙ sym there)

      lists : ListsTree g new c.entries
      lists = lists_committed old new c.entries tree (λ o k s foot newest. keeps_elsewhere b old new (loses_fading b old new fades) o k s newest (elsewhere o k s foot newest))

      -- the checkpoint is right still
      right_still : IsRight g new c
      right_still = record {
        tree = lists;
        apart = right.apart;
        above = λ k l t good has. right.above k l t (good_before b old new fades k good) (tag_before k l t has);
        alone = λ k l t good ne has. right.alone k l t (good_before b old new fades k good) ne (tag_before k l t has);
      }

    -- where the block is the one that may have a checkpoint, it is known of it still
    pub checked_faded : IsChecked g old (Some b) → IsChecked g new (Some b)
    checked_faded checked = record {
      right = λ c whole.
          let was = whole_before c whole in
          let at : Some b ≡ Some c.block = checked.only c was in
          let there : c.block ≡ b = cc in
          right_still c (checked.right c was) there;
      only = λ c whole. checked.only c (whole_before c whole);
    }

    -- and where nothing is written in it any more, or it is bad, there is none
    pub none_left : HasNothing new b → IsChecked g old (Some b) → IsChecked g new None
    none_left gone checked = none_checked new (λ c whole.
        let at : Some b ≡ Some c.block = checked.only c (whole_before c whole) in
        let there : c.block ≡ b = cc in
        elim gone [
          | inl nothing ↦ nothing (0 + 0) _ _ (ap (λ k. new.page k (0 + 0)) (sym there) ∙ (whole.pages 0 (some_pages new c whole)).0)
          | inr bad ↦ let two : true ≡ false = sym bad ∙ ap new.bad (sym there) ∙ whole.good in absurd cc
        ]) None

  -- ---- one block has one checkpoint

  -- a page is so many parts of 32 bytes
  parts : 32 * (g.bytes / 32) ≡ g.bytes
  parts = elim (cases_eq (32 * (g.bytes / 32)) g.bytes) [
    | inl same ↦ same
    | inr ne ↦ absurd (∥∥₁_elim g.sizes (λ x y. absurd x) (λ (size : IsSize g.bytes g.pages g.blocks). elim size.bytes_of_page [
      | inl is ↦ ne (omega (arith, is))
      | inr (inl is) ↦ ne (omega (arith, is))
      | inr (inr (inl is)) ↦ ne (omega (arith, is))
      | inr (inr (inr is)) ↦ ne (omega (arith, is))
    ]))
  ]

  -- the head and the entries have room in the pages of a checkpoint
  room : (flash : Flash) (c : Checkpoint) → IsWhole g flash c → 1 + length c.entries ≤ c.size * (g.bytes / 32)
  room flash c whole =
      let reach = ceiling_reaches (32 * (1 + length c.entries)) g.bytes (omega (arith, g.least_bytes)) in
      let size : c.size * g.bytes ≡ ceiling (32 * (1 + length c.entries)) g.bytes * g.bytes = ap (λ n. n * g.bytes) whole.size in
      let all : c.size * (32 * (g.bytes / 32)) ≡ c.size * g.bytes = ap (λ n. c.size * n) parts in
      let turn : c.size * (32 * (g.bytes / 32)) ≡ 32 * (c.size * (g.bytes / 32)) = grind arith in
      omega (arith, reach, size, all, turn)

  few_pages : (flash : Flash) (c : Checkpoint) → IsWhole g flash c → c.size * (g.bytes / 32) < 2 ^ 64
  few_pages flash c whole =
      let count : c.size ≤ 256 = (first_tag flash c whole).valid.count.1 in
      let most : g.bytes / 32 ≤ 128 = omega (arith, g.most_bytes) in
      let all : c.size * (g.bytes / 32) ≤ 256 * 128 = mul-le-mul count most in
      omega (arith, all)

  -- what a block has as its whole checkpoint is one
  pub same_checkpoint : (flash : Flash) (c d : Checkpoint) → IsWhole g flash c → IsWhole g flash d → c.block ≡ d.block → c ≡ d
  same_checkpoint flash c d whole other block =
      let tags : check_tag c 0 ≡ check_tag d 0 = one_tag flash d.block 0 (check_tag c 0) (check_tag d 0) (subst (λ k. HasTag flash k 0 (check_tag c 0)) block (first_tag flash c whole)) (first_tag flash d other) in
      let size : c.size ≡ d.size = ap (λ (t : Tag). t.count) tags in
      let number : c.number ≡ d.number = ap (λ (t : Tag). t.group) tags in
      let seq : c.seq ≡ d.seq = ap (λ (t : Tag). t.seq) tags in
      let pages : (i : ℕ) → i < c.size → check_page g.bytes c.entries i ≡ check_page g.bytes d.entries i = λ i lt.
      let two : Written (check_page g.bytes c.entries i) (tag_bytes (check_tag c i)) ≡ Written (check_page g.bytes d.entries i) (tag_bytes (check_tag d i)) =
      sym (whole.pages i lt).0 ∙ ap (λ k. flash.page k (0 + i)) block ∙ (other.pages i (omega (arith, lt, size))).0 in
      cc in
      let per_size : d.size * (g.bytes / 32) ≡ c.size * (g.bytes / 32) = ap (λ n. n * (g.bytes / 32)) (sym size) in
      let entries : c.entries ≡ d.entries = same_entries g.bytes (omega (arith, g.least_bytes)) c.entries d.entries c.size pages
      (room flash c whole) (omega (arith, room flash d other, per_size)) (few_pages flash c whole) whole.entries other.entries in
      λ i. record { block = block i; size = size i; number = number i; seq = seq i; entries = entries i }

  -- ---- a group is written

  pub group_whole : (flash : Flash) (c : Checkpoint) → IsWhole g flash c → IsGroup flash (check_group c)
  group_whole flash c whole = record {
    good = whole.good;
    some = some_pages flash c whole;
    each = λ i lt. record {
      tag = check_tag c i;
      has = record { bytes = check_page g.bytes c.entries i; page = (whole.pages i lt).0; valid = (whole.pages i lt).1 };
      index = refl;
      count = refl;
      group = refl;
      seq = refl;
    };
  }

  module _ (old new : Flash) (grows : Grows old new) (bads : new.bad ≡ old.bad) where
    -- a checkpoint whose group was whole before was whole
    whole_as : (c : Checkpoint) → IsWhole g new c → IsGroup old (check_group c) → IsWhole g old c
    whole_as c whole was = record {
      good = ap (λ f. f c.block) (sym bads) ∙ whole.good;
      size = whole.size;
      pages = λ i lt.
          let part : IsPart old (check_group c) i = was.each i lt in
          (sym (tag_grows old new grows c.block (0 + i) part.tag part.has) ∙ (whole.pages i lt).0, (whole.pages i lt).1);
      entries = whole.entries;
      rise = whole.rise;
    }

    -- A group that is not of the checkpoint's object is no checkpoint, nor does it make one of other pages.
    none_added : (added : Group) → AddsGroup added old new → ((t : Tag) → HasTag new added.block added.start t → t.object ≢ check_object) → IsChecked g old None → IsChecked g new None
    none_added added adds other checked = none_checked new (λ c whole.
        elim ((adds (check_group c)).0 (group_whole new c whole)) [
          | inl was ↦ none_where old checked c (whole_as c whole was)
          | inr is ↦
              let block : c.block ≡ added.block = ap (λ (x : Group). x.block) is in
              let start : 0 ≡ added.start = ap (λ (x : Group). x.start) is in
              other (check_tag c 0) (subst (λ p. HasTag new added.block p (check_tag c 0)) start (subst (λ k. HasTag new k 0 (check_tag c 0)) block (first_tag new c whole))) refl
        ]) None

    -- and where no group is added there is none
    none_same : SameGroups old new → IsChecked g old None → IsChecked g new None
    none_same same checked = none_checked new (λ c whole. none_where old checked c (whole_as c whole ((same (check_group c)).0 (group_whole new c whole)))) None

    -- The group of a checkpoint is written: it lists the tree, of which no page lies in its block and no object has its number, and its
    -- numbers are above all that was there. So it is right, and the only one.
    module _ (c : Checkpoint) (adds : AddsGroup (check_group c) old new) (whole : IsWhole g new c) (checked : IsChecked g old None)
        (tree : ListsTree g old c.entries) (apart : (e : CheckEntry) → Contains c.entries e → e.block ≢ c.block)
        (other : (e : CheckEntry) → Contains c.entries e → e.object ≢ check_object) (below : AreBelow old c.number c.seq) (after : AreBelow new (1 + c.number) (1 + c.seq))
        (elsewhere : (k l : ℕ) → k ≢ c.block → new.page k l ≡ old.page k l) where
      keeps_written : (o k : ℕ) (s : Spot) → InFootprint (sizes_of g tree.spare) (HasNewest old) tree.objects o k → IsNewest old o k s → StaysNewest old new o k s
      keeps_written o k s foot newest =
          newest_other (check_group c) (check_tag c) (check_page g.bytes c.entries) old new adds grows whole.pages o k s
          (λ i lt object chunk. let e = tree.all o k foot in other e.0 e.1 (e.2 ∙ sym object)) newest

      lists_written : ListsTree g new c.entries
      lists_written = lists_committed old new c.entries tree keeps_written

      only_this : (d : Checkpoint) → IsWhole g new d → d.block ≡ c.block
      only_this d there = elim ((adds (check_group d)).0 (group_whole new d there)) [
        | inl was ↦ absurd (none_where old checked d (whole_as d there was))
        | inr is ↦ ap (λ (x : Group). x.block) is
      ]

      -- each tag was there before, or is one of the checkpoint's
      tag_was : (b l : ℕ) (t : Tag) → HasTag new b l t → b ≢ c.block → HasTag old b l t
      tag_was b l t has ne = record { bytes = has.bytes; page = sym (elsewhere b l ne) ∙ has.page; valid = has.valid }

      is_right : IsRight g new c
      is_right = record {
        tree = lists_written;
        apart = apart;
        above = λ b l t good has. let less = after b l t good has in (omega (arith, less.0), omega (arith, less.1), omega (arith, less.2));
        alone = λ b l t good ne has same.
            let less = (below b l t (ap (λ f. f b) (sym bads) ∙ good) (tag_was b l t has ne)).2 in
            omega (arith, less, same);
      }

      checkpoint_right : IsChecked g new (Some c.block)
      checkpoint_right = record {
        right = λ d there. subst (IsRight g new) (same_checkpoint new c d whole there (sym (only_this d there))) is_right;
        only = λ d there. ap Some (sym (only_this d there));
      }

  -- ---- what is added, in one word

  pub ordinary_added : (old new : Flash) → AddsOrdinary old new → IsChecked g old None → IsChecked g new None
  ordinary_added old new adds checked = elim adds.groups [
    | inl same ↦ none_same old new adds.grows adds.bads same checked
    | inr (group, is, other) ↦ none_added old new adds.grows adds.bads group is other checked
  ]

  pub checkpoint_added : (old new : Flash) (c : Checkpoint) → AddsCheckpoint g old new c → IsChecked g old None → IsChecked g new (Some c.block)
  checkpoint_added old new c w checked = checkpoint_right old new w.grows w.bads c w.adds w.whole checked w.tree w.apart w.ordinary w.below w.above w.elsewhere

  pub one_checkpoint : (flash : Flash) (c d : Checkpoint) → IsTrueFlash g flash → IsWhole g flash c → IsWhole g flash d → c ≡ d
  one_checkpoint flash c d true_flash whole other = same_checkpoint flash c d whole other (same_block flash true_flash c d whole other)
