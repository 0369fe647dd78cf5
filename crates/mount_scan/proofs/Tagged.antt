-- From the tags of a block to the flash.
use Rattle.std.specs.Prelude.{◌≡◌, ◌↔◌, ◌<◌, ◌≤◌, ℕ, ◌+◌, ◌-◌, true, false, List, [], Option, Some, None, length, slice_get}
use Rattle.std.specs.List.{AllPairs}
use Rattle.std.proofs.Common.{refl, sym, ◌∙◌, ap, subst, inl, inr, arith, get_or}
use Rattle.std.proofs.lemmas.Bool.{cases_eq, false≢true}
use Rattle.std.proofs.lemmas.Option.{slice_get-get_or}
use Rattle.std.proofs.lemmas.List.Elements.{All-contains, Contains-get_or}
use Rattle.nand_model.specs.Flash.{Flash, IsWithin}
use Rattle.nand_model.specs.Calls.{Device}
use Rattle.nand_model.specs.Changes.{OnlyReads}
use Rattle.nand_model.specs.declared.geometry.Geometry.{Geometry}
use Rattle.page_tags.specs.declared.tag.Tag.{Tag}
use Rattle.flash_tree.specs.Groups.{HasTag, Group, IsPart, IsGroup}
use Rattle.flash_tree.specs.Newest.{Holds}
use Rattle.flash_tree.specs.laws.Newest.{one_tag}
use Rattle.flash_tree.specs.declared.place.Found.{Found}
use Rattle.flash_tree.specs.Places.{spot_of, group_of, CountsByTag, TagIs}
use Rattle.flash_tree.specs.laws.Place.{same_flash, tag_placed, counts_by_tag}
use Rattle.mount_scan.specs.Scanned.{AreCounted, ArePlaced, IsPlaceBefore, ReportsCounted}
use Rattle.mount_scan.specs.laws.Scan.{found_of, listed_spot}
use Rattle.mount_scan.specs.Runs.{IsPartOf, IsRun, IsCountedIn, AddsCounted}
use Rattle.mount_scan.specs.Blocks.{AreTags, AreCountedBelow, ReportsBelow}

-- ---- some tags of a block

module _ (f : Flash) (b : ℕ) (tags : List (Option Tag)) where
  pub reported_is : (p : ℕ) (t : Tag) (o : Option Tag) → HasTag f b p t → slice_get tags p ≡ Some o → TagIs f b p o → slice_get tags p ≡ Some (Some t)
  reported_is p t None has at is = absurd (is t has)
  reported_is p t (Some u) has at is = at ∙ ap (λ (v : Tag). Some (Some v)) (one_tag f b p u t is has)

  -- a whole group whose tags are listed is a run in the list
  run_of : (g : Group) (whole : IsGroup f g) → ((i : ℕ) (lt : i < g.size) → slice_get tags (g.start + i) ≡ Some (Some (whole.each i lt).tag)) → (first : Tag) × (IsRun tags g.start first) × (first.count ≡ g.size)
  run_of g whole has_at =
      let some : 0 < g.size = omega (arith, whole.some) in
      let first : IsPart f g 0 = whole.each 0 some in
      let start : g.start + 0 ≡ g.start = omega arith in (
        first.tag,
        record {
          here = subst (λ p. slice_get tags p ≡ Some (Some first.tag)) start (has_at 0 some);
          each = λ i lt.
              let lt_size : i < g.size = omega (arith, lt, first.count) in
              let part : IsPart f g i = whole.each i lt_size in
              record {
                tag = part.tag;
                there = has_at i lt_size;
                index = part.index;
                count = part.count ∙ sym first.count;
                group = part.group ∙ sym first.group;
                seq = part.seq ∙ sym first.seq;
              };
        },
        first.count,
      )

  -- a valid page is in the count in the list, where the tags of its group are listed
  pub held_counted : (x : Found) → x.block ≡ b → (by_tag : CountsByTag f x.tag.object x.tag.chunk (spot_of x))
      → ((i : ℕ) (lt : i < x.tag.count) → slice_get tags (x.page - x.tag.index + i) ≡ Some (Some (by_tag.whole.each i lt).tag)) → x.page < length tags → slice_get tags x.page ≡ Some (Some x.tag)
      → IsCountedIn b tags (length tags) x
  held_counted x here by_tag each before tag =
      let run = run_of (group_of (spot_of x)) by_tag.whole each in
      record {
        block = here;
        before = before;
        tag = tag;
        start = x.page - x.tag.index;
        within = record { first = run.0; run = run.1; from = omega arith; to = omega (arith, by_tag.start, run.2, by_tag.has.valid.index) };
      }

  module _ (there : (p : ℕ) (t : Tag) → slice_get tags p ≡ Some (Some t) → HasTag f b p t) where
    -- a run in the list is a whole group of the flash
    group_of_run : (start : ℕ) (first : Tag) → f.bad b ≡ false → 1 ≤ first.count → IsRun tags start first
        → IsGroup f (record { block = b; start = start; size = first.count; number = first.group; seq = first.seq })
    group_of_run start first good some run = record {
      good = good;
      some = some;
      each = λ i lt.
          let part : IsPartOf tags start first i = run.each i lt in
          record { tag = part.tag; has = there (start + i) part.tag part.there; index = part.index; count = part.count; group = part.group; seq = part.seq };
    }

    -- what is in the count in the list is a valid page
    pub counted_held : (x : Found) → f.bad b ≡ false → IsCountedIn b tags (length tags) x → (x.block ≡ b) × Holds f x.tag.object x.tag.chunk (spot_of x)
    counted_held x good is =
        let run = is.within in (
          is.block,
          record {
            group = record { block = b; start = is.start; size = run.first.count; number = run.first.group; seq = run.first.seq };
            whole = group_of_run is.start run.first good (omega (arith, run.from, run.to)) run.run;
            index = x.page - is.start;
            within = omega (arith, run.from, run.to);
            block = is.block;
            page = omega (arith, run.from);
            has = subst (λ k. HasTag f k x.page x.tag) (sym is.block) (there x.page x.tag is.tag);
            object = refl;
            chunk = refl;
          },
        )

-- ---- all of them

module _ (f : Flash) (b pages blocks : ℕ) (tags : List (Option Tag)) (within : IsWithin pages blocks f) (len : length tags ≡ pages) (reported : AreTags f b tags) where
  -- a tag on the flash stands in the list
  pub tag_reported : (p : ℕ) (t : Tag) → HasTag f b p t → slice_get tags p ≡ Some (Some t)
  tag_reported p t has =
      let lt : p < length tags = omega (arith, (tag_placed pages blocks f b p t within has).1, len) in
      let at : slice_get tags p ≡ Some (get_or tags p None) = slice_get-get_or tags p None lt in
      reported_is f b tags p t (get_or tags p None) has at (reported p (get_or tags p None) at)

  -- what counts in a block is reported by its tags
  pub counted_reported : (x : Found) → f.bad b ≡ false → ((x.block ≡ b) × Holds f x.tag.object x.tag.chunk (spot_of x)) ↔ IsCountedIn b tags (length tags) x
  counted_reported x good = (
    λ holds.
        let by_tag = (counts_by_tag f x.tag.object x.tag.chunk (spot_of x)).0 holds.1 in
        let has : HasTag f b x.page x.tag = subst (λ k. HasTag f k x.page x.tag) holds.0 by_tag.has in
        held_counted f b tags x holds.0 by_tag
        (λ i lt. tag_reported (x.page - x.tag.index + i) (by_tag.whole.each i lt).tag (subst (λ k. HasTag f k (x.page - x.tag.index + i) (by_tag.whole.each i lt).tag) holds.0 (by_tag.whole.each i lt).has))
        (omega (arith, (tag_placed pages blocks f b x.page x.tag within has).1, len)) (tag_reported x.page x.tag has),
    counted_held f b tags (λ p t at. reported p (Some t) at) x good,
  )

  -- with what counts in a block it is the next block's turn
  below_block : (old new : List Found) → f.bad b ≡ false → AddsCounted b tags (length tags) old new → AreCountedBelow f b old → AreCountedBelow f (b + 1) new
  below_block old new good adds below = record {
    each = λ x. (
      λ has. elim ((adds.each x).0 has) [
        | inl was ↦ let is = (below.each x).0 was in (omega (arith, is.0), is.1)
        | inr is ↦ let holds = (counted_reported x good).1 is in (omega (arith, holds.0), holds.1)
      ],
      λ holds. elim (cases_eq x.block b) [
        | inr ne ↦ (adds.each x).1 (inl ((below.each x).1 (omega (arith, holds.0, ne), holds.1)))
        | inl here ↦ (adds.each x).1 (inr ((counted_reported x good).0 (here, holds.1)))
      ],
    );
    order = adds.order below.order (λ x y was is. inl (omega (arith, ((below.each x).0 was).0, is.block)));
  }

module _ (f : Flash) where
  -- a bad block is passed
  below_bad : (b : ℕ) (list : List Found) → f.bad b ≡ true → AreCountedBelow f b list → AreCountedBelow f (b + 1) list
  below_bad b list bad below = record {
    each = λ x. (
      λ has. let is = (below.each x).0 has in (omega (arith, is.0), is.1),
      λ holds. elim (cases_eq x.block b) [
        | inr ne ↦ (below.each x).1 (omega (arith, holds.0, ne), holds.1)
        | inl here ↦ absurd (false≢true (sym holds.1.whole.good ∙ ap f.bad (sym holds.1.block ∙ here) ∙ bad))
      ],
    );
    order = below.order;
  }

  -- before the first block there is none
  below_none : AreCountedBelow f 0 []
  below_none = record {
    each = λ x. (λ has. absurd (omega (arith, has.1)), λ holds. absurd (omega (arith, holds.0)));
    order = λ i j d lt within. absurd (omega (arith, within));
  }

  -- below the end of the device are all
  below_all : (pages blocks : ℕ) (list : List Found) → IsWithin pages blocks f → AreCountedBelow f blocks list → AreCounted f list
  below_all pages blocks list within below = record {
    each = λ s. (
      λ holds. (listed_spot list s).1 ((below.each (found_of s)).1 ((tag_placed pages blocks f s.block s.page s.tag within holds.has).0, holds)),
      λ has. ((below.each (found_of s)).0 ((listed_spot list s).0 has)).1,
    );
    order = below.order;
  }

-- the places of a block that was added
placed_block : (b pages : ℕ) (tags : List (Option Tag)) (old new : List Found) → length tags ≡ pages → AddsCounted b tags (length tags) old new → ArePlaced b pages old
    → ArePlaced (b + 1) pages new
placed_block b pages tags old new len adds placed k d lt = elim ((adds.each (get_or new k d)).0 (Contains-get_or new k d lt)) [
  | inl was ↦ let is = All-contains (λ x. (x.block < b) × (x.page < pages)) old (get_or new k d) placed was in (omega (arith, is.0), is.1)
  | inr is ↦ (omega (arith, is.block), omega (arith, is.before, len))
]

-- and their order
order_block : (b pages : ℕ) (tags : List (Option Tag)) (old new : List Found) → AddsCounted b tags (length tags) old new → ArePlaced b pages old → AllPairs IsPlaceBefore old
    → AllPairs IsPlaceBefore new
order_block b pages tags old new adds placed order =
    adds.order order (λ x y was is. inl (omega (arith, (All-contains (λ x. (x.block < b) × (x.page < pages)) old x placed was).0, is.block)))

-- after a block what is reported of one more
pub reports_block : (device : Device) (b : ℕ) (tags : List (Option Tag)) → IsWithin device.geometry.pages device.geometry.blocks device.flash → length tags ≡ device.geometry.pages
    → (device.honest ≡ true → AreTags device.flash b tags) → (old new : List Found) → device.flash.bad b ≡ false → AddsCounted b tags (length tags) old new
    → ReportsBelow device b old → ReportsBelow device (b + 1) new
reports_block device b tags within len reported old new good adds below = record {
  placed = placed_block b device.geometry.pages tags old new len adds below.placed;
  order = order_block b device.geometry.pages tags old new adds below.placed below.order;
  exact = λ honest. below_block device.flash b device.geometry.pages device.geometry.blocks tags within len (reported honest) old new good adds (below.exact honest);
}

-- after a bad one nothing more is
pub reports_bad : (device : Device) (b : ℕ) (list : List Found) → device.flash.bad b ≡ true → ReportsBelow device b list → ReportsBelow device (b + 1) list
reports_bad device b list bad below = record {
  placed = λ k d lt. let is = below.placed k d lt in (omega (arith, is.0), is.1);
  order = below.order;
  exact = λ honest. below_bad device.flash b list bad (below.exact honest);
}

-- after some reads the same is
pub reports_on : (a b : Device) (k : ℕ) (list : List Found) → OnlyReads a b → ReportsBelow a k list → ReportsBelow b k list
reports_on a b k list reads reports = record {
  placed = subst (λ (g : Geometry). ArePlaced k g.pages list) (sym reads.lasts.geometry) reports.placed;
  order = reports.order;
  exact = λ honest.
      let was : a.honest ≡ true = sym reads.lasts.honest ∙ honest in
      subst (λ f. AreCountedBelow f k list) (sym (same_flash a b reads was)) (reports.exact was);
}

pub reports_back : (a b : Device) (k : ℕ) (list : List Found) → OnlyReads a b → ReportsBelow b k list → ReportsBelow a k list
reports_back a b k list reads reports = record {
  placed = subst (λ (g : Geometry). ArePlaced k g.pages list) reads.lasts.geometry reports.placed;
  order = reports.order;
  exact = λ honest. subst (λ f. AreCountedBelow f k list) (same_flash a b reads honest) (reports.exact (reads.lasts.honest ∙ honest));
}

-- before the first block nothing is
pub reports_none : (device : Device) → ReportsBelow device 0 []
reports_none device = record {
  placed = λ k d lt. absurd (omega (arith, lt));
  order = λ i j d lt within. absurd (omega (arith, within));
  exact = λ honest. below_none device.flash;
}

-- after the last block all is
pub reports_all : (device : Device) (list : List Found) → IsWithin device.geometry.pages device.geometry.blocks device.flash → ReportsBelow device device.geometry.blocks list → ReportsCounted device list
reports_all device list within below = record {
  placed = below.placed;
  order = below.order;
  exact = λ honest. below_all device.flash device.geometry.pages device.geometry.blocks list within (below.exact honest);
}
