-- The newest page of each key is left.
use Rattle.std.specs.Prelude.{◌≡◌, ◌<◌, ◌^◌, ℕ, ◌+◌, false, true, List, [], Option, length, Contains}
use Rattle.std.proofs.Common.{refl, sym, ◌∙◌, ap, subst, inl, inr, arith, get_or}
use Rattle.std.proofs.lemmas.Bool.{cases_eq, false≢true}
use Rattle.std.proofs.lemmas.List.Elements.{Contains-get_or}
use Rattle.nand_model.specs.Flash.{Flash, IsWithin}
use Rattle.nand_model.specs.Calls.{Device}
use Rattle.nand_model.specs.Changes.{OnlyReads}
use Rattle.nand_model.specs.declared.geometry.Geometry.{Geometry}
use Rattle.page_tags.specs.declared.tag.Tag.{Tag}
use Rattle.flash_tree.specs.Newest.{Spot, Holds, IsAfter, IsNewest}
use Rattle.flash_tree.specs.laws.Newest.{one_spot}
use Rattle.flash_tree.specs.laws.Place.{same_flash, tag_placed}
use Rattle.flash_tree.specs.declared.place.Found.{Found}
use Rattle.flash_tree.specs.Places.{spot_of}
use Rattle.mount_scan.specs.Copies.{FitsCopy, HasValidName, copy_at, copy_of, spot_of_copy}
use Rattle.mount_scan.specs.Keys.{HaveOneKey, ThinsFound, AreLatest}
use Rattle.mount_scan.specs.declared.page_copy.PageCopy.{PageCopy}
use Rattle.mount_scan.specs.laws.Order.{not_after_on}
use Rattle.mount_scan.specs.Scanned.{IsNewestCopy, AreNewest, ListsNewest}
use Rattle.mount_scan.specs.laws.Scan.{found_of}
use Rattle.mount_scan.specs.Runs.{AddsCounted}
use Rattle.mount_scan.specs.Blocks.{AreTags}
use Rattle.mount_scan.specs.Latest.{ReportsBlock, IsCountedCopy, HasLatestBelow}
use Rattle.mount_scan.proofs.Tagged.{counted_reported}

pub none_in : (f : Found) → Contains [] f → ⊥
none_in f has = absurd (omega (arith, has.1))

-- ---- copies

pub counted_copy : (flash : Flash) (x : Found) (f : PageCopy) → copy_of x ≡ f → Holds flash x.tag.object x.tag.chunk (spot_of x) → IsCountedCopy flash f
counted_copy flash x f same holds = subst (IsCountedCopy flash) same (record { spot = spot_of x; holds = holds; copied = refl })

-- ---- one block

-- the pages that its tags tell
pub one_block : (device : Device) (b : ℕ) (tags : List (Option Tag)) → IsWithin device.geometry.pages device.geometry.blocks device.flash → length tags ≡ device.geometry.pages
    → (device.honest ≡ true → AreTags device.flash b tags) → (old new : List Found) → device.flash.bad b ≡ false → AddsCounted b tags (length tags) old new → old ≡ [] → ReportsBlock device b new
one_block device b tags within len reported old new good adds empty =
    let none : (f : Found) → Contains old f → ⊥ = λ f has. none_in f (subst (λ xs. Contains xs f) empty has) in
    record {
      placed = λ f has. elim ((adds.each f).0 has) [
        | inl was ↦ absurd (none f was)
        | inr is ↦ (is.block, omega (arith, is.before, len))
      ];
      exact = λ honest f. (
        λ has. elim ((adds.each f).0 has) [
          | inl was ↦ absurd (none f was)
          | inr is ↦ (counted_reported device.flash b device.geometry.pages device.geometry.blocks tags within len (reported honest) f good).1 is
        ],
        λ holds. (adds.each f).1 (inr ((counted_reported device.flash b device.geometry.pages device.geometry.blocks tags within len (reported honest) f good).0 holds)),
      );
    }

-- a bad one has none
pub no_block : (device : Device) (b : ℕ) (list : List Found) → device.flash.bad b ≡ true → list ≡ [] → ReportsBlock device b list
no_block device b list bad empty =
    let none : (f : Found) → Contains list f → ⊥ = λ f has. none_in f (subst (λ xs. Contains xs f) empty has) in
    record {
      placed = λ f has. absurd (none f has);
      exact = λ honest f. (
        λ has. absurd (none f has),
        λ holds. absurd (false≢true (sym holds.1.whole.good ∙ ap device.flash.bad (sym holds.1.block ∙ holds.0) ∙ bad)),
      );
    }

-- ---- block after block

pub latest_none : (device : Device) (list : List PageCopy) → ((f : PageCopy) → Contains list f → ⊥) → HasLatestBelow device 0 list
latest_none device list none = record {
  placed = λ f has. absurd (none f has);
  low = λ f has. absurd (none f has);
  held = λ honest f has. absurd (none f has);
  some = λ honest g lt. absurd (omega (arith, lt));
}

-- a copy of a page that fits has the chunk of one
copy_low : (x : Found) (f : PageCopy) → FitsCopy x → copy_of x ≡ f → f.chunk < 2 ^ 32
copy_low x f fits same = subst (λ (y : PageCopy). y.chunk < 2 ^ 32) same fits.0

-- a page that counts has a valid tag
pub held_named : (flash : Flash) (o c : ℕ) (s : Spot) → Holds flash o c s → HasValidName (copy_at s)
held_named flash o c s holds = let valid = holds.has.valid in (valid.object.0, valid.object.1, valid.version.0)

-- each place of a device fits
pub place_fits : (g : Geometry) (x : Found) → x.tag.chunk < 2 ^ 32 → x.block < g.blocks → x.page < g.pages → HasValidName (copy_of x) → FitsCopy x
place_fits g x low block page named =
    let blocks = g.most_blocks in
    let pages = g.most_pages in
    (low, omega (arith, block, blocks), omega (arith, page, pages), named)

pub latest_block : (device : Device) (b : ℕ) (one : List Found) (old new : List PageCopy) → b < device.geometry.blocks → ReportsBlock device b one → ThinsFound one old new → HasLatestBelow device b old
    → HasLatestBelow device (b + 1) new
latest_block device b one old new within reports thins below = record {
  placed = λ f has. elim (thins.among f has) [
    | inl was ↦ let is = below.placed f was in (omega (arith, is.0), is.1)
    | inr is ↦
        let (x, there, fits, same) = is in
        let at = reports.placed x there in
        subst (λ (y : PageCopy). (y.block < b + 1) × (y.page < device.geometry.pages)) same (omega (arith, at.0), at.1)
  ];
  low = λ f has. elim (thins.among f has) [
    | inl was ↦ below.low f was
    | inr is ↦ let (x, there, fits, same) = is in copy_low x f fits same
  ];
  held = λ honest f has. elim (thins.among f has) [
    | inl was ↦ below.held honest f was
    | inr is ↦ let (x, there, fits, same) = is in counted_copy device.flash x f same ((reports.exact honest x).0 there).1
  ];
  some = λ honest g lt low holds. elim (cases_eq g.block b) [
    | inl here ↦
        let has = (reports.exact honest g).1 (here, holds) in
        let at = reports.placed g has in
        thins.some (copy_of g) (inr (g, has, place_fits device.geometry g low (omega (arith, at.0, within)) at.1 (held_named device.flash g.tag.object g.tag.chunk (spot_of g) holds), refl))
    | inr ne ↦
        let was = below.some honest g (omega (arith, lt, ne)) low holds in
        let then = thins.some was.0 (inl was.1) in
        (then.0, then.1, (then.2.0 ∙ was.2.0, then.2.1 ∙ was.2.1), not_after_on (spot_of g) (spot_of_copy was.0) (spot_of_copy then.0) was.3 then.3)
  ];
}

-- after some reads the same is
pub latest_on : (a b : Device) (k : ℕ) (list : List PageCopy) → OnlyReads a b → HasLatestBelow a k list → HasLatestBelow b k list
latest_on a b k list reads below = record {
  placed = λ f has. let is = below.placed f has in (is.0, subst (λ (g : Geometry). f.page < g.pages) (sym reads.lasts.geometry) is.1);
  low = below.low;
  held = λ honest f has.
      let was : a.honest ≡ true = sym reads.lasts.honest ∙ honest in
      subst (λ fl. IsCountedCopy fl f) (sym (same_flash a b reads was)) (below.held was f has);
  some = λ honest g lt low holds.
      let was : a.honest ≡ true = sym reads.lasts.honest ∙ honest in
      below.some was g lt low (subst (λ fl. Holds fl g.tag.object g.tag.chunk (spot_of g)) (same_flash a b reads was) holds);
}

pub latest_back : (a b : Device) (k : ℕ) (list : List PageCopy) → OnlyReads a b → HasLatestBelow b k list → HasLatestBelow a k list
latest_back a b k list reads below = record {
  placed = λ f has. let is = below.placed f has in (is.0, subst (λ (g : Geometry). f.page < g.pages) reads.lasts.geometry is.1);
  low = below.low;
  held = λ honest f has. subst (λ fl. IsCountedCopy fl f) (same_flash a b reads honest) (below.held (reads.lasts.honest ∙ honest) f has);
  some = λ honest g lt low holds. below.some (reads.lasts.honest ∙ honest) g lt low (subst (λ fl. Holds fl g.tag.object g.tag.chunk (spot_of g)) (sym (same_flash a b reads honest)) holds);
}

-- ---- all blocks

module _ (device : Device) (honest : device.honest ≡ true) (within : IsWithin device.geometry.pages device.geometry.blocks device.flash) (list newest : List PageCopy)
    (below : HasLatestBelow device device.geometry.blocks list) (latest : AreLatest list newest) where
  abbrev flash : Flash
  flash = device.flash

  -- of a page that counts one is left of its key that it does not come after
  left : (o c : ℕ) (s : Spot) → s.tag.chunk < 2 ^ 32 → Holds flash o c s → (f : PageCopy) × Contains list f × HaveOneKey f (copy_at s) × (IsAfter s (spot_of_copy f) → ⊥)
  left o c s low holds = below.some honest (found_of s) (tag_placed device.geometry.pages device.geometry.blocks flash s.block s.page s.tag within holds.has).0 low (record {
    group = holds.group;
    whole = holds.whole;
    index = holds.index;
    within = holds.within;
    block = holds.block;
    page = holds.page;
    has = holds.has;
    object = refl;
    chunk = refl;
  })

  committed_is_newest : (x : PageCopy) → Contains newest x → IsNewestCopy flash x
  committed_is_newest x has =
      let valid_pages : IsCountedCopy flash x = below.held honest x (latest.among x has) in
      record {
        spot = valid_pages.spot;
        copied = valid_pages.copied;
        newest = record {
          holds = valid_pages.holds;
          last = λ t other after.
              let chunk : x.chunk ≡ t.tag.chunk = sym other.chunk in
              let some = left x.object x.chunk t (subst (λ k. k < 2 ^ 32) chunk (below.low x (latest.among x has))) other in
              not_after_on t (spot_of_copy some.0) (spot_of_copy x) some.3
              (latest.last x some.0 has some.1 (some.2.0 ∙ other.object, some.2.1 ∙ other.chunk))
              (subst (λ (y : PageCopy). IsAfter t (spot_of_copy y)) valid_pages.copied after);
        };
      }

  newest_is_committed : (o c : ℕ) (s : Spot) → c < 2 ^ 32 → IsNewest flash o c s → Contains newest (copy_at s)
  newest_is_committed o c s low is =
      let first = left o c s (subst (λ k. k < 2 ^ 32) (sym is.holds.chunk) low) is.holds in
      let some = latest.some first.0 first.1 in
      let x : PageCopy = some.0 in
      let committed : IsNewestCopy flash x = committed_is_newest x some.1 in
      let object : x.object ≡ o = some.2.0 ∙ first.2.0 ∙ is.holds.object in
      let chunk : x.chunk ≡ c = some.2.1 ∙ first.2.1 ∙ is.holds.chunk in
      let key : IsNewest flash o c committed.spot = subst (λ k. IsNewest flash o k committed.spot) chunk (subst (λ k. IsNewest flash k x.chunk committed.spot) object committed.newest) in
      subst (Contains newest) (sym committed.copied ∙ ap copy_at (one_spot flash o c committed.spot s key is)) some.1

  -- the latest of what is left are the newest pages
  newest_pages : AreNewest flash newest
  newest_pages = record { each = newest_is_committed; only = committed_is_newest; order = latest.order }

-- of what is left of all blocks, what is reported of the newest pages
pub lists_newest : (device : Device) (list newest : List PageCopy) → IsWithin device.geometry.pages device.geometry.blocks device.flash → HasLatestBelow device device.geometry.blocks list
    → AreLatest list newest → ListsNewest device newest
lists_newest device list newest within below latest = record {
  placed = λ k d lt. below.placed (get_or newest k d) (latest.among (get_or newest k d) (Contains-get_or newest k d lt));
  low = λ k d lt. below.low (get_or newest k d) (latest.among (get_or newest k d) (Contains-get_or newest k d lt));
  order = latest.order;
  exact = λ honest. newest_pages device honest within list newest below latest;
}
