-- The newest page of each key is left.
use Rattle.std.specs.Prelude.{◌≡◌, ◌↔◌, ◌<◌, ◌^◌, ℕ, ◌+◌, List, length, Contains}
use Rattle.std.proofs.Common.{refl, sym, ◌∙◌, ap, subst, inl, inr, arith, get_or}
use Rattle.std.proofs.lemmas.Bool.{cases_eq}
use Rattle.std.proofs.lemmas.List.Elements.{Contains-get_or}
use Rattle.nand_model.specs.Flash.{Flash, IsWithin}
use Rattle.nand_model.specs.declared.geometry.Geometry.{Geometry}
use Rattle.flash_tree.specs.Groups.{HasTag}
use Rattle.flash_tree.specs.Newest.{Spot, IsAfter}
use Rattle.flash_tree.specs.laws.Newest.{one_tag, one_is_after}
use Rattle.flash_tree.specs.laws.Place.{tag_placed}
use Rattle.flash_tree.specs.declared.place.Found.{Found}
use Rattle.flash_tree.specs.Places.{spot_of}
use Rattle.mount_scan.specs.Copies.{FitsCopy, HasValidName, copy_at, copy_of, spot_of_copy}
use Rattle.mount_scan.specs.Keys.{HaveOneKey, ThinsFound, AreLatest}
use Rattle.mount_scan.specs.declared.page_copy.PageCopy.{PageCopy}
use Rattle.mount_scan.specs.laws.Order.{not_after_on}
use Rattle.mount_scan.specs.laws.Scan.{found_of}
use Rattle.surviving_pages.specs.Latest.{LieBelow, MayBeIndexed, IsCovered, HasLatestBelow, IsNewestOf, AreNewestOf}

-- ---- block after block

-- before the first block nothing was found
pub lie_none : (pages : ℕ) (list : List PageCopy) → ((x : PageCopy) → Contains list x → ⊥) → LieBelow pages 0 list
lie_none pages list none = record { placed = λ x has. absurd (none x has); low = λ x has. absurd (none x has) }

pub latest_none : (kind : Spot → Type 0) (list : List PageCopy) → ((x : PageCopy) → Contains list x → ⊥) → HasLatestBelow kind 0 list
latest_none kind list none = record { only = λ x has. absurd (none x has); some = λ s lt. absurd (omega (arith, lt)) }

-- a block is passed
pub lie_on : (pages b : ℕ) (list : List PageCopy) → LieBelow pages b list → LieBelow pages (b + 1) list
lie_on pages b list lie = record { placed = λ x has. let is = lie.placed x has in (omega (arith, is.0), is.1); low = lie.low }

-- one that has no page of the kind
pub latest_on : (kind : Spot → Type 0) (b : ℕ) (list : List PageCopy) → ((s : Spot) → kind s → s.block ≡ b → ⊥) → HasLatestBelow kind b list → HasLatestBelow kind (b + 1) list
latest_on kind b list none below = record {
  only = below.only;
  some = λ s lt low is. elim (cases_eq s.block b) [ inl here ↦ absurd (none s is here) | inr ne ↦ below.some s (omega (arith, lt, ne)) low is ];
}

-- places of a block were added
pub lie_block : (pages b : ℕ) (added : List Found) (old new : List PageCopy) → ((f : Found) → Contains added f → (f.block ≡ b) × (f.page < pages)) → ThinsFound added old new
    → LieBelow pages b old → LieBelow pages (b + 1) new
lie_block pages b added old new lies thins lie = record {
  placed = λ x has. elim (thins.among x has) [
    | inl was ↦ let is = lie.placed x was in (omega (arith, is.0), is.1)
    | inr is ↦
        let (f, there, fits, same) = is in
        let at = lies f there in
        subst (λ (y : PageCopy). (y.block < b + 1) × (y.page < pages)) same (omega (arith, at.0), at.1)
  ];
  low = λ x has. elim (thins.among x has) [
    | inl was ↦ lie.low x was
    | inr is ↦ let (f, there, fits, same) = is in subst (λ (y : PageCopy). y.chunk < 2 ^ 32) same fits.0
  ];
}

-- each place of a device fits
place_fits : (g : Geometry) (f : Found) → f.tag.chunk < 2 ^ 32 → f.block < g.blocks → f.page < g.pages → HasValidName (copy_of f) → FitsCopy f
place_fits g f low block page named =
    let blocks = g.most_blocks in
    let pages = g.most_pages in
    (low, omega (arith, block, blocks), omega (arith, page, pages), named)

-- exactly the pages of the kind in a block were added
pub latest_block : (kind : Spot → Type 0) → ((s : Spot) → kind s → HasValidName (copy_at s)) → (g : Geometry) (b : ℕ) (added : List Found) (old new : List PageCopy) → b < g.blocks
    → ((f : Found) → Contains added f → (f.block ≡ b) × (f.page < g.pages)) → ((f : Found) → Contains added f ↔ ((f.block ≡ b) × kind (spot_of f)))
    → ThinsFound added old new → HasLatestBelow kind b old → HasLatestBelow kind (b + 1) new
latest_block kind named g b added old new within lies exact thins below = record {
  only = λ x has. elim (thins.among x has) [
    | inl was ↦ below.only x was
    | inr is ↦ let (f, there, fits, same) = is in (spot_of f, ((exact f).0 there).1, same)
  ];
  some = λ s lt low is. elim (cases_eq s.block b) [
    | inl here ↦
        let has : Contains added (found_of s) = (exact (found_of s)).1 (here, is) in
        let at = lies (found_of s) has in
        let (x, there, key, last) = thins.some (copy_at s) (inr (found_of s, has, place_fits g (found_of s) low (omega (arith, at.0, within)) at.1 (named s is), refl)) in
        record { copy = x; has = there; key = key; last = last }
    | inr ne ↦
        let was = below.some s (omega (arith, lt, ne)) low is in
        let (x, there, key, last) = thins.some was.copy (inl was.has) in
        record { copy = x; has = there; key = (key.0 ∙ was.key.0, key.1 ∙ was.key.1); last = not_after_on s (spot_of_copy was.copy) (spot_of_copy x) was.last last }
  ];
}

-- ---- all blocks

-- what is left of all blocks may be indexed
pub lie_all : (g : Geometry) (list newest : List PageCopy) → LieBelow g.pages g.blocks list → AreLatest list newest → MayBeIndexed g newest
lie_all g list newest lie latest =
    let was : (i : ℕ) (d : PageCopy) → i < length newest → Contains list (get_or newest i d) = λ i d lt. latest.among (get_or newest i d) (Contains-get_or newest i d lt) in
    record {
      within = λ i d lt. (lie.placed (get_or newest i d) (was i d lt)).0;
      pages = λ i d lt. (lie.placed (get_or newest i d) (was i d lt)).1;
      low = λ i d lt. lie.low (get_or newest i d) (was i d lt);
      once = latest.order;
    }

module _ (flash : Flash) (kind : Spot → Type 0) (has_tag : (s : Spot) → kind s → HasTag flash s.block s.page s.tag) (pages blocks : ℕ) (within : IsWithin pages blocks flash)
    (list newest : List PageCopy) (lie : LieBelow pages blocks list) (below : HasLatestBelow kind blocks list) (latest : AreLatest list newest) where
  -- of a page of the kind one is left of its key that it does not come after
  left : (s : Spot) → s.tag.chunk < 2 ^ 32 → kind s → IsCovered list s
  left s low is = below.some s (tag_placed pages blocks flash s.block s.page s.tag within (has_tag s is)).0 low is

  -- which does not come after what is committed of the key
  not_after_committed : (x : PageCopy) (s : Spot) → Contains newest x → HaveOneKey x (copy_at s) → kind s → IsAfter s (spot_of_copy x) → ⊥
  not_after_committed x s has key is =
      let cover = left s (subst (λ k. k < 2 ^ 32) key.1 (lie.low x (latest.among x has))) is in
      not_after_on s (spot_of_copy cover.copy) (spot_of_copy x) cover.last (latest.last x cover.copy has cover.has (cover.key.0 ∙ sym key.0, cover.key.1 ∙ sym key.1))

  committed_is_newest : (x : PageCopy) → Contains newest x → (s : Spot) × IsNewestOf kind s × (copy_at s ≡ x)
  committed_is_newest x has =
      let (s, is, copied) = below.only x (latest.among x has) in (
        s,
        record {
          is = is;
          last = λ t other key after.
              not_after_committed x t has (subst (λ (y : PageCopy). HaveOneKey y (copy_at t)) copied (sym key.0, sym key.1)) other
              (subst (λ (y : PageCopy). IsAfter t (spot_of_copy y)) copied after);
        },
        copied,
      )

  -- two newest pages of the kind that have one key are one
  one_newest : (s u : Spot) → IsNewestOf kind s → IsNewestOf kind u → HaveOneKey (copy_at u) (copy_at s) → u ≡ s
  one_newest s u a b key =
      let at = one_is_after u s (λ after. a.last u b.is key after) (λ after. b.last s a.is (sym key.0, sym key.1) after) in
      let here : HasTag flash s.block s.page u.tag = subst (λ k. HasTag flash k s.page u.tag) at.0 (subst (λ p. HasTag flash u.block p u.tag) at.1 (has_tag u b.is)) in
      let tag : u.tag ≡ s.tag = one_tag flash s.block s.page u.tag s.tag here (has_tag s a.is) in
      λ i. record { block = at.0 i; page = at.1 i; tag = tag i }

  newest_is_committed : (s : Spot) → s.tag.chunk < 2 ^ 32 → IsNewestOf kind s → Contains newest (copy_at s)
  newest_is_committed s low is =
      let cover = left s low is.is in
      let (x, has, key) = latest.some cover.copy cover.has in
      let (u, other, copied) = committed_is_newest x has in
      let one : HaveOneKey x (copy_at s) = (key.0 ∙ cover.key.0, key.1 ∙ cover.key.1) in
      let same : u ≡ s = one_newest s u is other (subst (λ (y : PageCopy). HaveOneKey y (copy_at s)) (sym copied) one) in
      subst (Contains newest) (sym copied ∙ ap copy_at same) has

  -- the latest of what is left are the newest pages of the kind
  pub newest_all : AreNewestOf kind newest
  newest_all = record { only = committed_is_newest; each = newest_is_committed }
