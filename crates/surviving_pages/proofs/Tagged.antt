-- From the tags of a block to the pages of a flash that survive.
use Rattle.std.specs.Prelude.{◌≡◌, ◌↔◌, ◌<◌, ◌≤◌, ℕ, ◌+◌, true, false, List, [], ◌∷◌, ◌++◌, Option, Some, None, length, slice_get, Contains}
use Rattle.std.proofs.Common.{refl, sym, ◌∙◌, ap, subst, inl, inr, arith, get_or}
use Rattle.std.specs.Option.{is_some}
use Rattle.std.proofs.lemmas.Bool.{cases_eq, cases_lt, false≢true}
use Rattle.std.proofs.lemmas.Option.{slice_get-get_or, slice_get_within}
use Rattle.std.proofs.lemmas.List.Elements.{Contains-append_left, Contains-push, Contains-push_cases}
use Rattle.nand_model.specs.Calls.{Device}
use Rattle.nand_model.specs.Flash.{Flash, IsWithin}
use Rattle.page_tags.specs.declared.tag.Tag.{Tag}
use Rattle.flash_tree.specs.Groups.{HasTag}
use Rattle.flash_tree.specs.laws.Newest.{one_tag}
use Rattle.flash_tree.specs.laws.Place.{tag_placed}
use Rattle.flash_tree.specs.declared.place.Found.{Found}
use Rattle.flash_tree.specs.Places.{spot_of, TagIs}
use Rattle.mount_scan.specs.Keys.{ThinsFound}
use Rattle.mount_scan.specs.declared.page_copy.PageCopy.{PageCopy}
use Rattle.mount_scan.specs.Blocks.{AreTags}
use Rattle.surviving_pages.specs.Surviving.{last_page, IsSurvivor}
use Rattle.surviving_pages.specs.Tagged.{IsTaggedBetween, IsEndOfTags, SurvivesIn, AddsSurvivor, ListsSurvivors}
use Rattle.surviving_pages.specs.Latest.{LieBelow, HasLatestBelow}
use Rattle.surviving_pages.proofs.Latest.{lie_block, latest_block}

-- ---- where the pages with tags end

pub has_tag : (m : Option Tag) → is_some m ≡ true → (t : Tag) × (m ≡ Some t)
has_tag None is = absurd (false≢true is)
has_tag (Some t) is = (t, refl)

pub has_none : (m : Option Tag) → is_some m ≡ false → m ≡ None
has_none None is = refl
has_none (Some t) is = absurd (false≢true (sym is))

-- a page with a tag is the last so far
pub end_here : (tags : List (Option Tag)) (page end : ℕ) → page < length tags → is_some (get_or tags page None) ≡ true → end ≡ page + 1
    → (p : ℕ) → p < end ↔ IsTaggedBetween tags p (page + 1)
end_here tags page end within some here p =
    let (t, is) = has_tag (get_or tags page None) some in (
      λ lt. record { page = page; from = omega (arith, lt, here); before = omega arith; tag = t; there = slice_get-get_or tags page None within ∙ ap Some is },
      λ is. omega (arith, is.from, is.before, here),
    )

-- a page with none is passed
pub end_before : (tags : List (Option Tag)) (page old end : ℕ) → page < length tags → is_some (get_or tags page None) ≡ false → end ≡ old
    → ((p : ℕ) → p < old ↔ IsTaggedBetween tags p page) → (p : ℕ) → p < end ↔ IsTaggedBetween tags p (page + 1)
end_before tags page old end within none same before p =
    let at : slice_get tags page ≡ Some None = slice_get-get_or tags page None within ∙ ap Some (has_none (get_or tags page None) none) in (
      λ lt. let is = (before p).0 (omega (arith, lt, same)) in record { page = is.page; from = is.from; before = omega (arith, is.before); tag = is.tag; there = is.there },
      λ is. elim (cases_eq is.page page) [
        | inl here ↦ let two : Some (Some is.tag) ≡ Some None = sym is.there ∙ ap (slice_get tags) here ∙ at in absurd cc
        | inr ne ↦
            let lt : p < old = (before p).1 (record { page = is.page; from = is.from; before = omega (arith, is.before, ne); tag = is.tag; there = is.there }) in
            omega (arith, lt, same)
      ],
    )

-- no page lies behind the block's last one
pub end_within : (tags : List (Option Tag)) (end : ℕ) → IsEndOfTags tags end → end ≤ length tags
end_within tags end ends = elim (cases_lt (length tags) end) [
  | inr le ↦ le
  | inl lt ↦ let last = (ends (length tags)).0 lt in absurd (omega (arith, last.from, last.before))
]

-- ---- the list of the pages that survive

abbrev found_at : ℕ → ℕ → Tag → Found
found_at b page t = record { block = b; page = page; tag = t }

module _ (b page end : ℕ) (tags : List (Option Tag)) (t : Tag) (at : slice_get tags page ≡ Some (Some t)) (ends : IsEndOfTags tags end) (old : List Found) where
  -- a page that survives has the tag that was read of it
  same_found : (f : Found) → f.page ≡ page → SurvivesIn b tags f → f ≡ found_at b page t
  same_found f same is =
      let two : Some (Some f.tag) ≡ Some (Some t) = sym is.tag ∙ ap (slice_get tags) same ∙ at in
      let tag : f.tag ≡ t = cc in
      λ i. record { block = is.block i; page = same i; tag = tag i }

  -- a page whose group was completed is added
  pub adds_survivor : last_page (spot_of (found_at b page t)) < end → AddsSurvivor b tags page old (old ++ found_at b page t ∷ [])
  adds_survivor lt f =
      let x : Found = found_at b page t in
      let new : (x.page ≡ page) × SurvivesIn b tags x = (refl, record { block = refl; tag = at; completed = (ends (last_page (spot_of x))).0 lt }) in (
        λ has. elim (Contains-push_cases old x f has) [
          | inl was ↦ inl was
          | inr same ↦ inr (subst (λ (g : Found). (g.page ≡ page) × SurvivesIn b tags g) same new)
        ],
        λ either. elim either [
          | inl was ↦ Contains-append_left old (x ∷ []) f was
          | inr is ↦ subst (Contains (old ++ x ∷ [])) (sym (same_found f is.0 is.1)) (Contains-push old x)
        ],
      )

  -- any other is passed
  pub adds_none : end ≤ last_page (spot_of (found_at b page t)) → AddsSurvivor b tags page old old
  adds_none le f = (
    λ was. inl was,
    λ either. elim either [
      | inl was ↦ was
      | inr is ↦
          let lt : last_page (spot_of f) < end = (ends (last_page (spot_of f))).1 is.1.completed in
          let here : last_page (spot_of (found_at b page t)) < end = subst (λ (g : Found). last_page (spot_of g) < end) (same_found f is.0 is.1) lt in
          absurd (omega (arith, here, le))
    ],
  )

-- those of one page more
pub lists_more : (b page : ℕ) (tags : List (Option Tag)) (old new : List Found)
    → AddsSurvivor b tags page old new → ListsSurvivors b tags page old → ListsSurvivors b tags (page + 1) new
lists_more b page tags old new adds lists f = (
  λ has. elim ((adds f).0 has) [
    | inl was ↦ let is = (lists f).0 was in (omega (arith, is.0), is.1)
    | inr is ↦ (omega (arith, is.0), is.1)
  ],
  λ is. elim (cases_eq f.page page) [
    | inl here ↦ (adds f).1 (inr (here, is.1))
    | inr ne ↦ (adds f).1 (inl ((lists f).1 (omega (arith, is.0, ne), is.1)))
  ],
)

-- ---- from the tags to the flash

module _ (f : Flash) (b pages blocks : ℕ) (tags : List (Option Tag)) (within : IsWithin pages blocks f) (len : length tags ≡ pages) (reported : AreTags f b tags) where
  reported_is : (p : ℕ) (t : Tag) (o : Option Tag) → HasTag f b p t → slice_get tags p ≡ Some o → TagIs f b p o → slice_get tags p ≡ Some (Some t)
  reported_is p t None has at is = absurd (is t has)
  reported_is p t (Some u) has at is = at ∙ ap (λ (v : Tag). Some (Some v)) (one_tag f b p u t is has)

  -- a tag on the flash stands in the list
  pub tag_reported : (p : ℕ) (t : Tag) → HasTag f b p t → slice_get tags p ≡ Some (Some t)
  tag_reported p t has =
      let lt : p < length tags = omega (arith, (tag_placed pages blocks f b p t within has).1, len) in
      let at : slice_get tags p ≡ Some (get_or tags p None) = slice_get-get_or tags p None lt in
      reported_is p t (get_or tags p None) has at (reported p (get_or tags p None) at)

  -- the pages of a good block that survive are reported by its tags
  pub survivor_reported : (x : Found) → f.bad b ≡ false → ((x.block ≡ b) × IsSurvivor f (spot_of x)) ↔ ((x.page < length tags) × SurvivesIn b tags x)
  survivor_reported x good = (
    λ (block, held).
        let last = held.completed in
        let here = tag_reported x.page x.tag (subst (λ k. HasTag f k x.page x.tag) block held.has) in
        let there = tag_reported last.page last.tag (subst (λ k. HasTag f k last.page last.tag) block last.has) in (
          slice_get_within tags x.page (Some x.tag) here,
          record {
            block = block;
            tag = here;
            completed = record { page = last.page; from = last.from; before = slice_get_within tags last.page (Some last.tag) there; tag = last.tag; there = there };
          },
        ),
    λ (lt, is).
        let last = is.completed in
        let tag_at : (p : ℕ) (t : Tag) → slice_get tags p ≡ Some (Some t) → HasTag f x.block p t = λ p t at. subst (λ k. HasTag f k p t) (sym is.block) (reported p (Some t) at) in (
          is.block,
          record {
            good = ap f.bad is.block ∙ good;
            has = tag_at x.page x.tag is.tag;
            object = refl;
            chunk = refl;
            completed = record { page = last.page; from = last.from; tag = last.tag; has = tag_at last.page last.tag last.there };
          },
        ),
  )

-- ---- one block of a device, by its tags

module _ (d : Device) (b : ℕ) (tags : List (Option Tag)) (len : length tags ≡ d.geometry.pages) (added : List Found) (lists : ListsSurvivors b tags (length tags) added)
    (old new : List PageCopy) (thins : ThinsFound added old new) where
  lies : (f : Found) → Contains added f → (f.block ≡ b) × (f.page < d.geometry.pages)
  lies f has = let (lt, is) = (lists f).0 has in (is.block, omega (arith, lt, len))

  pub survivors_lie : LieBelow d.geometry.pages b old → LieBelow d.geometry.pages (b + 1) new
  survivors_lie = lie_block d.geometry.pages b added old new lies thins

  pub survivors_latest : IsWithin d.geometry.pages d.geometry.blocks d.flash → AreTags d.flash b tags → d.flash.bad b ≡ false → b < d.geometry.blocks
      → HasLatestBelow (IsSurvivor d.flash) b old → HasLatestBelow (IsSurvivor d.flash) (b + 1) new
  survivors_latest within reported good lt =
      let same = survivor_reported d.flash b d.geometry.pages d.geometry.blocks tags within len reported in
      latest_block (IsSurvivor d.flash) (λ s is. let valid = is.has.valid in (valid.object.0, valid.object.1, valid.version.0)) d.geometry b added old new lt lies (λ f. (λ has. (same f good).1 ((lists f).0 has), λ is. (lists f).1 ((same f good).0 is))) thins
