-- From the tags of a block to the places of the pages that are lost.
use Rattle.std.specs.Prelude.{◌≡◌, ◌⊎◌, ◌↔◌, ◌<◌, ℕ, ◌+◌, true, false, List, [], ◌∷◌, ◌++◌, Option, Some, None, length, slice_get, Contains}
use Rattle.std.specs.List.{AllPairs}
use Rattle.std.specs.Option.{is_some}
use Rattle.std.proofs.Common.{refl, sym, ◌∙◌, ap, subst, inl, inr, arith, get_or}
use Rattle.std.proofs.lemmas.Bool.{cases_eq, false≢true}
use Rattle.std.proofs.lemmas.Option.{slice_get-get_or, slice_get_within}
use Rattle.std.proofs.lemmas.List.Elements.{Contains-append_left, Contains-push, Contains-push_cases, Contains-get_or}
use Rattle.std.proofs.lemmas.List.Quantifiers.{all_pairs_push}
use Rattle.nand_model.specs.Flash.{Flash, IsWithin}
use Rattle.page_tags.specs.declared.tag.Tag.{Tag}
use Rattle.flash_tree.specs.Groups.{HasTag}
use Rattle.flash_tree.specs.laws.Place.{tag_placed}
use Rattle.flash_tree.specs.Places.{TagIs}
use Rattle.mount_scan.specs.Blocks.{AreTags}
use Rattle.surviving_pages.specs.declared.survivors.LostPlace.{LostPlace}
use Rattle.surviving_pages.specs.Lost.{IsPlaceBefore, ListsLost, ListsLostBelow}
use Rattle.surviving_pages.specs.Surviving.{IsLost}
use Rattle.surviving_pages.specs.Tagged.{IsEndOfTags, IsLostIn, LieInOrder, AddsLost}
use Rattle.surviving_pages.proofs.Tagged.{has_tag, has_none, tag_reported}

-- ---- page after page

-- exactly the places in block b of lost pages before page n are added
pub record AddsLostBefore (b : ℕ) (tags : List (Option Tag)) (n : ℕ) (old new : List LostPlace) : Type 0 where
  pub each : (x : LostPlace) → Contains new x ↔ (Contains old x ⊎ ((x.page < n) × IsLostIn b tags x))
  pub order : LieInOrder b old → AllPairs IsPlaceBefore new

abbrev lost_at : ℕ → ℕ → LostPlace
lost_at b page = record { block = b; page = page }

module _ (b page end : ℕ) (tags : List (Option Tag)) (ends : IsEndOfTags tags end) (before : page < end) (within : page < length tags) (old list : List LostPlace)
    (adds : AddsLostBefore b tags page old list) where
  -- a page with a tag is not lost
  pub adds_no_more : is_some (get_or tags page None) ≡ true → AddsLostBefore b tags (page + 1) old list
  adds_no_more some = record {
    each = λ x. (
      λ has. elim ((adds.each x).0 has) [ inl was ↦ inl was | inr is ↦ inr (omega (arith, is.0), is.1) ],
      λ either. elim either [
        | inl was ↦ (adds.each x).1 (inl was)
        | inr is ↦ elim (cases_eq x.page page) [
          | inr ne ↦ (adds.each x).1 (inr (omega (arith, is.0, ne), is.1))
          | inl here ↦
              let (t, has) = has_tag (get_or tags page None) some in
              let two : Some None ≡ Some (Some t) = sym is.1.none ∙ ap (slice_get tags) here ∙ slice_get-get_or tags page None within ∙ ap Some has in
              absurd cc
        ]
      ],
    );
    order = adds.order;
  }

  -- a page without one is, since one with a tag lies behind it
  is_lost : is_some (get_or tags page None) ≡ false → IsLostIn b tags (lost_at b page)
  is_lost none =
      let at : slice_get tags page ≡ Some None = slice_get-get_or tags page None within ∙ ap Some (has_none (get_or tags page None) none) in
      let last = (ends page).0 before in
      record {
        block = refl;
        none = at;
        behind = elim (cases_eq last.page page) [
          | inl here ↦ let two : Some (Some last.tag) ≡ Some None = sym last.there ∙ ap (slice_get tags) here ∙ at in absurd cc
          | inr ne ↦ record { page = last.page; from = omega (arith, last.from, ne); before = last.before; tag = last.tag; there = last.there }
        ];
      }

  -- those that were listed come before it
  comes_after : LieInOrder b old → (x : LostPlace) → Contains list x → IsPlaceBefore x (lost_at b page)
  comes_after lie x has = elim ((adds.each x).0 has) [ inl was ↦ inl (lie.below x was) | inr is ↦ inr (is.1.block, is.0) ]

  pub adds_one_more : is_some (get_or tags page None) ≡ false → AddsLostBefore b tags (page + 1) old (list ++ lost_at b page ∷ [])
  adds_one_more none = record {
    each = λ x. (
      λ has. elim (Contains-push_cases list (lost_at b page) x has) [
        | inl was ↦ elim ((adds.each x).0 was) [ inl first ↦ inl first | inr is ↦ inr (omega (arith, is.0), is.1) ]
        | inr same ↦ inr (subst (λ (y : LostPlace). (y.page < page + 1) × IsLostIn b tags y) same (omega arith, is_lost none))
      ],
      λ either. elim either [
        | inl was ↦ Contains-append_left list (lost_at b page ∷ []) x ((adds.each x).1 (inl was))
        | inr is ↦ elim (cases_eq x.page page) [
          | inr ne ↦ Contains-append_left list (lost_at b page ∷ []) x ((adds.each x).1 (inr (omega (arith, is.0, ne), is.1)))
          | inl here ↦
              let same : lost_at b page ≡ x = λ i. record { block = sym is.1.block i; page = sym here i } in
              subst (Contains (list ++ lost_at b page ∷ [])) same (Contains-push list (lost_at b page))
        ]
      ],
    );
    order = λ lie. all_pairs_push IsPlaceBefore list (lost_at b page) (adds.order lie) (λ k d lt. comes_after lie (get_or list k d) (Contains-get_or list k d lt));
  }

-- all pages before the end of the tags were looked at
pub adds_lost : (b end : ℕ) (tags : List (Option Tag)) (old new : List LostPlace) → IsEndOfTags tags end → AddsLostBefore b tags end old new → AddsLost b tags old new
adds_lost b end tags old new ends adds = record {
  each = λ x. (
    λ has. elim ((adds.each x).0 has) [ inl was ↦ inl was | inr is ↦ inr is.1 ],
    λ either. (adds.each x).1 (elim either [
      | inl was ↦ inl was
      | inr is ↦
          let last = is.behind in
          inr ((ends x.page).1 (record { page = last.page; from = omega (arith, last.from); before = last.before; tag = last.tag; there = last.there }), is)
    ]),
  );
  order = adds.order;
}

-- ---- block after block

-- before the first block nothing is listed
pub lost_none : (flash : Flash) → ListsLostBelow flash 0 []
lost_none flash = record { each = λ x. (λ (i, lt, at). absurd (omega (arith, lt)), λ is. absurd (omega (arith, is.0))); order = λ i j d lt within. absurd (omega (arith, within)) }

-- no page of a bad block is lost
pub lost_on : (flash : Flash) (b : ℕ) (list : List LostPlace) → flash.bad b ≡ true → ListsLostBelow flash b list → ListsLostBelow flash (b + 1) list
lost_on flash b list bad lists = record {
  each = λ x. (
    λ has. let is = (lists.each x).0 has in (omega (arith, is.0), is.1),
    λ is. elim (cases_eq x.block b) [
      | inl here ↦ absurd (false≢true (sym is.1.good ∙ ap flash.bad here ∙ bad))
      | inr ne ↦ (lists.each x).1 (omega (arith, is.0, ne), is.1)
    ],
  );
  order = lists.order;
}

module _ (f : Flash) (b pages blocks : ℕ) (tags : List (Option Tag)) (within : IsWithin pages blocks f) (len : length tags ≡ pages) (reported : AreTags f b tags) (good : f.bad b ≡ false) where
  none_reported : (p : ℕ) (o : Option Tag) → ((t : Tag) → HasTag f b p t → ⊥) → slice_get tags p ≡ Some o → TagIs f b p o → slice_get tags p ≡ Some None
  none_reported p None none at is = at
  none_reported p (Some t) none at is = absurd (none t is)

  -- the lost pages of a good block are reported by its tags
  lost_reported : (x : LostPlace) → IsLostIn b tags x ↔ ((x.block ≡ b) × IsLost f x.block x.page)
  lost_reported x = (
    λ is.
        let last = is.behind in
        let lost : IsLost f b x.page = record {
          good = good;
          none = reported x.page None is.none;
          behind = record { page = last.page; from = last.from; tag = last.tag; has = reported last.page (Some last.tag) last.there };
        } in
        (is.block, subst (λ k. IsLost f k x.page) (sym is.block) lost),
    λ (block, is).
        let lost : IsLost f b x.page = subst (λ k. IsLost f k x.page) block is in
        let last = lost.behind in
        let there = tag_reported f b pages blocks tags within len reported last.page last.tag last.has in
        let end = slice_get_within tags last.page (Some last.tag) there in
        let at = slice_get-get_or tags x.page None (omega (arith, last.from, end)) in
        record {
          block = block;
          none = none_reported x.page (get_or tags x.page None) lost.none at (reported x.page (get_or tags x.page None) at);
          behind = record { page = last.page; from = last.from; before = end; tag = last.tag; there = there };
        },
  )

  pub lost_block : (old new : List LostPlace) → AddsLost b tags old new → ListsLostBelow f b old → ListsLostBelow f (b + 1) new
  lost_block old new adds lists = record {
    each = λ x. (
      λ has. elim ((adds.each x).0 has) [
        | inl was ↦ let is = (lists.each x).0 was in (omega (arith, is.0), is.1)
        | inr is ↦ let lost = (lost_reported x).0 is in (omega (arith, lost.0), lost.1)
      ],
      λ is. elim (cases_eq x.block b) [
        | inl here ↦ (adds.each x).1 (inr ((lost_reported x).1 (here, is.1)))
        | inr ne ↦ (adds.each x).1 (inl ((lists.each x).1 (omega (arith, is.0, ne), is.1)))
      ],
    );
    order = adds.order (record { below = λ x has. ((lists.each x).0 has).0; order = lists.order });
  }

-- all blocks of the device
pub lost_all : (f : Flash) (pages blocks : ℕ) (list : List LostPlace) → IsWithin pages blocks f → ListsLostBelow f blocks list → ListsLost f list
lost_all f pages blocks list within lists = record {
  each = λ x. (
    λ has. ((lists.each x).0 has).1,
    λ is. let last = is.behind in (lists.each x).1 ((tag_placed pages blocks f x.block last.page last.tag within last.has).0, is),
  );
  order = lists.order;
}
