-- The newest pages after one more group counts.
use Rattle.std.specs.Prelude.{◌≡◌, ◌⊎◌, ◌<◌, ℕ, ◌+◌, List}
use Rattle.std.proofs.Common.{refl, sym, ◌∙◌, ap, subst, inl, inr, arith}
use Rattle.nand_model.specs.Flash.{Flash, Written}
use Rattle.page_tags.specs.declared.tag.Tag.{Tag}
use Rattle.page_tags.specs.Tags.{tag_bytes}
use Rattle.page_tags.specs.laws.Tag.{same_tag}
use Rattle.nand_model.specs.Changes.{Grows}
use Rattle.flash_tree.specs.Groups.{Group, AddsGroup, AllThere}
use Rattle.flash_tree.specs.Keeping.{StaysNewest}
use Rattle.flash_tree.specs.Newest.{Spot, spot_in, Holds, IsAfter, IsNewest, IsNewestWith}
use Rattle.flash_tree.specs.laws.Newest.{tag_grows, held_before, stays_of_fewer}

-- no place comes after one that is its equal
not_after : (s t : Spot) → s.tag.version ≡ t.tag.version → s.tag.seq ≡ t.tag.seq → s.page ≡ t.page → s.block ≡ t.block → IsAfter s t → ⊥
not_after s t v q p b (inl lt) = absurd (omega arith)
not_after s t v q p b (inr (v', inl lt)) = absurd (omega arith)
not_after s t v q p b (inr (v', inr (q', inl lt))) = absurd (omega arith)
not_after s t v q p b (inr (v', inr (q', inr (p', lt)))) = absurd (omega arith)

module _ (g : Group) (tag : ℕ → Tag) (bytes : ℕ → List ℕ) (old new : Flash) (adds : AddsGroup g old new) (grows : Grows old new) (all : AllThere g tag bytes new) where
  -- the place of page i of the group
  record IsThis (o c : ℕ) (t : Spot) : Type 0 where
    index : ℕ
    within : index < g.size
    block : t.block ≡ g.block
    page : t.page ≡ g.start + index
    tag_is : t.tag ≡ tag index
    object : (tag index).object ≡ o
    chunk : (tag index).chunk ≡ c

  was_or_this : (o c : ℕ) (t : Spot) → Holds new o c t → Holds old o c t ⊎ IsThis o c t
  was_or_this o c t h = elim ((adds h.group).0 h.whole) [
    | inl was ↦ inl (held_before old new grows o c t h was)
    | inr is ↦
        let lt : h.index < g.size = subst (λ (x : Group). h.index < x.size) is h.within in
        let block : t.block ≡ g.block = h.block ∙ ap (λ (x : Group). x.block) is in
        let page : t.page ≡ g.start + h.index = h.page ∙ ap (λ (x : Group). x.start + h.index) is in
        let there = all h.index lt in
        let pages : Written h.has.bytes (tag_bytes t.tag) ≡ Written (bytes h.index) (tag_bytes (tag h.index)) =
        sym h.has.page ∙ ap (λ k. new.page k t.page) block ∙ ap (new.page g.block) page ∙ there.0 in
        let tags : tag_bytes t.tag ≡ tag_bytes (tag h.index) = cc in
        let tag_is : t.tag ≡ tag h.index = same_tag _ _ h.has.valid there.1 tags in
        inr (record {
          index = h.index;
          within = lt;
          block = block;
          page = page;
          tag_is = tag_is;
          object = ap (λ (u : Tag). u.object) (sym tag_is) ∙ h.object;
          chunk = ap (λ (u : Tag). u.chunk) (sym tag_is) ∙ h.chunk;
        })
  ]

  -- a key that the group does not name keeps its newest page
  pub newest_other : (o c : ℕ) (s : Spot) → ((i : ℕ) → i < g.size → (tag i).object ≡ o → (tag i).chunk ≡ c → ⊥) → IsNewest old o c s → StaysNewest old new o c s
  newest_other o c s apart newest =
      let was = newest.holds in
      stays_of_fewer old new o c s newest
      (λ t holds. elim (was_or_this o c t holds) [
        | inl before ↦ before
        | inr this ↦ absurd (apart this.index this.within this.object this.chunk)
      ])
      ((adds was.group).1 (inl was.whole))
      (tag_grows old new grows _ _ _ was.has)

  -- a key that the group names once, above all that there were, has the group's page
  pub newest_this : (o c i : ℕ) → i < g.size → (tag i).object ≡ o → (tag i).chunk ≡ c
      → ((k : ℕ) → k < g.size → (tag k).object ≡ o → (tag k).chunk ≡ c → k ≡ i)
      → ((t : Spot) → Holds old o c t → IsAfter t (spot_in g tag i) → ⊥)
      → IsNewestWith new o c (spot_in g tag i) (bytes i)
  newest_this o c i lt object chunk once above = record {
    newest = record {
      holds = record {
        group = g;
        whole = (adds g).1 (inr refl);
        index = i;
        within = lt;
        block = refl;
        page = refl;
        has = record { bytes = bytes i; page = (all i lt).0; valid = (all i lt).1 };
        object = object;
        chunk = chunk;
      };
      last = λ t holds after. elim (was_or_this o c t holds) [
        | inl was ↦ above t was after
        | inr it ↦
            let same : it.index ≡ i = once it.index it.within it.object it.chunk in
            let at : t.page ≡ g.start + i = it.page ∙ ap (λ k. g.start + k) same in
            let tag_is : t.tag ≡ tag i = it.tag_is ∙ ap tag same in
            let v : t.tag.version ≡ (tag i).version = ap (λ (u : Tag). u.version) tag_is in
            let q : t.tag.seq ≡ (tag i).seq = ap (λ (u : Tag). u.seq) tag_is in
            not_after t (spot_in g tag i) v q at it.block after
      ];
    };
    stored = (all i lt).0;
  }
