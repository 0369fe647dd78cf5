-- What writing the pages of a group does to the groups of a flash.
use Rattle.std.proofs.Common.{◌≡◌, ◌≢◌, ◌⊎◌, ◌+◌, ◌-◌, ◌<◌, ◌≤◌, ℕ, false, List, refl, sym, ◌∙◌, ap, subst, arith, inl, inr}
use Rattle.std.proofs.lemmas.Bool.{cases_eq, cases_lt}
use Rattle.nand_model.specs.Flash.{Flash, Page, Erased, Written, Uncorrectable}
use Rattle.page_tags.specs.declared.tag.Tag.{Tag}
use Rattle.page_tags.specs.Tags.{tag_bytes, IsTag}
use Rattle.page_tags.specs.laws.Tag.{same_tag}
use Rattle.nand_model.specs.Changes.{Grows}
use Rattle.flash_tree.specs.Groups.{HasTag, Group, IsPart, IsGroup, SameGroups, AddsGroup, AllThere}
use Rattle.flash_tree.specs.Numbering.{AreBelow}
use Rattle.transactions.specs.Written.{Wrote, tag_in, page_in}
use Rattle.transactions.specs.declared.source.PageName.{PageName}

-- no page of the block has a tag of this group number
abbrev pub IsFresh : Flash → ℕ → ℕ → Type 0
IsFresh flash b number = (p : ℕ) (t : Tag) → HasTag flash b p t → t.group ≢ number

pub written_tag : (f : Flash) (b p : ℕ) (t u : Tag) (bytes : List ℕ) → HasTag f b p t → f.page b p ≡ Written bytes (tag_bytes u) → IsTag u → t ≡ u
written_tag f b p t u bytes has is valid =
    let both : Written has.bytes (tag_bytes t) ≡ Written bytes (tag_bytes u) = sym has.page ∙ is in
    let same : tag_bytes t ≡ tag_bytes u = cc in
    same_tag t u has.valid valid same

pub tag_not_erased : (f : Flash) (b p : ℕ) (t : Tag) → HasTag f b p t → f.page b p ≢ Erased
tag_not_erased f b p t has is = let no : Written has.bytes (tag_bytes t) ≡ Erased = sym has.page ∙ is in cc

pub tag_not_lost : (f : Flash) (b p : ℕ) (t : Tag) → HasTag f b p t → f.page b p ≢ Uncorrectable
tag_not_lost f b p t has is = let no : Written has.bytes (tag_bytes t) ≡ Uncorrectable = sym has.page ∙ is in cc

pub tag_committed : (f h : Flash) (b p : ℕ) (t : Tag) → HasTag f b p t → h.page b p ≡ f.page b p → HasTag h b p t
tag_committed f h b p t has same = record { bytes = has.bytes; page = same ∙ has.page; valid = has.valid }

-- pages that only grow keep their groups
pub groups_grow : (old new : Flash) → new.bad ≡ old.bad → Grows old new → (g : Group) → IsGroup old g → IsGroup new g
groups_grow old new bad grows g whole = record {
  good = ap (λ f. f g.block) bad ∙ whole.good;
  some = whole.some;
  each = λ i lt.
      let part : IsPart old g i = whole.each i lt in
      record {
        tag = part.tag;
        has = tag_committed old new _ _ _ part.has (grows _ _ (tag_not_erased _ _ _ _ part.has));
        index = part.index;
        count = part.count;
        group = part.group;
        seq = part.seq;
      };
}

-- the pages of a group are there where those of the same group are, with the same tags and data
pub same_there : (x y : Group) (tag tag' : ℕ → Tag) (bytes bytes' : ℕ → List ℕ) (f : Flash) → x ≡ y → ((i : ℕ) → i < x.size → tag i ≡ tag' i)
    → ((i : ℕ) → i < x.size → bytes i ≡ bytes' i) → AllThere x tag bytes f → AllThere y tag' bytes' f
same_there x y tag tag' bytes bytes' f group tags same there i lt =
    let within : i < x.size = subst (λ (k : Group). i < k.size) (sym group) lt in
    let page = there i within in
    let at : f.page y.block (y.start + i) ≡ Written (bytes i) (tag_bytes (tag i)) = ap (λ (k : Group). f.page k.block (k.start + i)) (sym group) ∙ page.0 in
    (at ∙ ap (λ xs. Written xs (tag_bytes (tag i))) (same i within) ∙ ap (λ (t : Tag). Written (bytes' i) (tag_bytes t)) (tags i within), subst IsTag (tags i within) page.1)

module _ (g : Group) (name : ℕ → PageName) (bytes : ℕ → List ℕ) (old new : Flash) (wrote : Wrote g name bytes old new)
    (erased : (i : ℕ) → i < g.size → old.page g.block (g.start + i) ≡ Erased) (fresh : IsFresh old g.block g.number) where
  abbrev tag : ℕ → Tag
  tag = tag_in g name

  abbrev pages : ℕ → Page
  pages = page_in g name bytes

  -- a page of the block is as it was, or one of the group's places
  place : (l : ℕ) → (new.page g.block l ≡ old.page g.block l) ⊎ ((i : ℕ) × (i < g.size) × (l ≡ g.start + i))
  place l = elim (cases_lt l g.start) [
    | inl before ↦ inl (wrote.outside l (inl before))
    | inr from ↦ elim (cases_lt l (g.start + g.size)) [
      | inl within ↦ inr (l - g.start, omega arith, omega arith)
      | inr after ↦ inl (wrote.outside l (inr after))
    ]
  ]

  pub wrote_grows : Grows old new
  wrote_grows k l not = elim (cases_eq k g.block) [
    | inr ne ↦ wrote.others k l ne
    | inl e ↦ elim (place l) [
      | inl same ↦ ap (λ n. new.page n l) e ∙ same ∙ ap (λ n. old.page n l) (sym e)
      | inr at ↦ absurd (not (ap (λ n. old.page n l) e ∙ ap (old.page g.block) at.2 ∙ erased at.0 at.1))
    ]
  ]

  -- a place of the group that has a tag has the one that is to be there
  here : (i : ℕ) (t : Tag) → i < g.size → HasTag new g.block (g.start + i) t → (new.page g.block (g.start + i) ≡ pages i) × (t ≡ tag i)
  here i t lt has = elim (wrote.inside i lt) [
    | inl is ↦ (is.0, written_tag new _ _ t (tag i) (bytes i) has is.0 is.1)
    | inr lost ↦ elim lost [
      | inl is ↦ absurd (tag_not_erased _ _ _ _ has is)
      | inr is ↦ absurd (tag_not_lost _ _ _ _ has is)
    ]
  ]

  -- a tag of another group is an old one
  old_tag : (l : ℕ) (t : Tag) → HasTag new g.block l t → t.group ≢ g.number → HasTag old g.block l t
  old_tag l t has ne = elim (place l) [
    | inl same ↦ tag_committed new old _ _ _ has (sym same)
    | inr at ↦
        let has' : HasTag new g.block (g.start + at.0) t = subst (λ n. HasTag new g.block n t) at.2 has in
        let is : t ≡ tag at.0 = (here at.0 t at.1 has').1 in
        absurd (ne (ap (λ (u : Tag). u.group) is))
  ]

  other_block : (x : Group) → IsGroup new x → x.block ≢ g.block → IsGroup old x
  other_block x whole ne = record {
    good = ap (λ f. f x.block) (sym wrote.bad) ∙ whole.good;
    some = whole.some;
    each = λ i lt.
        let part : IsPart new x i = whole.each i lt in
        record {
          tag = part.tag;
          has = tag_committed new old _ _ _ part.has (sym (wrote.others _ _ ne));
          index = part.index;
          count = part.count;
          group = part.group;
          seq = part.seq;
        };
  }

  other_number : (x : Group) → IsGroup new x → x.block ≡ g.block → x.number ≢ g.number → IsGroup old x
  other_number x whole e ne = record {
    good = ap (λ f. f x.block) (sym wrote.bad) ∙ whole.good;
    some = whole.some;
    each = λ i lt.
        let part : IsPart new x i = whole.each i lt in
        let has : HasTag new g.block (x.start + i) part.tag = subst (λ n. HasTag new n (x.start + i) part.tag) e part.has in
        let was : HasTag old g.block (x.start + i) part.tag = old_tag (x.start + i) part.tag has (λ is. ne (sym part.group ∙ is)) in
        record {
          tag = part.tag;
          has = subst (λ n. HasTag old n (x.start + i) part.tag) (sym e) was;
          index = part.index;
          count = part.count;
          group = part.group;
          seq = part.seq;
        };
  }

  -- a group of the number that is written is the group itself, and all its pages are there
  this_one : (x : Group) → IsGroup new x → x.block ≡ g.block → x.number ≡ g.number → (x ≡ g) × ((i : ℕ) → i < g.size → new.page g.block (g.start + i) ≡ pages i)
  this_one x whole e n =
      let part : IsPart new x 0 = whole.each 0 (omega (arith, whole.some)) in
      let first : x.start + 0 ≡ x.start = omega arith in
      let has : HasTag new g.block x.start part.tag = subst (λ k. HasTag new k x.start part.tag) e (subst (λ k. HasTag new x.block k part.tag) first part.has) in
      elim (place x.start) [
        | inl same ↦ absurd (fresh x.start part.tag (tag_committed new old _ _ _ has (sym same)) (part.group ∙ n))
        | inr at ↦
            let has' : HasTag new g.block (g.start + at.0) part.tag = subst (λ k. HasTag new g.block k part.tag) at.2 has in
            let is : part.tag ≡ tag at.0 = (here at.0 part.tag at.1 has').1 in
            let none : at.0 ≡ 0 = ap (λ (u : Tag). u.index) (sym is) ∙ part.index in
            let start : x.start ≡ g.start = omega (arith, at.2) in
            let size : x.size ≡ g.size = sym part.count ∙ ap (λ (u : Tag). u.count) is in
            let seq : x.seq ≡ g.seq = sym part.seq ∙ ap (λ (u : Tag). u.seq) is in (
              λ i. record { block = e i; start = start i; size = size i; number = n i; seq = seq i },
              λ i lt.
                  let one : IsPart new x i = whole.each i (omega arith) in
                  let place_is : x.start + i ≡ g.start + i = omega arith in
                  let at_g : HasTag new g.block (g.start + i) one.tag = subst (λ k. HasTag new k (g.start + i) one.tag) e (subst (λ k. HasTag new x.block k one.tag) place_is one.has) in
                  (here i one.tag lt at_g).0,
            )
      ]

  pub old_or_this : (x : Group) → IsGroup new x → IsGroup old x ⊎ ((x ≡ g) × ((i : ℕ) → i < g.size → new.page g.block (g.start + i) ≡ pages i))
  old_or_this x whole = elim (cases_eq x.block g.block) [
    | inr ne ↦ inl (other_block x whole ne)
    | inl e ↦ elim (cases_eq x.number g.number) [
      | inr ne ↦ inl (other_number x whole e ne)
      | inl n ↦ inr (this_one x whole e n)
    ]
  ]

  -- with all its pages the group counts
  pub is_added : old.bad g.block ≡ false → 1 ≤ g.size → ((i : ℕ) → i < g.size → (new.page g.block (g.start + i) ≡ pages i) × IsTag (tag i)) → AddsGroup g old new
  is_added good some all x =
      let this : IsGroup new g = record {
        good = ap (λ f. f g.block) wrote.bad ∙ good;
        some = some;
        each = λ i lt. record {
          tag = tag i;
          has = record { bytes = bytes i; page = (all i lt).0; valid = (all i lt).1 };
          index = refl;
          count = refl;
          group = refl;
          seq = refl;
        };
      } in (
        λ whole. elim (old_or_this x whole) [ inl was ↦ inl was | inr is ↦ inr is.0 ],
        λ either. elim either [ inl was ↦ groups_grow old new wrote.bad wrote_grows x was | inr is ↦ subst (IsGroup new) (sym is) this ],
      )

  -- without one of them it doesn't
  pub is_not_added : (i : ℕ) → i < g.size → new.page g.block (g.start + i) ≢ pages i → SameGroups old new
  is_not_added i lt lacks x = (
    λ whole. elim (old_or_this x whole) [ inl was ↦ was | inr is ↦ absurd (lacks (is.1 i lt)) ],
    λ was. groups_grow old new wrote.bad wrote_grows x was,
  )

  -- the numbers of all tags of good blocks are below the next ones again
  pub below_after : (seq : ℕ) → g.seq < seq → AreBelow old g.number seq → AreBelow new (g.number + 1) seq
  below_after seq lt below b p t good has =
      let was_good : old.bad b ≡ false = ap (λ f. f b) (sym wrote.bad) ∙ good in
      elim (cases_eq b g.block) [
        | inr ne ↦ let old_below = below b p t was_good (tag_committed new old _ _ _ has (sym (wrote.others b p ne))) in (omega (arith, old_below), omega (arith, old_below), old_below.2)
        | inl e ↦
            let at_g : HasTag new g.block p t = subst (λ k. HasTag new k p t) e has in
            let good_g : old.bad g.block ≡ false = ap old.bad (sym e) ∙ was_good in
            elim (place p) [
              | inl same ↦ let old_below = below g.block p t good_g (tag_committed new old _ _ _ at_g (sym same)) in (omega (arith, old_below), omega (arith, old_below), old_below.2)
              | inr at ↦
                  let has' : HasTag new g.block (g.start + at.0) t = subst (λ n. HasTag new g.block n t) at.2 at_g in
                  let is : t ≡ tag at.0 = (here at.0 t at.1 has').1 in
                  let group : t.group ≡ g.number = ap (λ (u : Tag). u.group) is in
                  let seq_is : t.seq ≡ g.seq = ap (λ (u : Tag). u.seq) is in
                  let version : t.version ≤ t.group = has.valid.version.1 in
                  (omega (arith, group, version), omega (arith, group), omega (arith, seq_is, lt))
            ]
      ]
