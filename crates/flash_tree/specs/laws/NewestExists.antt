-- On a flash of some size it can be decided of each key whether it has a newest page.
use Rattle.std.specs.Prelude.{◌≡◌, ◌⊎◌, ◌<◌, ◌≤◌, ℕ, zero, suc, ◌+◌, ◌-◌, true, false}
use Rattle.std.proofs.Common.{refl, sym, ◌∙◌, ap, subst, inl, inr, arith}
use Rattle.std.proofs.lemmas.Bool.{cases_Bool, cases_eq, cases_lt, cases_order}
use Rattle.nand_model.specs.Flash.{Flash, Page, Erased, Written, Uncorrectable}
use Rattle.page_tags.specs.declared.tag.Tag.{Tag}
use Rattle.page_tags.specs.Tags.{tag_bytes}
use Rattle.page_tags.specs.laws.Tag.{tag_or_none}
use Rattle.flash_tree.specs.Groups.{HasTag, Group, IsPart, IsGroup}
use Rattle.flash_tree.specs.Newest.{Spot, Holds, IsAfter}
use Rattle.flash_tree.specs.laws.Newest.{one_tag}

-- a fact that can be decided
abbrev pub IsStated : Type 0 → Type 0
IsStated P = P ⊎ (P → ⊥)

-- of facts that can be decided, all below n hold, or one does not
pub all_or_one : (P : ℕ → Type 0) → ((i : ℕ) → IsStated (P i)) → (n : ℕ) → ((i : ℕ) → i < n → P i) ⊎ ((i : ℕ) × (i < n) × (P i → ⊥))
all_or_one P reported zero = inl (λ i lt. absurd (omega arith))
all_or_one P reported (suc n) = elim (all_or_one P reported n) [
  | inr (i, lt, not) ↦ inr (i, omega arith, not)
  | inl all ↦ elim (reported n) [
    | inl is ↦ inl (λ i lt. elim (cases_eq i n) [
      | inl same ↦ subst P (sym same) is
      | inr ne ↦ all i (omega arith)
    ])
    | inr not ↦ inr (n, omega arith, not)
  ]
]

module _ (flash : Flash) where
  -- whether a page has a tag
  pub tag_at : (b p : ℕ) → ((t : Tag) × HasTag flash b p t) ⊎ ((t : Tag) → HasTag flash b p t → ⊥)
  tag_at b p = go (flash.page b p) refl where
    go : (x : Page) → flash.page b p ≡ x → ((t : Tag) × HasTag flash b p t) ⊎ ((t : Tag) → HasTag flash b p t → ⊥)
    go Erased is = inr (λ t has. let two : Erased ≡ Written has.bytes (tag_bytes t) = sym is ∙ has.page in cc)
    go Uncorrectable is = inr (λ t has. let two : Uncorrectable ≡ Written has.bytes (tag_bytes t) = sym is ∙ has.page in cc)
    go (Written bytes tag) is = elim (tag_or_none tag) [
      | inl (t, valid, same) ↦ inl (t, record { bytes = bytes; page = is ∙ ap (Written bytes) same; valid = valid })
      | inr none ↦ inr (λ t has. let pages : Written bytes tag ≡ Written has.bytes (tag_bytes t) = sym is ∙ has.page in let tags : tag ≡ tag_bytes t = cc in none t has.valid tags)
    ]

  -- whether a page of a group is there
  part_at : (g : Group) (i : ℕ) → IsStated (IsPart flash g i)
  part_at g i = elim (tag_at g.block (g.start + i)) [
    | inr none ↦ inr (λ part. none part.tag part.has)
    | inl (t, has) ↦ elim (cases_eq t.index i) [
      | inr ne ↦ inr (λ part. ne (ap (λ (u : Tag). u.index) (one_tag flash _ _ t part.tag has part.has) ∙ part.index))
      | inl index ↦ elim (cases_eq t.count g.size) [
        | inr ne ↦ inr (λ part. ne (ap (λ (u : Tag). u.count) (one_tag flash _ _ t part.tag has part.has) ∙ part.count))
        | inl count ↦ elim (cases_eq t.group g.number) [
          | inr ne ↦ inr (λ part. ne (ap (λ (u : Tag). u.group) (one_tag flash _ _ t part.tag has part.has) ∙ part.group))
          | inl group ↦ elim (cases_eq t.seq g.seq) [
            | inr ne ↦ inr (λ part. ne (ap (λ (u : Tag). u.seq) (one_tag flash _ _ t part.tag has part.has) ∙ part.seq))
            | inl seq ↦ inl (record { tag = t; has = has; index = index; count = count; group = group; seq = seq })
          ]
        ]
      ]
    ]
  ]

  -- whether a group is whole
  pub group_at : (g : Group) → IsStated (IsGroup flash g)
  group_at g = elim (cases_Bool (flash.bad g.block)) [
    | inl bad ↦ inr (λ whole. let two : true ≡ false = sym bad ∙ whole.good in cc)
    | inr good ↦ elim (cases_lt zero g.size) [
      | inr none ↦ inr (λ whole. let some = whole.some in omega arith)
      | inl some ↦ elim (all_or_one (IsPart flash g) (part_at g) g.size) [
        | inl each ↦ inl (record { good = good; some = omega arith; each = each })
        | inr (i, lt, not) ↦ inr (λ whole. not (whole.each i lt))
      ]
    ]
  ]

  -- the group that a tag at a place names
  abbrev group_by : ℕ → ℕ → Tag → Group
  group_by b p t = record { block = b; start = p - t.index; size = t.count; number = t.group; seq = t.seq }

  -- a page that counts is of that group
  group_is : (o c : ℕ) (s : Spot) (h : Holds flash o c s) → h.group ≡ group_by s.block s.page s.tag
  group_is o c s h =
      let part : IsPart flash h.group h.index = h.whole.each h.index h.within in
      let here : HasTag flash s.block s.page part.tag = subst (λ b. HasTag flash b s.page part.tag) (sym h.block) (subst (λ p. HasTag flash h.group.block p part.tag) (sym h.page) part.has) in
      let tag : s.tag ≡ part.tag = one_tag flash s.block s.page s.tag part.tag h.has here in
      let index : s.tag.index ≡ h.index = ap (λ (t : Tag). t.index) tag ∙ part.index in
      let start : h.group.start ≡ s.page - s.tag.index = omega (arith, h.page, index) in
      let size : h.group.size ≡ s.tag.count = sym (ap (λ (t : Tag). t.count) tag ∙ part.count) in
      let number : h.group.number ≡ s.tag.group = sym (ap (λ (t : Tag). t.group) tag ∙ part.group) in
      let seq : h.group.seq ≡ s.tag.seq = sym (ap (λ (t : Tag). t.seq) tag ∙ part.seq) in
      λ i. record { block = sym h.block i; start = start i; size = size i; number = number i; seq = seq i }

  index_within : (o c : ℕ) (s : Spot) (h : Holds flash o c s) → s.tag.index ≤ s.page
  index_within o c s h =
      let part : IsPart flash h.group h.index = h.whole.each h.index h.within in
      let here : HasTag flash s.block s.page part.tag = subst (λ b. HasTag flash b s.page part.tag) (sym h.block) (subst (λ p. HasTag flash h.group.block p part.tag) (sym h.page) part.has) in
      let tag : s.tag ≡ part.tag = one_tag flash s.block s.page s.tag part.tag h.has here in
      let index : s.tag.index ≡ h.index = ap (λ (t : Tag). t.index) tag ∙ part.index in
      omega (arith, h.page, index)

  -- what is at a place and counts for the key
  pub record HoldsAt (o c b p : ℕ) : Type 0 where
    pub spot : Spot
    pub block : spot.block ≡ b
    pub page : spot.page ≡ p
    pub holds : Holds flash o c spot

  tag_of : (o c b p : ℕ) (h : HoldsAt o c b p) → HasTag flash b p h.spot.tag
  tag_of o c b p h = subst (λ k. HasTag flash k p h.spot.tag) h.block (subst (λ l. HasTag flash h.spot.block l h.spot.tag) h.page h.holds.has)

  -- whether the page at a place counts for the key
  pub holds_at : (o c b p : ℕ) → IsStated (HoldsAt o c b p)
  holds_at o c b p = elim (tag_at b p) [
    | inr none ↦ inr (λ h. none h.spot.tag (tag_of o c b p h))
    | inl (t, has) ↦ elim (cases_eq t.object o) [
      | inr ne ↦ inr (λ h. ne (ap (λ (u : Tag). u.object) (one_tag flash b p t h.spot.tag has (tag_of o c b p h)) ∙ h.holds.object))
      | inl object ↦ elim (cases_eq t.chunk c) [
        | inr ne ↦ inr (λ h. ne (ap (λ (u : Tag). u.chunk) (one_tag flash b p t h.spot.tag has (tag_of o c b p h)) ∙ h.holds.chunk))
        | inl chunk ↦ elim (cases_lt p t.index) [
          | inl before ↦ inr (λ h.
              let tag : t ≡ h.spot.tag = one_tag flash b p t h.spot.tag has (tag_of o c b p h) in
              let index : t.index ≡ h.spot.tag.index = ap (λ (u : Tag). u.index) tag in
              let page : h.spot.page ≡ p = h.page in
              let within : h.spot.tag.index ≤ h.spot.page = index_within o c h.spot h.holds in
              omega arith)
          | inr after ↦ elim (group_at (group_by b p t)) [
            | inl whole ↦ inl (record {
              spot = record { block = b; page = p; tag = t };
              block = refl;
              page = refl;
              holds = record { group = group_by b p t; whole = whole; index = t.index; within = has.valid.index; block = refl; page = omega arith; has = has; object = object; chunk = chunk };
            })
            | inr not ↦ inr (λ h.
                let tag : h.spot.tag ≡ t = sym (one_tag flash b p t h.spot.tag has (tag_of o c b p h)) in
                let same : h.holds.group ≡ group_by b p t = group_is o c h.spot h.holds
                ∙ ap (λ k. group_by k h.spot.page h.spot.tag) h.block ∙ ap (λ l. group_by b l h.spot.tag) h.page ∙ ap (group_by b p) tag in
                not (subst (IsGroup flash) same h.holds.whole))
          ]
        ]
      ]
    ]
  ]

-- ---- the order of places

-- whether one place comes after another
pub after_or_not : (s t : Spot) → IsStated (IsAfter s t)
after_or_not s t = elim (cases_order t.tag.version s.tag.version) [
  | inr (inl lt) ↦ inl (inl lt)
  | inr (inr gt) ↦ inr (λ after. elim after [ inl lt ↦ omega arith | inr (v, rest) ↦ omega arith ])
  | inl v ↦ elim (cases_order t.tag.seq s.tag.seq) [
    | inr (inl lt) ↦ inl (inr (sym v, inl lt))
    | inr (inr gt) ↦ inr (λ after. elim after [ inl lt ↦ omega arith | inr (v', inl lt) ↦ omega arith | inr (v', inr (q', rest)) ↦ omega arith ])
    | inl q ↦ elim (cases_order t.page s.page) [
      | inr (inl lt) ↦ inl (inr (sym v, inr (sym q, inl lt)))
      | inr (inr gt) ↦ inr (λ after. elim after [ inl lt ↦ omega arith | inr (v', inl lt) ↦ omega arith | inr (v', inr (q', inl lt)) ↦ omega arith | inr (v', inr (q', inr (p', lt))) ↦ omega arith ])
      | inl p ↦ elim (cases_lt t.block s.block) [
        | inl lt ↦ inl (inr (sym v, inr (sym q, inr (sym p, lt))))
        | inr ge ↦ inr (λ after. elim after [ inl lt ↦ omega arith | inr (v', inl lt) ↦ omega arith | inr (v', inr (q', inl lt)) ↦ omega arith | inr (v', inr (q', inr (p', lt))) ↦ omega arith ])
      ]
    ]
  ]
]
