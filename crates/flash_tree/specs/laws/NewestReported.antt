-- Of each key it can be decided which page is its newest, or that it has none.
use Rattle.std.specs.Prelude.{◌≡◌, ◌⊎◌, ◌<◌, ℕ, zero, suc, List}
use Rattle.std.proofs.Common.{sym, ◌∙◌, subst, inl, inr, arith}
use Rattle.std.proofs.lemmas.Bool.{cases_eq, cases_lt}
use Rattle.nand_model.specs.Flash.{Flash, Erased, Written, IsWithin}
use Rattle.page_tags.specs.Tags.{tag_bytes}
use Rattle.flash_tree.specs.Groups.{HasTag}
use Rattle.flash_tree.specs.Newest.{Spot, Holds, IsAfter, IsNewest, HasNewest}
use Rattle.flash_tree.specs.laws.NewestExists.{HoldsAt, holds_at, after_or_not}
use Rattle.flash_tree.specs.laws.Newest.{one_tag}
use Rattle.flash_tree.specs.laws.Order.{after_on}

module _ (flash : Flash) (o c : ℕ) where
  -- the place comes before page p of block b
  abbrev IsBefore : ℕ → ℕ → Spot → Type 0
  IsBefore b p s = (s.block < b) ⊎ ((s.block ≡ b) × (s.page < p))

  -- of the places before page p of block b one is the newest of the key, or none is of the key
  record IsBest (b p : ℕ) (s : Spot) : Type 0 where
    holds : Holds flash o c s
    last : (t : Spot) → IsBefore b p t → Holds flash o c t → IsAfter t s → ⊥

  abbrev Best : ℕ → ℕ → Type 0
  Best b p = ((s : Spot) × IsBest b p s) ⊎ ((t : Spot) → IsBefore b p t → Holds flash o c t → ⊥)

  -- a place before the next page is before this one, or is this one
  before_next : (b p : ℕ) (t : Spot) → IsBefore b (suc p) t → IsBefore b p t ⊎ ((t.block ≡ b) × (t.page ≡ p))
  before_next b p t (inl lt) = inl (inl lt)
  before_next b p t (inr (same, lt)) = elim (cases_eq t.page p) [ inl at ↦ inr (same, at) | inr ne ↦ inl (inr (same, omega arith)) ]

  -- what is not after a place is not after one that comes later
  not_after_later : (t s u : Spot) → IsAfter u s → (IsAfter t s → ⊥) → IsAfter t u → ⊥
  not_after_later t s u later not after = not (after_on t u s after later)

  -- what counts at one place is one
  same_spot : (t s : Spot) → t.block ≡ s.block → t.page ≡ s.page → Holds flash o c t → Holds flash o c s → t ≡ s
  same_spot t s block page x y =
      let there : HasTag flash s.block s.page t.tag = subst (λ b. HasTag flash b s.page t.tag) block (subst (λ p. HasTag flash t.block p t.tag) page x.has) in
      let tag : t.tag ≡ s.tag = one_tag flash s.block s.page t.tag s.tag there y.has in
      λ i. record { block = block i; page = page i; tag = tag i }

  after_itself : (s : Spot) → IsAfter s s → ⊥
  after_itself s (inl lt) = omega arith
  after_itself s (inr (v, inl lt)) = omega arith
  after_itself s (inr (v, inr (q, inl lt))) = omega arith
  after_itself s (inr (v, inr (q, inr (p, lt)))) = omega arith

  -- the page at the next place is of the key or not
  best_without : (b p : ℕ) → (HoldsAt flash o c b p → ⊥) → Best b p → Best b (suc p)
  best_without b p none (inl (s, best)) = inl (
    s,
    record {
      holds = best.holds;
      last = λ t before h. elim (before_next b p t before) [ inl earlier ↦ best.last t earlier h | inr (block, page) ↦ absurd (none (record { spot = t; block = block; page = page; holds = h })) ];
    },
  )
  best_without b p none (inr nobody) = inr (λ t before h. elim (before_next b p t before) [
    | inl earlier ↦ nobody t earlier h
    | inr (block, page) ↦ none (record { spot = t; block = block; page = page; holds = h })
  ])

  best_with : (b p : ℕ) (u : HoldsAt flash o c b p) → Best b p → Best b (suc p)
  best_with b p u (inr nobody) = inl (
    u.spot,
    record {
      holds = u.holds;
      last = λ t before h after. elim (before_next b p t before) [
        | inl earlier ↦ nobody t earlier h
        | inr (block, page) ↦ after_itself u.spot (subst (λ x. IsAfter x u.spot) (same_spot t u.spot (block ∙ sym u.block) (page ∙ sym u.page) h u.holds) after)
      ];
    },
  )
  best_with b p u (inl (s, best)) = elim (after_or_not u.spot s) [
    | inl later ↦ inl (
      u.spot,
      record {
        holds = u.holds;
        last = λ t before h after. elim (before_next b p t before) [
          | inl earlier ↦ not_after_later t s u.spot later (best.last t earlier h) after
          | inr (block, page) ↦ after_itself u.spot (subst (λ x. IsAfter x u.spot) (same_spot t u.spot (block ∙ sym u.block) (page ∙ sym u.page) h u.holds) after)
        ];
      },
    )
    | inr not ↦ inl (
      s,
      record {
        holds = best.holds;
        last = λ t before h after. elim (before_next b p t before) [
          | inl earlier ↦ best.last t earlier h after
          | inr (block, page) ↦ not (subst (λ x. IsAfter x s) (same_spot t u.spot (block ∙ sym u.block) (page ∙ sym u.page) h u.holds) after)
        ];
      },
    )
  ]

  best_page : (b p : ℕ) → Best b zero → Best b p
  best_page b zero first = first
  best_page b (suc p) first = elim (holds_at flash o c b p) [
    | inl u ↦ best_with b p u (best_page b p first)
    | inr none ↦ best_without b p none (best_page b p first)
  ]

  module _ (pages blocks : ℕ) (within : IsWithin pages blocks flash) where
    -- what counts lies within the device
    pub place_within : (s : Spot) → Holds flash o c s → (s.block < blocks) × (s.page < pages)
    place_within s h = (
      elim (cases_lt s.block blocks) [
        | inl lt ↦ lt
        | inr ge ↦ let two : Erased ≡ Written h.has.bytes (tag_bytes s.tag) = sym (within.block s.block s.page ge) ∙ h.has.page in absurd cc
      ],
      elim (cases_lt s.page pages) [
        | inl lt ↦ lt
        | inr ge ↦ let two : Erased ≡ Written h.has.bytes (tag_bytes s.tag) = sym (within.page s.block s.page ge) ∙ h.has.page in absurd cc
      ],
    )

    -- all pages of a block are before the first of the next
    before_block : (b : ℕ) (t : Spot) → IsBefore (suc b) zero t → t.page < pages → IsBefore b pages t
    before_block b t (inl lt) within_limit = elim (cases_eq t.block b) [ inl same ↦ inr (same, within_limit) | inr ne ↦ inl (omega arith) ]
    before_block b t (inr (same, lt)) within_limit = absurd (omega arith)

    best_block : (b : ℕ) → Best b zero
    best_block zero = inr (λ t before h. elim before [ inl lt ↦ absurd (omega arith) | inr (same, lt) ↦ absurd (omega arith) ])
    best_block (suc b) = elim (best_page b pages (best_block b)) [
      | inl (s, best) ↦ inl (s, record { holds = best.holds; last = λ t before h. best.last t (before_block b t before (place_within t h).1) h })
      | inr nobody ↦ inr (λ t before h. nobody t (before_block b t before (place_within t h).1) h)
    ]

    -- the newest page of the key, or that it has none
    pub newest_or_none : ((s : Spot) × IsNewest flash o c s) ⊎ ((s : Spot) → Holds flash o c s → ⊥)
    newest_or_none = elim (best_block blocks) [
      | inl (s, best) ↦ inl (s, record { holds = best.holds; last = λ t h after. best.last t (inl (place_within t h).0) h after })
      | inr nobody ↦ inr (λ s h. nobody s (inl (place_within s h).0) h)
    ]

    -- and so its data
    pub data_or_none : ((bytes : List ℕ) × HasNewest flash o c bytes) ⊎ ((bytes : List ℕ) → HasNewest flash o c bytes → ⊥)
    data_or_none = elim newest_or_none [
      | inl (s, newest) ↦ inl (newest.holds.has.bytes, record { spot = s; newest = newest; stored = newest.holds.has.page })
      | inr nobody ↦ inr (λ bytes h. nobody h.spot h.newest.holds)
    ]
