-- Whether the entries of a checkpoint are the newest pages of their keys, and whether numbers are above all that stand, can be decided:
-- so a mount can trust a device exactly where this is so.
use Rattle.std.specs.Prelude.{◌≡◌, ◌<◌, ◌≤◌, ℕ, zero, suc, true, false, List, [], ◌∷◌, slice_get, Some}
use Rattle.std.proofs.Common.{refl, sym, ◌∙◌, ap, subst, inl, inr, arith}
use Rattle.std.proofs.lemmas.Bool.{cases_Bool, cases_eq, cases_lt}
use Rattle.nand_model.specs.Flash.{Flash, IsWithin}
use Rattle.page_tags.specs.declared.tag.Tag.{Tag}
use Rattle.flash_tree.specs.Groups.{HasTag}
use Rattle.flash_tree.specs.Newest.{Spot, IsNewest, Numbers, AreAbove}
use Rattle.flash_tree.specs.laws.Newest.{one_tag, one_spot}
use Rattle.flash_tree.specs.laws.Place.{tag_placed}
use Rattle.flash_tree.specs.laws.NewestExists.{IsStated, all_or_one, tag_at}
use Rattle.flash_tree.specs.laws.NewestReported.{newest_or_none}
use Rattle.flash_tree.specs.Checkpoints.{entry_of}
use Rattle.page_tags.specs.declared.check.CheckEntry.{CheckEntry}

-- the entry says where the newest page of its key lies, in its version
abbrev pub IsNewestAt : Flash → CheckEntry → Type 0
IsNewestAt flash e = (s : Spot) × IsNewest flash e.object e.chunk s × (e ≡ entry_of s)

-- each of them does
abbrev pub AreNewestAt : Flash → List CheckEntry → Type 0
AreNewestAt flash es = (k : ℕ) (e : CheckEntry) → slice_get es k ≡ Some e → IsNewestAt flash e

-- entries with the same numbers are one, or not
entry_reported : (e f : CheckEntry) → IsStated (e ≡ f)
entry_reported e f = elim (cases_eq e.object f.object) [
  | inr ne ↦ inr (λ is. ne (ap (λ (x : CheckEntry). x.object) is))
  | inl object ↦ elim (cases_eq e.chunk f.chunk) [
    | inr ne ↦ inr (λ is. ne (ap (λ (x : CheckEntry). x.chunk) is))
    | inl chunk ↦ elim (cases_eq e.version f.version) [
      | inr ne ↦ inr (λ is. ne (ap (λ (x : CheckEntry). x.version) is))
      | inl version ↦ elim (cases_eq e.block f.block) [
        | inr ne ↦ inr (λ is. ne (ap (λ (x : CheckEntry). x.block) is))
        | inl block ↦ elim (cases_eq e.page f.page) [
          | inr ne ↦ inr (λ is. ne (ap (λ (x : CheckEntry). x.page) is))
          | inl page ↦ inl (λ i. record { object = object i; chunk = chunk i; version = version i; block = block i; page = page i })
        ]
      ]
    ]
  ]
]

module _ (pages blocks : ℕ) (flash : Flash) (within : IsWithin pages blocks flash) where
  newest_reported : (e : CheckEntry) → IsStated (IsNewestAt flash e)
  newest_reported e = elim (newest_or_none flash e.object e.chunk pages blocks within) [
    | inr none ↦ inr (λ (s, newest, is). none s newest.holds)
    | inl (s, newest) ↦ elim (entry_reported e (entry_of s)) [
      | inl is ↦ inl (s, newest, is)
      | inr not ↦ inr (λ (t, other, is). not (is ∙ ap entry_of (one_spot flash e.object e.chunk t s other newest)))
    ]
  ]

  pub all_reported : (es : List CheckEntry) → IsStated (AreNewestAt flash es)
  all_reported [] = inl (λ k e is. absurd cc)
  all_reported (e ∷ es) = elim (newest_reported e) [
    | inr not ↦ inr (λ all. not (all zero e refl))
    | inl is ↦ elim (all_reported es) [
      | inr not ↦ inr (λ all. not (λ k f at. all (suc k) f at))
      | inl rest ↦ inl (first is rest)
    ]
  ] where
    first : IsNewestAt flash e → AreNewestAt flash es → AreNewestAt flash (e ∷ es)
    first is rest zero f at = let same : e ≡ f = cc in subst (IsNewestAt flash) same is
    first is rest (suc k) f at = rest k f at

  -- no tag of this page of a good block has a number above these
  abbrev IsAboveAt : Numbers → ℕ → ℕ → Type 0
  IsAboveAt n b p = (t : Tag) → flash.bad b ≡ false → HasTag flash b p t → (t.version ≤ n.version) × (t.group ≤ n.group) × (t.seq ≤ n.seq)

  above_at : (n : Numbers) (b p : ℕ) → IsStated (IsAboveAt n b p)
  above_at n b p = elim (cases_Bool (flash.bad b)) [
    | inl bad ↦ inl (λ t good has. let two : true ≡ false = sym bad ∙ good in cc)
    | inr good ↦ elim (tag_at flash b p) [
      | inr none ↦ inl (λ t is has. absurd (none t has))
      | inl (t, has) ↦ elim (cases_lt n.version t.version) [
        | inl over ↦ inr (λ above. let at = (above t good has).0 in omega (arith, over, at))
        | inr version ↦ elim (cases_lt n.group t.group) [
          | inl over ↦ inr (λ above. let at = (above t good has).1 in omega (arith, over, at))
          | inr group ↦ elim (cases_lt n.seq t.seq) [
            | inl over ↦ inr (λ above. let at = (above t good has).2 in omega (arith, over, at))
            | inr seq ↦ inl (λ u is other. let same : t ≡ u = one_tag flash b p t u has other in
                subst (λ (v : Tag). (v.version ≤ n.version) × (v.group ≤ n.group) × (v.seq ≤ n.seq)) same (version, group, seq))
          ]
        ]
      ]
    ]
  ]

  pub above_reported : (n : Numbers) → IsStated (AreAbove flash n)
  above_reported n = elim (all_or_one (λ b. (p : ℕ) → p < pages → IsAboveAt n b p) block_reported blocks) [
    | inl all ↦ inl (λ b p t good has. let at = tag_placed pages blocks flash b p t within has in all b at.0 p at.1 t good has)
    | inr (b, lt, not) ↦ inr (λ above. not (λ p less t good has. above b p t good has))
  ] where
    block_reported : (b : ℕ) → IsStated ((p : ℕ) → p < pages → IsAboveAt n b p)
    block_reported b = elim (all_or_one (IsAboveAt n b) (above_at n b) pages) [
      | inl all ↦ inl all
      | inr (p, lt, not) ↦ inr (λ all. not (all p lt))
    ]
