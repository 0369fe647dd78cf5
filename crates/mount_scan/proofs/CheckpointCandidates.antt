-- Which of the blocks that were looked at a checkpoint may begin with.
use Rattle.std.specs.Prelude.{◌≡◌, ◌<◌, ◌≤◌, ℕ, ◌+◌, Option, Some, None}
use Rattle.std.proofs.Common.{refl, sym, ap, subst, inl, inr, arith}
use Rattle.std.proofs.lemmas.Bool.{cases_eq, cases_lt}
use Rattle.nand_model.specs.Flash.{Flash}
use Rattle.page_tags.specs.declared.tag.Tag.{Tag}
use Rattle.flash_tree.specs.laws.Newest.{one_tag}
use Rattle.mount_scan.specs.CheckpointCandidates.{BeginsCheckpoint, FirstIs, IsAbove, IsGreatestBelow, MayBegin}
use Rattle.mount_scan.specs.declared.checkpoint_candidate.Candidate.{Candidate}

-- a block that may begin a checkpoint has no other tag than the one it was reported to have
one_first : (flash : Flash) (b : ℕ) (tag t : Tag) → FirstIs flash b (Some tag) → MayBegin flash b t → tag ≡ t
one_first flash b tag t is may = one_tag flash b 0 tag t is.1 may.has

-- what is no better leaves the best one
pub greatest_stays :
    (flash : Flash) (b : ℕ) (best : Option Candidate) → ((t : Tag) → MayBegin flash b t → (c : Candidate) × (best ≡ Some c) × (t.seq ≤ c.tag.seq))
    → IsGreatestBelow flash b best → IsGreatestBelow flash (b + 1) best
greatest_stays flash b None least were = λ k t lt may. elim (cases_eq k b) [
  | inl here ↦
      let is = least t (subst (λ x. MayBegin flash x t) here may) in
      let two : None ≡ Some is.0 = is.1 in
      absurd cc
  | inr ne ↦ were k t (omega (arith, lt, ne)) may
]
greatest_stays flash b (Some c) least were = record {
  within = let within = were.within in omega (arith, within);
  may = were.may;
  first = λ k t lt may. elim (cases_eq k b) [
    | inl here ↦
        let is = least t (subst (λ x. MayBegin flash x t) here may) in
        let some : Some c ≡ Some is.0 = is.1 in
        let same : c ≡ is.0 = cc in
        let seqs : c.tag.seq ≡ is.0.tag.seq = ap (λ (x : Candidate). x.tag.seq) same in
        let within = were.within in
        (omega (arith, is.2, seqs), λ _. omega (arith, within, here))
    | inr ne ↦ were.first k t (omega (arith, lt, ne)) may
  ];
}

-- a block whose tag begins no checkpoint
pub stays_ordinary : (flash : Flash) (b : ℕ) (best : Option Candidate) (tag : Tag) → (BeginsCheckpoint tag → ⊥) → FirstIs flash b (Some tag) → IsGreatestBelow flash b best → IsGreatestBelow flash (b + 1) best
stays_ordinary flash b best tag not is were =
    greatest_stays flash b best (λ t may. absurd (not (subst BeginsCheckpoint (sym (one_first flash b tag t is may)) may.begins))) were

lesser : (best : Option Candidate) (seq : ℕ) → (IsAbove seq best → ⊥) → (c : Candidate) × (best ≡ Some c) × (seq ≤ c.tag.seq)
lesser None seq not = absurd (not tt)
lesser (Some c) seq not = (c, refl, elim (cases_lt c.tag.seq seq) [ inl lt ↦ absurd (not lt) | inr ge ↦ ge ])

-- a block whose tag is not above the best one's
pub stays_lesser : (flash : Flash) (b : ℕ) (best : Option Candidate) (tag : Tag) → (IsAbove tag.seq best → ⊥) → FirstIs flash b (Some tag) → IsGreatestBelow flash b best → IsGreatestBelow flash (b + 1) best
stays_lesser flash b best tag not is were =
    greatest_stays flash b best (λ t may. let c = lesser best tag.seq not in (c.0, c.1, let seqs : tag.seq ≡ t.seq = ap (λ (v : Tag). v.seq) (one_first flash b tag t is may) in omega (arith, c.2, seqs))) were

-- a block without a tag
pub stays_none : (flash : Flash) (b : ℕ) (best : Option Candidate) → FirstIs flash b None → IsGreatestBelow flash b best → IsGreatestBelow flash (b + 1) best
stays_none flash b best is were = greatest_stays flash b best (λ t may. absurd (is t may.good may.has)) were

-- a block whose tag is above
pub takes_greater :
    (flash : Flash) (b : ℕ) (best : Option Candidate) (tag : Tag) → BeginsCheckpoint tag → IsAbove tag.seq best → FirstIs flash b (Some tag) → IsGreatestBelow flash b best
    → IsGreatestBelow flash (b + 1) (Some (record { block = b; tag = tag }))
takes_greater flash b best tag begins above is were = record {
  within = omega arith;
  may = record { good = is.0; has = is.1; begins = begins };
  first = λ k t lt may. elim (cases_eq k b) [
    | inl here ↦
        let seqs : tag.seq ≡ t.seq = ap (λ (v : Tag). v.seq) (one_first flash b tag t is (subst (λ x. MayBegin flash x t) here may)) in
        (omega (arith, seqs), λ _. omega (arith, here))
    | inr ne ↦ let less = below best above were k t (omega (arith, lt, ne)) may in (omega (arith, less), λ same. absurd (omega (arith, less, same)))
  ];
} where
  below : (best : Option Candidate) → IsAbove tag.seq best → IsGreatestBelow flash b best → (k : ℕ) (t : Tag) → k < b → MayBegin flash k t → t.seq < tag.seq
  below None above none k t lt may = absurd (none k t lt may)
  below (Some c) above were k t lt may = let le = (were.first k t lt may).0 in omega (arith, le, above)
