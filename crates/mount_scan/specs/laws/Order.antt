-- Which of two pages of a key comes after the other.
use Rattle.std.specs.Prelude.{◌≡◌, ◌<◌, ◌≤◌, ℕ}
use Rattle.std.proofs.Common.{inl, inr, arith}
use Rattle.std.proofs.lemmas.Bool.{cases_lt}
use Rattle.flash_tree.specs.Newest.{Spot, IsAfter}

-- each number is at most its other where all numbers before it are equal
record IsUpTo (x y : Spot) : Type 0 where
  version : x.tag.version ≤ y.tag.version
  seq : x.tag.version ≡ y.tag.version → x.tag.seq ≤ y.tag.seq
  page : x.tag.version ≡ y.tag.version → x.tag.seq ≡ y.tag.seq → x.page ≤ y.page
  block : x.tag.version ≡ y.tag.version → x.tag.seq ≡ y.tag.seq → x.page ≡ y.page → x.block ≤ y.block

at_most : (x y : ℕ) → (y < x → ⊥) → x ≤ y
at_most x y not = elim (cases_lt y x) [ inl lt ↦ absurd (not lt) | inr ge ↦ ge ]

up_to : (x y : Spot) → (IsAfter x y → ⊥) → IsUpTo x y
up_to x y not = record {
  version = at_most x.tag.version y.tag.version (λ lt. not (inl lt));
  seq = λ v. at_most x.tag.seq y.tag.seq (λ lt. not (inr (v, inl lt)));
  page = λ v s. at_most x.page y.page (λ lt. not (inr (v, inr (s, inl lt))));
  block = λ v s p. at_most x.block y.block (λ lt. not (inr (v, inr (s, inr (p, lt)))));
}

not_after : (x y : Spot) → IsUpTo x y → IsAfter x y → ⊥
not_after x y up after = elim after [
  | inl lt ↦ absurd (omega (arith, lt, up.version))
  | inr (v, rest) ↦ elim rest [
    | inl lt ↦ absurd (omega (arith, lt, up.seq v))
    | inr (s, more) ↦ elim more [
      | inl lt ↦ absurd (omega (arith, lt, up.page v s))
      | inr (p, lt) ↦ absurd (omega (arith, lt, up.block v s p))
    ]
  ]
]

-- what does not come after a page that does not come after another does not come after that one
pub not_after_on : (x y z : Spot) → (IsAfter x y → ⊥) → (IsAfter y z → ⊥) → IsAfter x z → ⊥
not_after_on x y z first next =
    let a : IsUpTo x y = up_to x y first in
    let b : IsUpTo y z = up_to y z next in
    not_after x z (record {
      version = omega (arith, a.version, b.version);
      seq = λ v.
          let v1 : x.tag.version ≡ y.tag.version = omega (arith, v, a.version, b.version) in
          let v2 : y.tag.version ≡ z.tag.version = omega (arith, v, a.version, b.version) in
          let s1 : x.tag.seq ≤ y.tag.seq = a.seq v1 in
          let s2 : y.tag.seq ≤ z.tag.seq = b.seq v2 in
          omega (arith, s1, s2);
      page = λ v s.
          let v1 : x.tag.version ≡ y.tag.version = omega (arith, v, a.version, b.version) in
          let v2 : y.tag.version ≡ z.tag.version = omega (arith, v, a.version, b.version) in
          let s1 : x.tag.seq ≤ y.tag.seq = a.seq v1 in
          let s2 : y.tag.seq ≤ z.tag.seq = b.seq v2 in
          let s3 : x.tag.seq ≡ y.tag.seq = omega (arith, s, s1, s2) in
          let s4 : y.tag.seq ≡ z.tag.seq = omega (arith, s, s1, s2) in
          let p1 : x.page ≤ y.page = a.page v1 s3 in
          let p2 : y.page ≤ z.page = b.page v2 s4 in
          omega (arith, p1, p2);
      block = λ v s p.
          let v1 : x.tag.version ≡ y.tag.version = omega (arith, v, a.version, b.version) in
          let v2 : y.tag.version ≡ z.tag.version = omega (arith, v, a.version, b.version) in
          let s1 : x.tag.seq ≤ y.tag.seq = a.seq v1 in
          let s2 : y.tag.seq ≤ z.tag.seq = b.seq v2 in
          let s3 : x.tag.seq ≡ y.tag.seq = omega (arith, s, s1, s2) in
          let s4 : y.tag.seq ≡ z.tag.seq = omega (arith, s, s1, s2) in
          let p1 : x.page ≤ y.page = a.page v1 s3 in
          let p2 : y.page ≤ z.page = b.page v2 s4 in
          let p3 : x.page ≡ y.page = omega (arith, p, p1, p2) in
          let p4 : y.page ≡ z.page = omega (arith, p, p1, p2) in
          let b1 : x.block ≤ y.block = a.block v1 s3 p3 in
          let b2 : y.block ≤ z.block = b.block v2 s4 p4 in
          omega (arith, b1, b2);
    })
