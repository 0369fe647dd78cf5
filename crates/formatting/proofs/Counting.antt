-- Counting over the numbers from a on, one by one.
use Rattle.std.specs.Prelude.{◌≡◌, ◌≢◌, ◌≤◌, ◌<◌, ℕ, zero, suc, ◌+◌, Bool, true, false, not, ◌&&◌, nat_eq, cond, count_by}
use Rattle.std.specs.List.{range_with_len}
use Rattle.std.proofs.Common.{refl, ◌∙◌, ap, inl, inr, arith}
use Rattle.std.proofs.lemmas.Bool.{cases_eq, cases_order, ne_eqb}
use Rattle.std.proofs.Math.Numerals.{add-one}
use Rattle.std.proofs.lemmas.List.Sums.{sum_by-cons}
use Rattle.flash_tree.specs.laws.Counting.{totaled}

-- where no number from a on passes otherwise, as many pass
count_same : (p q : ℕ → Bool) (a n : ℕ) → ((k : ℕ) → a ≤ k → q k ≡ p k) → count_by q (range_with_len a n) ≡ count_by p (range_with_len a n)
count_same p q a zero same = refl
count_same p q a (suc n) same =
    let one : count_by q (range_with_len a (suc n)) ≡ cond (q a) 1 0 + count_by q (range_with_len (a + 1) n) = sum_by-cons (λ x. cond (q x) 1 0) a (range_with_len (a + 1) n) in
    let two : count_by p (range_with_len a (suc n)) ≡ cond (p a) 1 0 + count_by p (range_with_len (a + 1) n) = sum_by-cons (λ x. cond (p x) 1 0) a (range_with_len (a + 1) n) in
    let here : cond {A = ℕ} (q a) 1 0 ≡ cond (p a) 1 0 = ap (λ b. cond b 1 0) (same a (omega arith)) in
    let rest = count_same p q (a + 1) n (λ k le. same k (omega arith)) in
    omega (arith, one, two, here, rest)

count_at_most_one : (b : Bool) → cond {A = ℕ} b 1 0 ≤ 1
count_at_most_one true = omega arith
count_at_most_one false = omega arith

-- where one number alone may pass otherwise, at most one more passes
pub count_one_more : (p q : ℕ → Bool) (b a n : ℕ) → ((k : ℕ) → k ≢ b → q k ≡ p k) → count_by q (range_with_len a n) ≤ count_by p (range_with_len a n) + 1
count_one_more p q b a zero same = omega arith
count_one_more p q b a (suc n) same =
    let one : count_by q (range_with_len a (suc n)) ≡ cond (q a) 1 0 + count_by q (range_with_len (a + 1) n) = sum_by-cons (λ x. cond (q x) 1 0) a (range_with_len (a + 1) n) in
    let two : count_by p (range_with_len a (suc n)) ≡ cond (p a) 1 0 + count_by p (range_with_len (a + 1) n) = sum_by-cons (λ x. cond (p x) 1 0) a (range_with_len (a + 1) n) in
    elim (cases_eq a b) [
      | inr ne ↦
          let here : cond {A = ℕ} (q a) 1 0 ≡ cond (p a) 1 0 = ap (λ b. cond b 1 0) (same a ne) in
          let rest = count_one_more p q b (a + 1) n same in
          omega (arith, one, two, here, rest)
      | inl e ↦
          let rest = count_same p q (a + 1) n (λ k le. same k (λ is. omega (arith, le, is, e))) in
          omega (arith, one, two, rest, count_at_most_one (q a))
    ]

-- where one number alone passes that did not, one more passes
pub count_new : (p q : ℕ → Bool) (b a n : ℕ) → ((k : ℕ) → k ≢ b → q k ≡ p k) → p b ≡ false → q b ≡ true → a ≤ b → b < a + n
    → count_by q (range_with_len a n) ≡ count_by p (range_with_len a n) + 1
count_new p q b a zero same was is least most = absurd (omega arith)
count_new p q b a (suc n) same was is least most =
    let one : count_by q (range_with_len a (suc n)) ≡ cond (q a) 1 0 + count_by q (range_with_len (a + 1) n) = sum_by-cons (λ x. cond (q x) 1 0) a (range_with_len (a + 1) n) in
    let two : count_by p (range_with_len a (suc n)) ≡ cond (p a) 1 0 + count_by p (range_with_len (a + 1) n) = sum_by-cons (λ x. cond (p x) 1 0) a (range_with_len (a + 1) n) in
    elim (cases_order a b) [
      | inl e ↦
          let here : cond {A = ℕ} (q a) 1 0 ≡ 1 = ap (λ x. cond (q x) 1 0) e ∙ ap (λ x. cond x 1 0) is in
          let before : cond {A = ℕ} (p a) 1 0 ≡ 0 = ap (λ x. cond (p x) 1 0) e ∙ ap (λ x. cond x 1 0) was in
          let rest = count_same p q (a + 1) n (λ k le. same k (λ at. omega (arith, le, at, e))) in
          omega (arith, one, two, here, before, rest)
      | inr (inl lt) ↦
          let here : cond {A = ℕ} (q a) 1 0 ≡ cond (p a) 1 0 = ap (λ x. cond x 1 0) (same a (λ at. omega (arith, lt, at))) in
          let rest = count_new p q b (a + 1) n same was is (omega (arith, lt)) (omega (arith, most)) in
          omega (arith, one, two, here, rest)
      | inr (inr gt) ↦ absurd (omega (arith, gt, least))
    ]

-- where all pass, all are in the count
pub count_all : (p : ℕ → Bool) (n : ℕ) → ((k : ℕ) → k < n → p k ≡ true) → count_by p (range_with_len 0 n) ≡ n
count_all p zero all = refl
count_all p (suc n) all =
    let more = rw (add-one n) at (totaled p n (all n (omega arith))) in
    let rest = count_all p n (λ k lt. all k (omega arith)) in
    omega (arith, more, rest)

-- each passes the one test or the other
count_both : (p : ℕ → Bool) (a n : ℕ) → count_by p (range_with_len a n) + count_by (λ k. not (p k)) (range_with_len a n) ≡ n
count_both p a zero = refl
count_both p a (suc n) =
    let q : ℕ → Bool = λ k. not (p k) in
    let one : count_by p (range_with_len a (suc n)) ≡ cond (p a) 1 0 + count_by p (range_with_len (a + 1) n) = sum_by-cons (λ x. cond (p x) 1 0) a (range_with_len (a + 1) n) in
    let two : count_by q (range_with_len a (suc n)) ≡ cond (q a) 1 0 + count_by q (range_with_len (a + 1) n) = sum_by-cons (λ x. cond (q x) 1 0) a (range_with_len (a + 1) n) in
    let rest = count_both p (a + 1) n in
    omega (arith, one, two, rest, either (p a))
  where
    either : (b : Bool) → cond {A = ℕ} b 1 0 + cond {A = ℕ} (not b) 1 0 ≡ 1
    either true = refl
    either false = refl

-- of those that do not pass, all but one are picked
pub enough_picked : (p : ℕ → Bool) (b n : ℕ) → n ≤ count_by (λ k. not (p k) && not (nat_eq k b)) (range_with_len 0 n) + 1 + count_by p (range_with_len 0 n)
enough_picked p b n =
    let all = count_both p 0 n in
    let but_one = count_one_more (λ k. not (p k) && not (nat_eq k b)) (λ k. not (p k)) b 0 n (λ k ne. other (p k) (nat_eq k b) (ne_eqb k b ne)) in
    omega (arith, all, but_one)
  where
    other : (is same : Bool) → same ≡ false → not is ≡ (not is && not same)
    other is true e = absurd cc
    other true false e = refl
    other false false e = refl
