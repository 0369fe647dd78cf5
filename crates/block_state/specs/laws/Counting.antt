-- What holds of counts and sums over the blocks.
use Rattle.std.specs.Prelude.{◌≡◌, ◌≢◌, ◌<◌, ◌≤◌, ℕ, zero, suc, ◌+◌, Bool, true, false, cond, ◌&&◌, []}
use Rattle.std.specs.List.{range_with_len, sum_by}
use Rattle.std.proofs.Common.{refl, sym, ap, arith, ◌∙◌, inl, inr}
use Rattle.std.proofs.lemmas.Bool.{cases_eq, and_left, and_right}
use Rattle.std.proofs.lemmas.List.Sums.{sum_by-cons}
use Rattle.std.proofs.Math.Numerals.{add-one}
use Rattle.block_state.specs.Counting.{how_many, sum_below}

-- ---- sums

sum_longer : (f : ℕ → ℕ) (a n : ℕ) → sum_by f (range_with_len a (suc n)) ≡ sum_by f (range_with_len a n) + f (a + n)
sum_longer f a zero =
    let here : sum_by f (range_with_len a 1) ≡ f a + sum_by f (range_with_len a 0) = sum_by-cons f a [] in
    let at : f (a + 0) ≡ f a = ap f (omega arith) in
    omega (arith, here, at)
sum_longer f a (suc n) =
    let here : sum_by f (range_with_len a (suc (suc n))) ≡ f a + sum_by f (range_with_len (a + 1) (suc n)) = sum_by-cons f a (range_with_len (a + 1) (suc n)) in
    let less : sum_by f (range_with_len a (suc n)) ≡ f a + sum_by f (range_with_len (a + 1) n) = sum_by-cons f a (range_with_len (a + 1) n) in
    let rest = sum_longer f (a + 1) n in
    let at : f (a + 1 + n) ≡ f (a + suc n) = ap f (omega arith) in
    omega (arith, here, less, rest, at)

-- the next number adds what it has
pub sum_below-suc : (f : ℕ → ℕ) (n : ℕ) → sum_below f (suc n) ≡ sum_below f n + f n
sum_below-suc f n = let at : f (0 + n) ≡ f n = ap f (omega arith) in sum_longer f 0 n ∙ ap (λ x. sum_below f n + x) at

-- where two functions add up to as much as two others at each number, so do their sums
pub sum_below-balanced : (f g h i : ℕ → ℕ) (n : ℕ) → ((k : ℕ) → k < n → f k + g k ≡ h k + i k) → sum_below f n + sum_below g n ≡ sum_below h n + sum_below i n
sum_below-balanced f g h i zero each = refl
sum_below-balanced f g h i (suc n) each =
    let before : sum_below f n + sum_below g n ≡ sum_below h n + sum_below i n = sum_below-balanced f g h i n (λ k lt. each k (omega (arith, lt))) in
    let here : f n + g n ≡ h n + i n = each n (omega arith) in
    omega (arith, before, here, sum_below-suc f n, sum_below-suc g n, sum_below-suc h n, sum_below-suc i n)

-- the same below n, where they are the same there
pub sum_below-same : (f g : ℕ → ℕ) (n : ℕ) → ((k : ℕ) → k < n → f k ≡ g k) → sum_below f n ≡ sum_below g n
sum_below-same f g zero same = refl
sum_below-same f g (suc n) same =
    let before : sum_below f n ≡ sum_below g n = sum_below-same f g n (λ k lt. same k (omega (arith, lt))) in
    let here : f n ≡ g n = same n (omega arith) in
    omega (arith, before, here, sum_below-suc f n, sum_below-suc g n)

-- where one number alone has something else, the sum changes by that
pub sum_below-changed : (f g : ℕ → ℕ) (b n : ℕ) → b < n → ((k : ℕ) → k ≢ b → g k ≡ f k) → sum_below g n + f b ≡ sum_below f n + g b
sum_below-changed f g b zero lt same = absurd (omega (arith, lt))
sum_below-changed f g b (suc n) lt same = elim (cases_eq b n) [
  | inl e ↦
      let before : sum_below g n ≡ sum_below f n = sum_below-same g f n (λ k less. same k (λ here. omega (arith, less, here, e))) in
      let f_here : f b ≡ f n = ap f e in
      let g_here : g b ≡ g n = ap g e in
      omega (arith, before, f_here, g_here, sum_below-suc f n, sum_below-suc g n)
  | inr ne ↦
      let before : sum_below g n + f b ≡ sum_below f n + g b = sum_below-changed f g b n (omega (arith, lt, ne)) same in
      let here : g n ≡ f n = same n (λ e. ne (sym e)) in
      omega (arith, before, here, sum_below-suc f n, sum_below-suc g n)
]

-- nothing, where each has nothing
pub sum_below-zero : (f : ℕ → ℕ) (n : ℕ) → ((k : ℕ) → k < n → f k ≡ 0) → sum_below f n ≡ 0
sum_below-zero f zero none = refl
sum_below-zero f (suc n) none =
    let before : sum_below f n ≡ 0 = sum_below-zero f n (λ k lt. none k (omega (arith, lt))) in
    let here : f n ≡ 0 = none n (omega arith) in
    omega (arith, before, here, sum_below-suc f n)

-- ---- counts

-- 1 for a number that has the property, and 0 for each other
abbrev pub one_if : (ℕ → Bool) → ℕ → ℕ
one_if f k = cond (f k) 1 0

-- one more, where the next has the property
pub counts_one : (f : ℕ → Bool) (n : ℕ) → f n ≡ true → how_many f (n + 1) ≡ how_many f n + 1
counts_one f n is = rw (add-one n) (sum_below-suc (one_if f) n ∙ ap (λ b. how_many f n + cond b 1 0) is)

-- and else none
pub counts_none : (f : ℕ → Bool) (n : ℕ) → f n ≡ false → how_many f (n + 1) ≡ how_many f n
counts_none f n not = rw (add-one n) (sum_below-suc (one_if f) n ∙ ap (λ b. how_many f n + cond b 1 0) not ∙ omega arith)

-- the same below n, where they are the same there
pub counts_same : (f g : ℕ → Bool) (n : ℕ) → ((k : ℕ) → k < n → f k ≡ g k) → how_many f n ≡ how_many g n
counts_same f g n same = sum_below-same (one_if f) (one_if g) n (λ k lt. ap (λ b. cond b 1 0) (same k lt))

-- none, where none has it
pub counts_nothing : (f : ℕ → Bool) (n : ℕ) → ((k : ℕ) → k < n → f k ≡ false) → how_many f n ≡ 0
counts_nothing f n none = sum_below-zero (one_if f) n (λ k lt. ap (λ b. cond b 1 0) (none k lt))

-- one fewer, where one ceases to have it
pub counts_less : (f g : ℕ → Bool) (b n : ℕ) → b < n → f b ≡ true → g b ≡ false → ((k : ℕ) → k ≢ b → g k ≡ f k) → how_many f n ≡ how_many g n + 1
counts_less f g b n lt was is same =
    let changed : how_many g n + one_if f b ≡ how_many f n + one_if g b = sum_below-changed (one_if f) (one_if g) b n lt (λ k ne. ap (λ x. cond x 1 0) (same k ne)) in
    let one : one_if f b ≡ 1 = ap (λ x. cond x 1 0) was in
    let none : one_if g b ≡ 0 = ap (λ x. cond x 1 0) is in
    omega (arith, changed, one, none)

and_same : (x y : Bool) → y ≡ x → (x && y) ≡ x
and_same true y is = is
and_same false y is = refl

and_same_right : (x y : Bool) → y ≡ x → (x && y) ≡ y
and_same_right true y is = refl
and_same_right false y is = sym is

-- as many, where one ceases to have it and another comes to have it
pub counts_swap : (f g : ℕ → Bool) (v w n : ℕ) → v < n → w < n → f w ≡ true → g w ≡ false → f v ≡ false → g v ≡ true
    → ((k : ℕ) → k ≢ v → k ≢ w → g k ≡ f k) → how_many f n ≡ how_many g n
counts_swap f g v w n v_lt w_lt f_w g_w f_v g_v same =
    let h : ℕ → Bool = λ k. f k && g k in
    let one : how_many f n ≡ how_many h n + 1 = counts_less f h w n w_lt f_w (and_right (f w) (g w) g_w) (λ k ne. elim (cases_eq k v) [
      | inl e ↦ and_left (f k) (g k) (ap f e ∙ f_v) ∙ sym (ap f e ∙ f_v)
      | inr apart ↦ and_same (f k) (g k) (same k apart ne)
    ]) in
    let two : how_many g n ≡ how_many h n + 1 = counts_less g h v n v_lt g_v (and_left (f v) (g v) f_v) (λ k ne. elim (cases_eq k w) [
      | inl e ↦ and_right (f k) (g k) (ap g e ∙ g_w) ∙ sym (ap g e ∙ g_w)
      | inr apart ↦ and_same_right (f k) (g k) (same k ne apart)
    ]) in
    omega (arith, one, two)

-- no more than there are
pub counts_most : (f : ℕ → Bool) (n : ℕ) → how_many f n ≤ n
counts_most f zero = omega arith
counts_most f (suc n) =
    let below : how_many f n ≤ n = counts_most f n in
    let more : how_many f (suc n) ≡ how_many f n + one_if f n = sum_below-suc (one_if f) n in
    omega (arith, below, more, at_most_one (f n)) where
      at_most_one : (b : Bool) → cond {A = ℕ} b 1 0 ≤ 1
      at_most_one true = omega arith
      at_most_one false = omega arith
