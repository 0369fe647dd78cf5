-- The two parts of numbers that rise.
use Rattle.std.proofs.Common.{◌≡◌, ◌⊎◌, ℕ, ◌+◌, ◌-◌, ◌<◌, ◌≤◌, List, length, get_or, take, drop, sym, ap, ◌∙◌, arith, inl, inr, length-drop}
use Rattle.std.proofs.lemmas.Bool.{cases_lt}
use Rattle.std.proofs.lemmas.List.{get_or-take, get_or-drop, length-take-le}
use Rattle.name_index.specs.Lists.{Rises, IsIn}
use Rattle.name_index.proofs.Searching.{rises_le}

module _ (xs : List ℕ) (rises : Rises xs) (n : ℕ) (more : n < length xs) where
  low_size : length (take n xs) ≡ n
  low_size = length-take-le n xs (omega (arith, more))

  high_size : length (drop n xs) ≡ length xs - n
  high_size = length-drop n xs

  pub filled_take : 0 < n → 0 < length (take n xs)
  filled_take some = omega (arith, low_size, some)

  pub filled_drop : 0 < length (drop n xs)
  filled_drop = omega (arith, high_size, more)

  low : (k : ℕ) → k < n → get_or (take n xs) k 0 ≡ get_or xs k 0
  low k lt = get_or-take n xs k 0 lt

  high : (k : ℕ) → get_or (drop n xs) k 0 ≡ get_or xs (n + k) 0
  high k = get_or-drop n xs k 0

  pub rises_take : Rises (take n xs)
  rises_take a b lt within =
      let r : get_or xs a 0 < get_or xs b 0 = rises a b lt (omega (arith, within, low_size, more)) in
      omega (arith, r, low a (omega (arith, within, low_size, lt)), low b (omega (arith, within, low_size)))

  pub rises_drop : Rises (drop n xs)
  rises_drop a b lt within =
      let r : get_or xs (n + a) 0 < get_or xs (n + b) 0 = rises (n + a) (n + b) (omega (arith, lt)) (omega (arith, within, high_size, more)) in
      omega (arith, r, high a, high b)

  pub first_is : get_or (drop n xs) 0 0 ≡ get_or xs n 0
  first_is = high 0 ∙ ap (λ k. get_or xs k 0) (omega arith)

  pub in_low : (y : ℕ) → IsIn (take n xs) y → IsIn xs y × (y < get_or (drop n xs) 0 0)
  in_low y is =
      let lt : is.0 < length (take n xs) = is.1 in
      let below : is.0 < n = omega (arith, lt, low_size) in
      let there : get_or xs is.0 0 ≡ y = sym (low is.0 below) ∙ is.2 in
      let r : get_or xs is.0 0 < get_or xs n 0 = rises is.0 n below more in
      ((is.0, omega (arith, below, more), there), omega (arith, r, there, first_is))

  pub in_high : (y : ℕ) → IsIn (drop n xs) y → IsIn xs y × (get_or (drop n xs) 0 0 ≤ y)
  in_high y is =
      let lt : is.0 < length (drop n xs) = is.1 in
      let there : get_or xs (n + is.0) 0 ≡ y = sym (high is.0) ∙ is.2 in
      let within : n + is.0 < length xs = omega (arith, lt, high_size, more) in
      let r : get_or xs n 0 ≤ get_or xs (n + is.0) 0 = rises_le xs rises n (n + is.0) (omega arith) within in
      ((n + is.0, within, there), omega (arith, r, there, first_is))

  pub in_either : (y : ℕ) → IsIn xs y → IsIn (take n xs) y ⊎ IsIn (drop n xs) y
  in_either y is =
      let lt : is.0 < length xs = is.1 in
      elim (cases_lt is.0 n) [
        | inl below ↦ inl (is.0, omega (arith, low_size, below), low is.0 below ∙ is.2)
        | inr above ↦
            let back : n + (is.0 - n) ≡ is.0 = omega (arith, above) in
            inr (is.0 - n, omega (arith, high_size, above, lt), high (is.0 - n) ∙ ap (λ k. get_or xs k 0) back ∙ is.2)
      ]

  -- it begins behind the first number
  pub first_above : 0 < n → get_or xs 0 0 < get_or (drop n xs) 0 0
  first_above some = let r : get_or xs 0 0 < get_or xs n 0 = rises 0 n some more in omega (arith, r, first_is)

  pub first_in : IsIn xs (get_or (drop n xs) 0 0)
  first_in = (n, more, sym first_is)
