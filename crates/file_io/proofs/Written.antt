-- What a write and a change of the length leave at each place.
use Rattle.std.specs.Prelude.{◌≡◌, ◌<◌, ◌≤◌, ℕ, ◌+◌, ◌-◌, max, List, ◌++◌, length, take, drop, replicate, get_or}
use Rattle.std.proofs.Common.{refl, sym, ◌∙◌, ap, inl, inr, arith}
use Rattle.std.proofs.lemmas.Bool.{cases_lt}
use Rattle.std.proofs.lemmas.List.{get_or_append_left, get_or-append_right, get_or-take, get_or-drop, get_or_past, length-append, length-take-le, length-drop, length-replicate}
use Rattle.volume_terms.specs.laws.List.{with_zeros}
use Rattle.posix_profile.specs.Changes.{written, resized}
use Rattle.file_io.specs.Chunks.{overwritten}

module _ (xs : List ℕ) (off : ℕ) (bytes : List ℕ) (within : off ≤ length xs) where
  over_front : length (take off xs) ≡ off
  over_front = length-take-le off xs within

  pub length-overwritten : length (overwritten xs off bytes) ≡ off + length bytes + (length xs - (off + length bytes))
  length-overwritten = length-append (take off xs) (bytes ++ drop (off + length bytes) xs)
      ∙ omega (arith, over_front, length-append bytes (drop (off + length bytes) xs), length-drop (off + length bytes) xs)

  pub over_before : (i : ℕ) → i < off → get_or (overwritten xs off bytes) i 0 ≡ get_or xs i 0
  over_before i less = get_or_append_left (take off xs) (bytes ++ drop (off + length bytes) xs) 0 i (omega (arith, over_front, less)) ∙ get_or-take off xs i 0 less

  over_rest : (i : ℕ) → off ≤ i → get_or (overwritten xs off bytes) i 0 ≡ get_or (bytes ++ drop (off + length bytes) xs) (i - off) 0
  over_rest i more = get_or-append_right (take off xs) (bytes ++ drop (off + length bytes) xs) off i 0 over_front more

  pub over_here : (i : ℕ) → off ≤ i → i < off + length bytes → get_or (overwritten xs off bytes) i 0 ≡ get_or bytes (i - off) 0
  over_here i more less = over_rest i more ∙ get_or_append_left bytes (drop (off + length bytes) xs) 0 (i - off) (omega (arith, more, less))

  pub over_after : (i : ℕ) → off + length bytes ≤ i → get_or (overwritten xs off bytes) i 0 ≡ get_or xs i 0
  over_after i more =
      let place : off + length bytes + (i - off - length bytes) ≡ i = omega (arith, more) in
      over_rest i (omega (arith, more)) ∙ get_or-append_right bytes (drop (off + length bytes) xs) (length bytes) (i - off) 0 refl (omega (arith, more))
      ∙ get_or-drop (off + length bytes) xs (i - off - length bytes) 0 ∙ ap (λ n. get_or xs n 0) place

module _ (all : List ℕ) (off : ℕ) (bytes : List ℕ) where
  long : length (all ++ replicate (off - length all) 0) ≡ max (length all) off
  long = omega (arith, length-append all (replicate (off - length all) 0), length-replicate {A = ℕ} (off - length all) 0)

  front : length (take off (all ++ replicate (off - length all) 0)) ≡ off
  front = length-take-le off (all ++ replicate (off - length all) 0) (omega (arith, long))

  pub length-written : length (written all off bytes) ≡ max (length all) (off + length bytes)
  length-written = length-append (take off (all ++ replicate (off - length all) 0)) (bytes ++ drop (off + length bytes) all)
      ∙ omega (arith, front, length-append bytes (drop (off + length bytes) all), length-drop (off + length bytes) all)

  pub written_before : (i : ℕ) → i < off → get_or (written all off bytes) i 0 ≡ get_or all i 0
  written_before i less =
      get_or_append_left (take off (all ++ replicate (off - length all) 0)) (bytes ++ drop (off + length bytes) all) 0 i (omega (arith, front, less))
      ∙ get_or-take off (all ++ replicate (off - length all) 0) i 0 less ∙ with_zeros all (off - length all) i

  rest : (i : ℕ) → off ≤ i → get_or (written all off bytes) i 0 ≡ get_or (bytes ++ drop (off + length bytes) all) (i - off) 0
  rest i more = get_or-append_right (take off (all ++ replicate (off - length all) 0)) (bytes ++ drop (off + length bytes) all) off i 0 front more

  pub written_here : (i : ℕ) → off ≤ i → i < off + length bytes → get_or (written all off bytes) i 0 ≡ get_or bytes (i - off) 0
  written_here i more less = rest i more ∙ get_or_append_left bytes (drop (off + length bytes) all) 0 (i - off) (omega (arith, more, less))

  pub written_after : (i : ℕ) → off + length bytes ≤ i → get_or (written all off bytes) i 0 ≡ get_or all i 0
  written_after i more =
      let place : off + length bytes + (i - off - length bytes) ≡ i = omega (arith, more) in
      rest i (omega (arith, more)) ∙ get_or-append_right bytes (drop (off + length bytes) all) (length bytes) (i - off) 0 refl (omega (arith, more))
      ∙ get_or-drop (off + length bytes) all (i - off - length bytes) 0 ∙ ap (λ n. get_or all n 0) place

module _ (all : List ℕ) (n : ℕ) where
  pub length-resized : length (resized all n) ≡ n
  length-resized = length-take-le n (all ++ replicate (n - length all) 0)
      (omega (arith, length-append all (replicate (n - length all) 0), length-replicate {A = ℕ} (n - length all) 0))

  pub resized_within : (i : ℕ) → i < n → get_or (resized all n) i 0 ≡ get_or all i 0
  resized_within i less = get_or-take n (all ++ replicate (n - length all) 0) i 0 less ∙ with_zeros all (n - length all) i

  -- a file that grew has the same byte at each place
  pub grown_at : length all ≤ n → (i : ℕ) → get_or (resized all n) i 0 ≡ get_or all i 0
  grown_at more i = elim (cases_lt i n) [
    | inl less ↦ resized_within i less
    | inr past ↦ get_or_past (resized all n) i 0 (omega (arith, past, length-resized)) ∙ sym (get_or_past all i 0 (omega (arith, past, more)))
  ]
