-- Presence bits by the bytes that hold them.
use Rattle.std.proofs.Common.{◌≡◌, ◌<◌, ◌≤◌, ℕ, zero, suc, ◌+◌, ◌-◌, ◌*◌, ◌/◌, ◌%◌, ◌^◌, List, length, get_or, sym, ap, ◌∙◌, inl, inr, ◌⊎◌, true, false, eqb, drop, EachIndex, div-one, get_or-drop, arith}
use Rattle.std.specs.Int.{bit_at, trailing_zeros, w8}
use Rattle.std.proofs.lemmas.Bool.{cases_eq, cases_lt, cases_Bool, eq-eqb, false≢true}
use Rattle.std.proofs.lemmas.List.{get_or_past}
use Rattle.std.proofs.lemmas.Nat.{div-add-mod', shr-shr, shr_le}
use Rattle.std.proofs.lemmas.Nat.Bits.{bit_at-zero, bit_at-trailing_zeros, bit_at_above}
use Rattle.page_tags.specs.Headers.{IsBytes, is_present}
use Rattle.page_tags.specs.HeaderParts.{HasNonePast, HasPast}

-- past the bits nothing is present
pub is_present_past : (bits : List ℕ) (c : ℕ) → length bits ≤ (c - 1) / 8 → is_present bits c ≡ false
unfolding is_present
is_present_past bits c past = ap (λ n. eqb (bit_at n ((c - 1) % 8)) 1) (get_or_past bits ((c - 1) / 8) 0 past) ∙ ap (λ n. eqb n 1) (bit_at-zero ((c - 1) % 8))

-- the chunk of a bit
is_present_at : (bits : List ℕ) (j i : ℕ) → i < 8 → bit_at (get_or bits j 0) i ≡ 1 → is_present bits (8 * j + i + 1) ≡ true
unfolding is_present
is_present_at bits j i within set =
    let byte : (8 * j + i + 1 - 1) / 8 ≡ j = omega arith in
    let bit : (8 * j + i + 1 - 1) % 8 ≡ i = omega arith in
    ap (λ k. eqb (bit_at (get_or bits k 0) ((8 * j + i + 1 - 1) % 8)) 1) byte
    ∙ ap (λ k. eqb (bit_at (get_or bits j 0) k) 1) bit ∙ eq-eqb (bit_at (get_or bits j 0) i) 1 set

-- a byte that is not zero from its bit k on has a chunk there
pub present_in_byte : (bits : List ℕ) (j k : ℕ) → IsBytes bits → (get_or bits j 0 / 2 ^ k ≡ 0 → ⊥) → HasPast bits (8 * j + k)
present_in_byte bits j k bytes some =
    let byte : ℕ = get_or bits j 0 in
    let byte_small : byte < 256 = bytes j in
    let small : byte / 2 ^ k < 2 ^ 8 = omega (arith, shr_le byte k) in
    let lowest = bit_at-trailing_zeros w8 (byte / 2 ^ k) (omega arith) small in
    let i : ℕ = k + trailing_zeros w8 (byte / 2 ^ k) in
    let set : bit_at byte i ≡ 1 = ap (λ n. n % 2) (sym (shr-shr byte k (trailing_zeros w8 (byte / 2 ^ k)))) ∙ lowest.1 in
    let within : i < 8 = elim (cases_lt i 8) [
      | inl lt ↦ lt
      | inr ge ↦ let clear = bit_at_above byte 8 i byte_small ge in absurd (omega arith)
    ] in
    (8 * j + i + 1, omega arith, is_present_at bits j i within set)

-- Where the byte of the last chunk has no bit past its own, and all later bytes are zero, there is no chunk past it.
pub absent_past : (bits : List ℕ) (last : ℕ) → get_or bits (last / 8) 0 / 2 ^ (last % 8) ≡ 0 → ((j : ℕ) → last / 8 < j → get_or bits j 0 ≡ 0) → HasNonePast bits last
unfolding is_present
absent_past bits last here later c past =
    let bit : ℕ = (c - 1) % 8 in
    let clear : bit_at (get_or bits ((c - 1) / 8) 0) bit ≡ 0 = elim (cases_eq ((c - 1) / 8) (last / 8)) [
      | inl same ↦
          let above : last % 8 + (bit - last % 8) ≡ bit = omega (arith, div-add-mod' (c - 1) 8, div-add-mod' last 8) in
          ap (λ j. bit_at (get_or bits j 0) bit) same
          ∙ ap (bit_at (get_or bits (last / 8) 0)) (sym above)
          ∙ ap (λ n. n % 2) (sym (shr-shr (get_or bits (last / 8) 0) (last % 8) (bit - last % 8)))
          ∙ ap (λ n. bit_at n (bit - last % 8)) here ∙ bit_at-zero (bit - last % 8)
      | inr other ↦ ap (λ n. bit_at n bit) (later ((c - 1) / 8) (omega (arith, div-add-mod' (c - 1) 8, div-add-mod' last 8))) ∙ bit_at-zero bit
    ] in
    ap (λ n. eqb n 1) clear

-- the search for such a chunk, among the first n
search_past : (bits : List ℕ) (last n : ℕ) → HasPast bits last ⊎ ((c : ℕ) → last < c → c ≤ n → is_present bits c ≡ false)
search_past bits last zero = inr (λ c past le. absurd (omega arith))
search_past bits last (suc n) = elim (search_past bits last n) [
  | inl found ↦ inl found
  | inr none ↦ elim (cases_lt last (suc n)) [
    | inl past ↦ elim (cases_Bool (is_present bits (suc n))) [
      | inl there ↦ inl (suc n, past, there)
      | inr absent ↦ inr (λ c after le. elim (cases_eq c (suc n)) [
        | inl same ↦ ap (is_present bits) same ∙ absent
        | inr other ↦ none c after (omega arith)
      ])
    ]
    | inr before ↦ inr (λ c after le. none c after (omega arith))
  ]
]

-- there is such a chunk or there is none
pub past_or_none : (bits : List ℕ) (last : ℕ) → HasPast bits last ⊎ HasNonePast bits last
past_or_none bits last = elim (search_past bits last (8 * length bits)) [
  | inl found ↦ inl found
  | inr none ↦ inr (λ c past. elim (cases_lt (8 * length bits) c) [
    | inl beyond ↦ is_present_past bits c (omega arith)
    | inr within ↦ none c past within
  ])
]

-- ---- what the bytes say of the chunks past the last one

module _ (bits : List ℕ) (last : ℕ) where
  -- by the byte of the last chunk
  pub past_by_byte : IsBytes bits → (get_or bits (last / 8) 0 / 2 ^ (last % 8) ≡ 0 → ⊥) → HasPast bits last
  past_by_byte bytes some =
      let past = present_in_byte bits (last / 8) (last % 8) bytes some in
      (past.0, omega (arith, past.1, div-add-mod' last 8), past.2)

  -- by the bytes behind it
  pub past_by_rest : IsBytes bits → (rest : List ℕ) → rest ≡ drop (last / 8 + 1) bits → ¬ EachIndex rest (λ i. get_or rest i 0 ≡ 0) → HasPast bits last
  past_by_rest bytes rest is some = elim (past_or_none bits last) [
    | inl past ↦ past
    | inr none ↦ absurd (some (λ i _. elim (cases_eq (get_or rest i 0) 0) [
      | inl clear ↦ clear
      | inr set ↦
          let j : ℕ = last / 8 + 1 + i in
          let there : get_or rest i 0 ≡ get_or bits j 0 = ap (λ bs. get_or bs i 0) is ∙ get_or-drop (last / 8 + 1) bits i 0 in
          let past = present_in_byte bits j 0 bytes (λ e. set (there ∙ sym (div-one (get_or bits j 0)) ∙ e)) in
          absurd (false≢true (sym (none past.0 (omega (arith, past.1, div-add-mod' last 8))) ∙ past.2))
    ]))
  ]

  -- with all of them clear there is none
  pub none_past : get_or bits (last / 8) 0 / 2 ^ (last % 8) ≡ 0 → (rest : List ℕ) → rest ≡ drop (last / 8 + 1) bits → EachIndex rest (λ i. get_or rest i 0 ≡ 0) → HasPast bits last → ⊥
  none_past here rest is clear past =
      let later : (j : ℕ) → last / 8 < j → get_or bits j 0 ≡ 0 = λ j after.
      let there : get_or bits j 0 ≡ get_or rest (j - (last / 8 + 1)) 0 =
      ap (λ k. get_or bits k 0) (omega arith) ∙ sym (get_or-drop (last / 8 + 1) bits (j - (last / 8 + 1)) 0) ∙ ap (λ bs. get_or bs (j - (last / 8 + 1)) 0) (sym is) in
      elim (cases_lt (j - (last / 8 + 1)) (length rest)) [
        | inl within ↦ there ∙ clear (j - (last / 8 + 1)) within
        | inr beyond ↦ there ∙ get_or_past rest (j - (last / 8 + 1)) 0 beyond
      ] in
      false≢true (sym (absent_past bits last here later past.0 past.1) ∙ past.2)

  pub none_beyond : length bits ≤ last / 8 → HasPast bits last → ⊥
  none_beyond all past = false≢true (sym (is_present_past bits past.0 (omega (arith, past.1))) ∙ past.2)
