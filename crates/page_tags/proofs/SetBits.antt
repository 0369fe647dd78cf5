-- What a write of one byte makes of the presence bits.
use Rattle.std.proofs.Common.{◌≡◌, ◌≢◌, ◌<◌, ◌≤◌, ℕ, ◌-◌, ◌/◌, ◌%◌, List, length, set, get_or, sym, ◌∙◌, ap, inl, inr, eqb, arith}
use Rattle.std.specs.Int.{bit_at}
use Rattle.std.proofs.lemmas.Bool.{cases_eq}
use Rattle.std.proofs.lemmas.List.{get_or-set_same, get_or-set_other}
use Rattle.std.proofs.lemmas.Nat.{div-add-mod'}
use Rattle.page_tags.specs.Headers.{is_present}

-- two chunks with one byte and one bit are one
same_chunk : (c k : ℕ) → 1 ≤ c → 1 ≤ k → (c - 1) / 8 ≡ (k - 1) / 8 → (c - 1) % 8 ≡ (k - 1) % 8 → c ≡ k
same_chunk c k some_c some_k byte bit = omega (arith, div-add-mod' (c - 1) 8, div-add-mod' (k - 1) 8)

-- the bit that is written
pub is_present-set_same : (bits : List ℕ) (k v : ℕ) → (k - 1) / 8 < length bits → is_present (set bits ((k - 1) / 8) v) k ≡ eqb (bit_at v ((k - 1) % 8)) 1
unfolding is_present
is_present-set_same bits k v within = ap (λ n. eqb (bit_at n ((k - 1) % 8)) 1) (get_or-set_same bits ((k - 1) / 8) v 0 within)

-- and the others, where the byte keeps its other bits
pub is_present-set_other :
    (bits : List ℕ) (k v : ℕ) → 1 ≤ k → (k - 1) / 8 < length bits
    → ((i : ℕ) → i < 8 → i ≢ (k - 1) % 8 → bit_at v i ≡ bit_at (get_or bits ((k - 1) / 8) 0) i)
    → (c : ℕ) → 1 ≤ c → c ≢ k → is_present (set bits ((k - 1) / 8) v) c ≡ is_present bits c
unfolding is_present
is_present-set_other bits k v some within keeps c some_c other =
    elim (cases_eq ((c - 1) / 8) ((k - 1) / 8)) [
      | inl byte ↦
          let bit : (c - 1) % 8 ≢ (k - 1) % 8 = λ e. other (same_chunk c k some_c some byte e) in
          ap (λ j. eqb (bit_at (get_or (set bits ((k - 1) / 8) v) j 0) ((c - 1) % 8)) 1) byte
          ∙ ap (λ n. eqb (bit_at n ((c - 1) % 8)) 1) (get_or-set_same bits ((k - 1) / 8) v 0 within)
          ∙ ap (λ n. eqb n 1) (keeps ((c - 1) % 8) (omega arith) bit)
          ∙ ap (λ j. eqb (bit_at (get_or bits j 0) ((c - 1) % 8)) 1) (sym byte)
      | inr ne ↦ ap (λ n. eqb (bit_at n ((c - 1) % 8)) 1) (get_or-set_other bits ((k - 1) / 8) ((c - 1) / 8) v 0 ne)
    ]
