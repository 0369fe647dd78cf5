-- Bytes, the numbers that are in them, and lists of them.
use Rattle.std.proofs.Common.{◌≡◌, ◌<◌, ◌≤◌, ℕ, zero, suc, ◌+◌, ◌*◌, ◌/◌, ◌%◌, ◌^◌, List, [], ◌∷◌, length, take, drop, get_or, replicate, refl, sym, ap, ap₂, ◌∙◌, inl, inr, ◌⊎◌, subst, length-drop, take-add, ◌++◌, EachIndex, ext_get_or, arith}
use Rattle.std.specs.Int.{byte_at, bytes_low_first}
use Rattle.std.proofs.Math.Nat.{div-div-eq-div-mul, pow-succ'}
use Rattle.std.proofs.lemmas.Bool.{cases_lt}
use Rattle.std.proofs.lemmas.List.{get_or-drop, get_or-replicate, length-replicate}
use Rattle.byteorder.specs.Endian.{little_bytes, little_number}
use Rattle.byteorder.specs.Numbers.{little_from-cons}
use Rattle.page_tags.specs.Headers.{IsBytes}

-- a byte of a number is the one before it of the number without its lowest byte
byte_at-suc : (j x : ℕ) → byte_at (suc j) x ≡ byte_at j (x / 256)
byte_at-suc zero x = refl
byte_at-suc (suc j) x = ap (λ y. y % 256) (ap (λ p. x / p) (pow-succ' 256 (suc j)) ∙ sym (div-div-eq-div-mul x 256 (256 ^ suc j)))

-- and so for bytes in a row
bytes_low_first-suc : (j n x : ℕ) → bytes_low_first (suc j) n x ≡ bytes_low_first j n (x / 256)
bytes_low_first-suc j zero x = refl
bytes_low_first-suc j (suc n) x = ap₂ ◌∷◌ (byte_at-suc j x) (bytes_low_first-suc (suc j) n x)

-- the bytes of a number that was read are those that it was read from
pub little_bytes-little_number : (n : ℕ) (bytes : List ℕ) → n ≤ length bytes → IsBytes bytes → little_bytes n (little_number n bytes) ≡ take n bytes
little_bytes-little_number zero bytes fits each = refl
little_bytes-little_number (suc n) [] fits each = absurd (omega arith)
little_bytes-little_number (suc n) (b ∷ bytes) fits each =
    let small : b < 256 = each 0 in
    let rest = little_bytes-little_number n bytes (omega arith) (λ i. each (suc i)) in
    let above : little_number (suc n) (b ∷ bytes) ≡ b + 256 * little_number n bytes = ap (λ m. b + 256 * m) (little_from-cons 0 n b bytes) in
    let low : little_number (suc n) (b ∷ bytes) % 256 ≡ b = omega arith in
    let high : little_number (suc n) (b ∷ bytes) / 256 ≡ little_number n bytes = omega arith in
    ap₂ ◌∷◌ low (bytes_low_first-suc 0 n (little_number (suc n) (b ∷ bytes)) ∙ ap (little_bytes n) high ∙ rest)

-- a part of bytes is bytes
pub IsBytes-drop : (n : ℕ) (bytes : List ℕ) → IsBytes bytes → IsBytes (drop n bytes)
IsBytes-drop n bytes each i = subst (λ b. b < 256) (sym (get_or-drop n bytes i 0)) (each (n + i))

pub IsBytes-take : (n : ℕ) (bytes : List ℕ) → IsBytes bytes → IsBytes (take n bytes)
IsBytes-take zero bytes each i = omega arith
IsBytes-take (suc n) [] each i = omega arith
IsBytes-take (suc n) (b ∷ bytes) each zero = each 0
IsBytes-take (suc n) (b ∷ bytes) each (suc i) = IsBytes-take n bytes (λ k. each (suc k)) i

-- the n bytes from place i, as those of the number that is there
pub little_bytes_at : (n i : ℕ) (bytes : List ℕ) → i + n ≤ length bytes → IsBytes bytes → little_bytes n (little_number n (drop i bytes)) ≡ take n (drop i bytes)
little_bytes_at n i bytes fits each = little_bytes-little_number n (drop i bytes) (omega (arith, length-drop i bytes)) (IsBytes-drop i bytes each)

-- two parts of bytes, one behind the other, are a part
pub joined : (n m : ℕ) (bytes : List ℕ) {front back : List ℕ} → front ≡ take n bytes → back ≡ take m (drop n bytes) → front ++ back ≡ take (n + m) bytes
joined n m bytes front_is back_is = ap₂ ◌++◌ front_is back_is ∙ sym (take-add n m bytes)

-- a byte before bytes
IsBytes-cons : (b : ℕ) (bytes : List ℕ) → b < 256 → IsBytes bytes → IsBytes (b ∷ bytes)
IsBytes-cons b bytes small each zero = small
IsBytes-cons b bytes small each (suc i) = each i

-- each item is a byte, or not
pub bytes_or_not : (bytes : List ℕ) → IsBytes bytes ⊎ (IsBytes bytes → ⊥)
bytes_or_not [] = inl (λ i. omega arith)
bytes_or_not (b ∷ bytes) =
    elim (cases_lt b 256) [
      | inl small ↦ elim (bytes_or_not bytes) [
        | inl each ↦ inl (IsBytes-cons b bytes small each)
        | inr not_each ↦ inr (λ each. not_each (λ i. each (suc i)))
      ]
      | inr large ↦ inr (λ each. let small : b < 256 = each 0 in omega arith)
    ]

-- bytes that are zero each are zeros
pub zeros_from_each : (bytes : List ℕ) (n : ℕ) → length bytes ≡ n → EachIndex bytes (λ i. get_or bytes i 0 ≡ 0) → bytes ≡ replicate n 0
zeros_from_each bytes n len each =
    ext_get_or 0 bytes (replicate n 0) (omega (arith, length-replicate {A = ℕ} n 0))
    (λ i within. each i within ∙ sym (get_or-replicate n i 0 0 (omega arith)))

pub each_from_zeros : (bytes : List ℕ) (n : ℕ) → bytes ≡ replicate n 0 → EachIndex bytes (λ i. get_or bytes i 0 ≡ 0)
each_from_zeros bytes n zeros i within =
    let len : length bytes ≡ n = ap length zeros ∙ length-replicate {A = ℕ} n 0 in
    ap (λ bs. get_or bs i 0) zeros ∙ get_or-replicate n i 0 0 (omega arith)
