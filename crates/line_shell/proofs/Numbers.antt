-- What std reads as a number.
use Rattle.std.proofs.Common.{◌≡◌, ◌≢◌, ◌<◌, ◌≤◌, ◌^◌, ◌-◌, ℕ, zero, suc, ℤ, pos, neg_ℤ, Bool, true, false, cond, ◌&&◌, nat_lt, nat_le, get_or, length, drop, List, [], ◌∷◌, Option, Some, None, Result, Ok, Err, option_map, refl, sym, ap, ◌∙◌, inl, inr, arith, ne_eqb, eq-eqb, ltb-true, leb-true, le-leb, lt-ltb}
use Rattle.std.proofs.lemmas.Bool.{cases_eq}
use Rattle.std.proofs.lemmas.Str.{IsUtf8-from_ascii}
use Rattle.std.proofs.lemmas.Fmt.{IsAscii-from_digits}
use Rattle.std.proofs.lemmas.Str.Parse.{IsNumeralModel, numerals_by_value, tells_all_ascii_digits, not_in_digits, parse_plain, parse_signed_plain, parse_signed_minus}
use Rattle.std.specs.Str.{all_ascii_digits, IsAscii}
use Rattle.std.specs.Str.Parse.{digits_value, ParsesUnsigned, ParsesSigned}
use Rattle.std.specs.Result.{OkIff, result_ok}
use Rattle.std.specs.Int.{w64}
use Rattle.line_shell.specs.Numbers.{number, signed_number, IsNoText}

own : IsNumeralModel (λ ds. all_ascii_digits ds ≡ true) (digits_value 10)
own = numerals_by_value _ tells_all_ascii_digits

none_unless : (a b c : Bool) (n : ℕ) → (a ≡ true → b ≡ true → c ≡ true → ⊥) → None ≡ cond ((a && b) && c) (Some n) None
none_unless true true true n no-one = absurd (no-one refl refl refl)
none_unless true true false n no-one = refl
none_unless true false c n no-one = refl
none_unless false b c n no-one = refl

some_where : (a b c : Bool) (n : ℕ) → a ≡ true → b ≡ true → c ≡ true → Some n ≡ cond ((a && b) && c) (Some n) None
some_where true true true n p q r = refl
some_where true true false n p q r = absurd cc
some_where true false c n p q r = absurd cc
some_where false b c n p q r = absurd cc

-- a word that is no numeral, or writes too great a number
number_none : (greatest : ℕ) (word : List ℕ) → (all_ascii_digits word ≡ true → 0 < length word → digits_value 10 word ≤ greatest → ⊥) → None ≡ number greatest word
number_none greatest word no-one =
    none_unless (all_ascii_digits word) (nat_lt 0 (length word)) (nat_le (digits_value 10 word) greatest) (digits_value 10 word)
    (λ a b c. no-one a (ltb-true 0 (length word) b) (leb-true (digits_value 10 word) greatest c))

number_some : (greatest : ℕ) (word : List ℕ) → all_ascii_digits word ≡ true → 0 < length word → digits_value 10 word ≤ greatest → Some (digits_value 10 word) ≡ number greatest word
number_some greatest word digits some low =
    some_where (all_ascii_digits word) (nat_lt 0 (length word)) (nat_le (digits_value 10 word) greatest) (digits_value 10 word)
    digits (lt-ltb 0 (length word) some) (le-leb (digits_value 10 word) greatest low)

digits_ascii : (word : List ℕ) → all_ascii_digits word ≡ true → IsAscii word
digits_ascii word digits = IsAscii-from_digits word (own.to word digits)

-- a word that is no text is no number
pub number_no_text : (greatest : ℕ) (word : List ℕ) → IsNoText word → None ≡ number greatest word
number_no_text greatest word (inl plus) = number_none greatest word (λ digits some low. not_in_digits own word 43 digits (λ r. omega arith) 0 some plus)
number_no_text greatest word (inr other) = number_none greatest word (λ digits some low. other (IsUtf8-from_ascii word (digits_ascii word digits)))

-- what std does not read is no number
pub number_unread : {E : Type 0} (greatest : ℕ) (word : List ℕ) (read : Result ℕ E) → greatest < 2 ^ 64 → get_or word 0 0 ≢ 43 → ParsesUnsigned 64 10 word read
    → result_ok read ≡ None → None ≡ number greatest word
number_unread {E} greatest word read fits no_plus parsed is = go read (parse_plain own 64 word read parsed no_plus) is
  where
    go : (read : Result ℕ E) → OkIff read ((all_ascii_digits word ≡ true) × (0 < length word) × (digits_value 10 word < 2 ^ 64)) (digits_value 10 word) → result_ok read ≡ None
        → None ≡ number greatest word
    go (Ok n) means is = absurd cc
    go (Err e) means is = number_none greatest word (λ digits some low. means (digits, some, omega arith))

-- what it reads is, up to the greatest
pub number_read : {E : Type 0} (greatest : ℕ) (word : List ℕ) (read : Result ℕ E) (n : ℕ) → get_or word 0 0 ≢ 43 → ParsesUnsigned 64 10 word read
    → result_ok read ≡ Some n → n ≤ greatest → Some n ≡ number greatest word
number_read {E} greatest word read n no_plus parsed is low = go read (parse_plain own 64 word read parsed no_plus) is
  where
    go : (read : Result ℕ E) → OkIff read ((all_ascii_digits word ≡ true) × (0 < length word) × (digits_value 10 word < 2 ^ 64)) (digits_value 10 word) → result_ok read ≡ Some n
        → Some n ≡ number greatest word
    go (Ok m) means is =
        let same : n ≡ digits_value 10 word = cc in
        ap Some same ∙ number_some greatest word means.0.0 means.0.1 (omega arith)
    go (Err e) means is = absurd cc

-- by whether a word begins with a minus
by_sign : (word : List ℕ) (o : Option ℤ) → (get_or word 0 0 ≡ 45 → o ≡ option_map (λ n. neg_ℤ (pos n)) (number (2 ^ 63) (drop 1 word)))
    → (get_or word 0 0 ≢ 45 → o ≡ option_map (λ n. pos n) (number (2 ^ 63 - 1) word)) → o ≡ signed_number word
by_sign word o minus plain = elim (cases_eq (get_or word 0 0) 45) [
  | inl is ↦ minus is ∙ sym (ap (λ t. cond t (option_map (λ n. neg_ℤ (pos n)) (number (2 ^ 63) (drop 1 word))) (option_map (λ n. pos n) (number (2 ^ 63 - 1) word))) (eq-eqb (get_or word 0 0) 45 is))
  | inr ne ↦ plain ne ∙ sym (ap (λ t. cond t (option_map (λ n. neg_ℤ (pos n)) (number (2 ^ 63) (drop 1 word))) (option_map (λ n. pos n) (number (2 ^ 63 - 1) word))) (ne_eqb (get_or word 0 0) 45 ne))
]

minus_ascii : (word : List ℕ) → get_or word 0 0 ≡ 45 → IsAscii (drop 1 word) → (i : ℕ) → get_or word i 0 < 128
minus_ascii [] minus rest i = rest i
minus_ascii (b ∷ bs) minus rest zero = omega arith
minus_ascii (b ∷ bs) minus rest (suc i) = rest i

pub signed_no_text : (word : List ℕ) → IsNoText word → None ≡ signed_number word
signed_no_text word none = by_sign word None
    (λ minus. ap (option_map (λ n. neg_ℤ (pos n))) (number_none (2 ^ 63) (drop 1 word) (λ digits some low. elim none [
      | inl plus ↦ omega arith
      | inr other ↦ other (IsUtf8-from_ascii word (minus_ascii word minus (digits_ascii (drop 1 word) digits)))
    ])))
    (λ plain. ap (option_map (λ n. pos n)) (number_no_text (2 ^ 63 - 1) word none))

pub signed_is : {E : Type 0} (word : List ℕ) (read : Result ℤ E) → get_or word 0 0 ≢ 43 → ParsesSigned w64 10 word read → result_ok read ≡ signed_number word
signed_is {E} word read no_plus parsed = by_sign word (result_ok read)
    (λ minus. of_minus read (parse_signed_minus own w64 word read parsed minus))
    (λ plain. of_plain read (parse_signed_plain own w64 word read parsed no_plus plain))
  where
    of_minus : (read : Result ℤ E) → OkIff read ((all_ascii_digits (drop 1 word) ≡ true) × (0 < length (drop 1 word)) × (digits_value 10 (drop 1 word) ≤ 2 ^ 63)) (neg_ℤ (pos (digits_value 10 (drop 1 word))))
        → result_ok read ≡ option_map (λ n. neg_ℤ (pos n)) (number (2 ^ 63) (drop 1 word))
    of_minus (Ok z) means = ap Some means.1 ∙ ap (option_map (λ n. neg_ℤ (pos n))) (number_some (2 ^ 63) (drop 1 word) means.0.0 means.0.1 means.0.2)
    of_minus (Err e) means = ap (option_map (λ n. neg_ℤ (pos n))) (number_none (2 ^ 63) (drop 1 word) (λ digits some low. means (digits, some, low)))

    of_plain : (read : Result ℤ E) → OkIff read ((all_ascii_digits word ≡ true) × (0 < length word) × (digits_value 10 word < 2 ^ 63)) (pos (digits_value 10 word))
        → result_ok read ≡ option_map (λ n. pos n) (number (2 ^ 63 - 1) word)
    of_plain (Ok z) means = ap Some means.1 ∙ ap (option_map (λ n. pos n)) (number_some (2 ^ 63 - 1) word means.0.0 means.0.1 (omega arith))
    of_plain (Err e) means = ap (option_map (λ n. pos n)) (number_none (2 ^ 63 - 1) word (λ digits some low. means (digits, some, omega arith)))
