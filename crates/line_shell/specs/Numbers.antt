-- The numbers of a line.
use Rattle.std.specs.Prelude.{◌≡◌, ◌⊎◌, IsUtf8, slice_index, ℕ, ◌-◌, ◌^◌, ℤ, pos, neg_ℤ, Bool, ◌&&◌, nat_lt, nat_le, List, length, drop, Option, Some, None, option_map, if◌then◌else◌}
use Rattle.std.specs.Str.{all_ascii_digits}
use Rattle.std.specs.Str.Parse.{digits_value, starts_with_minus}

-- whether a word is one or more decimal digits, and nothing else
abbrev pub is_numeral : List ℕ → Bool
is_numeral word = all_ascii_digits word && nat_lt 0 (length word)

-- the number that a word of decimal digits writes, where it is at most the greatest
abbrev pub number : ℕ → List ℕ → Option ℕ
number greatest word = if is_numeral word && nat_le (digits_value 10 word) greatest then Some (digits_value 10 word) else None

-- a descriptor or a count of bytes to read, of 32 bits
abbrev pub number_32 : List ℕ → Option ℕ
number_32 word = number (2 ^ 32 - 1) word

-- an offset or a length, of 64 bits with the sign: digits, and a `-` may stand before them
abbrev pub signed_number : List ℕ → Option ℤ
signed_number word =
    if starts_with_minus word
    then option_map (λ n. neg_ℤ (pos n)) (number (2 ^ 63) (drop 1 word))
    else option_map (λ n. pos n) (number (2 ^ 63 - 1) word)

-- a word that begins with a plus or is not UTF-8, and so is no number
abbrev pub IsNoText : List ℕ → Type 0
IsNoText word = (slice_index word 0 ≡ 43) ⊎ ¬ IsUtf8 word
