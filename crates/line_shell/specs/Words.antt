-- The words of a line, and how bytes are written in a word.
use Rattle.std.specs.Prelude.{ℕ, ◌+◌, ◌*◌, ◌/◌, ◌%◌, ◌==◌, ◌&&◌, false, nat_eq, nat_lt, nat_le, List, [], ◌∷◌, length, filter, flat_map, Option, Some, None, option_map, option_and_then, if◌then◌else◌}
use Rattle.std.specs.List.{slice_split}
use Rattle.std.specs.Char.{digit_value, is_digit}
use Rattle.std.specs.Fmt.{digit_glyph}

-- the byte between words
abbrev pub space : ℕ
space = 0x20

-- the byte `\`, which begins an escape
abbrev pub backslash : ℕ
backslash = 0x5c

-- the letter after the backslash of an escape for no byte
abbrev pub letter_e : ℕ
letter_e = 0x65

-- the letter after the backslash of an escape by two digits
abbrev pub letter_x : ℕ
letter_x = 0x78

-- the words of a line: what is between spaces and is not empty
abbrev pub words : List ℕ → List (List ℕ)
words line = filter (λ word. nat_lt 0 (length word)) (slice_split (nat_eq space) line)

-- the byte before the text, where there is one
abbrev pub onto : ℕ → Option (List ℕ) → Option (List ℕ)
onto byte rest = option_map (λ text. byte ∷ text) rest

-- an escape of two bytes before the rest: `\\` is a backslash, `\e` no byte
abbrev pub short_escape : ℕ → Option (List ℕ) → Option (List ℕ)
short_escape letter rest = if letter == backslash then onto backslash rest else (if letter == letter_e then rest else None)

-- the byte of two hexadecimal digits, of either case
abbrev pub byte_of_digits : ℕ → ℕ → Option ℕ
byte_of_digits high low = if is_digit high 16 && is_digit low 16 then Some (16 * digit_value high + digit_value low) else None

-- that byte before the rest
abbrev pub digit_escape : ℕ → ℕ → Option (List ℕ) → Option (List ℕ)
digit_escape high low rest = option_and_then (λ byte. onto byte rest) (byte_of_digits high low)

-- the bytes that a word represents: `\\` is a backslash, `\xHH` the byte of the two digits, `\e` no byte, and another byte itself; none where a backslash begins none of these
unfoldable pub unescaped : List ℕ → Option (List ℕ)
unescaped [] = Some []
unescaped (b ∷ []) = if b == backslash then None else Some (b ∷ [])
unescaped (b ∷ c ∷ []) = if b == backslash then short_escape c (Some []) else onto b (unescaped (c ∷ []))
unescaped (b ∷ c ∷ d ∷ []) = if b == backslash then short_escape c (unescaped (d ∷ [])) else onto b (unescaped (c ∷ d ∷ []))
unescaped (b ∷ c ∷ d ∷ e ∷ rest) =
    if b == backslash
    then (if c == letter_x then digit_escape d e (unescaped rest) else short_escape c (unescaped (d ∷ e ∷ rest)))
    else onto b (unescaped (c ∷ d ∷ e ∷ rest))

-- two readings, where both can be read
abbrev pub both : Option (List ℕ) → Option (List (List ℕ)) → Option (List (List ℕ))
both None rest = None
both (Some text) rest = option_map (λ texts. text ∷ texts) rest

-- the bytes that each word represents, where each can be read
unfoldable pub all_unescaped : List (List ℕ) → Option (List (List ℕ))
all_unescaped [] = Some []
all_unescaped (word ∷ words) = both (unescaped word) (all_unescaped words)

-- a byte as a word has it: one from 0x21 to 0x7e but the backslash as itself, the backslash as two, another one as `\xhh`
abbrev pub spelled_byte : ℕ → List ℕ
spelled_byte b =
    if b == backslash then backslash ∷ backslash ∷ [] else
    (if nat_le 0x21 b && nat_le b 0x7e then b ∷ [] else backslash ∷ letter_x ∷ digit_glyph false (b / 16) ∷ digit_glyph false (b % 16) ∷ [])

-- the word for some bytes; that for none is `\e`
abbrev pub spelled : List ℕ → List ℕ
spelled [] = backslash ∷ letter_e ∷ []
spelled (b ∷ bs) = flat_map spelled_byte (b ∷ bs)
