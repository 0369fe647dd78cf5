-- Host names spell their names.
use Rattle.std.proofs.Common.{◌≡◌, ◌≢◌, ◌<◌, ◌≤◌, ◌+◌, ◌*◌, ◌/◌, ◌%◌, ℕ, zero, suc, Bool, true, false, cond, not, ◌&&◌, ◌||◌, eqb, nat_eq, nat_lt, nat_le, List, [], ◌∷◌, ◌++◌, get_or, length, take, All, refl, sym, ap, ◌∙◌, arith, eqb-true, ne_eqb, leb-true, add-one, append_assoc}
use Rattle.std.proofs.lemmas.Str.{digit_value-digit_char}
use Rattle.std.proofs.lemmas.Bool.{eqb-false}
use Rattle.std.proofs.lemmas.List.{append-nil}
use Rattle.std.proofs.lemmas.List.Elements.{All-cons}
use Rattle.std.proofs.Math.Seq.{take-suc, take-length}
use Rattle.std.specs.Cmp.Lexicographic.{pointwise, bytes_decides}
use Rattle.std.specs.Char.{digit_value}
use Rattle.std.specs.Fmt.{digit_glyph}
use Rattle.std.specs.Str.{IsAscii}
use Rattle.image_tools.specs.HostNames.{backslash, unescaped, IsSafe, IsHostName, escape, is_graphic, is_plain, spelled_byte}
use Rattle.image_tools.specs.declared.names.Spelling.{Spelling}
use Rattle.image_tools.specs.declared.names.Spelling.TheVariants as spellings

pub none : (P : ℕ → Type 0) → All P []
none P k d lt = absurd (omega arith)

-- a byte that is no backslash spells itself
reads_plain : (b : ℕ) (rest : List ℕ) → b ≢ backslash → unescaped (b ∷ rest) ≡ b ∷ unescaped rest
unfolding unescaped
reads_plain b [] ne = refl
reads_plain b (x ∷ []) ne = ap (λ t. cond t [] (b ∷ unescaped (x ∷ []))) (ne_eqb b backslash ne)
reads_plain b (x ∷ y ∷ []) ne = refl
reads_plain b (x ∷ y ∷ z ∷ rest) ne = ap (λ t. cond t ((16 * digit_value y + digit_value z) ∷ unescaped rest) (b ∷ unescaped (x ∷ y ∷ z ∷ rest))) (ne_eqb b backslash ne)

reads_digits : (high low : ℕ) (rest : List ℕ) → unescaped (backslash ∷ 0x78 ∷ high ∷ low ∷ rest) ≡ (16 * digit_value high + digit_value low) ∷ unescaped rest
unfolding unescaped
reads_digits high low rest = refl

reads_glyph : (d : ℕ) → d < 16 → digit_value (digit_glyph false d) ≡ d
reads_glyph d lt = digit_value-digit_char d (omega arith)

reads_escape : (b : ℕ) (rest : List ℕ) → b < 256 → unescaped (escape b ++ rest) ≡ b ∷ unescaped rest
reads_escape b rest small =
    let high : b / 16 < 16 = omega arith in
    let low : b % 16 < 16 = omega arith in
    let same : 16 * (b / 16) + b % 16 ≡ b = omega arith in
    reads_digits (digit_glyph false (b / 16)) (digit_glyph false (b % 16)) rest
    ∙ ap (λ n. (16 * n + digit_value (digit_glyph false (b % 16))) ∷ unescaped rest) (reads_glyph (b / 16) high)
    ∙ ap (λ n. (16 * (b / 16) + n) ∷ unescaped rest) (reads_glyph (b % 16) low)
    ∙ ap (λ n. n ∷ unescaped rest) same

-- what a byte is that stays as it is
record Stays (b : ℕ) : Type 0 where
  low : 32 ≤ b
  no_slash : b ≢ 47
  no_backslash : b ≢ backslash

graphic_stays : (b : ℕ) → is_graphic b ≡ true → Stays b × (b < 128)
graphic_stays b = at (nat_le 32 b) (nat_le b 126) (eqb b 47) (eqb b backslash) (leb-true 32 b) (leb-true b 126) (eqb-false b 47) (eqb-false b backslash)
  where
    at : (t u v w : Bool) → (t ≡ true → 32 ≤ b) → (u ≡ true → b ≤ 126) → (v ≡ false → b ≢ 47) → (w ≡ false → b ≢ backslash) → (t && (u && (not v && not w))) ≡ true → Stays b × (b < 128)
    at true true false false low high slash back is = let most : b ≤ 126 = high refl in (record { low = low refl; no_slash = slash refl; no_backslash = back refl }, omega arith)
    at true true false true low high slash back is = absurd cc
    at true true true w low high slash back is = absurd cc
    at true false v w low high slash back is = absurd cc
    at false u v w low high slash back is = absurd cc

plain_stays : (spelling : Spelling) (b : ℕ) → is_plain spelling b ≡ true → Stays b
plain_stays spellings.Ascii b is = (graphic_stays b is).0
plain_stays spellings.Text b is = at (is_graphic b) (nat_le 128 b) (λ e. (graphic_stays b e).0) (leb-true 128 b) is
  where
    at : (t u : Bool) → (t ≡ true → Stays b) → (u ≡ true → 128 ≤ b) → (t || u) ≡ true → Stays b
    at true u stays high is = stays refl
    at false true stays high is = let least : 128 ≤ b = high refl in record { low = omega arith; no_slash = λ e. omega arith; no_backslash = λ e. omega arith }
    at false false stays high is = absurd cc

-- a byte is read as it was written
pub reads_byte : (spelling : Spelling) (b : ℕ) (rest : List ℕ) → b < 256 → unescaped (spelled_byte spelling b ++ rest) ≡ b ∷ unescaped rest
reads_byte spelling b rest small = at (is_plain spelling b) (plain_stays spelling b)
  where
    at : (t : Bool) → (t ≡ true → Stays b) → unescaped (cond t (b ∷ []) (escape b) ++ rest) ≡ b ∷ unescaped rest
    at true stays = reads_plain b rest (stays refl).no_backslash
    at false stays = reads_escape b rest small

glyph_low : (d : ℕ) → 48 ≤ digit_glyph false d
glyph_low d = at (nat_lt d 10)
  where
    at : (t : Bool) → 48 ≤ cond t (48 + d) (87 + d)
    at true = omega arith
    at false = omega arith

glyph_high : (d : ℕ) → d < 16 → digit_glyph false d < 128
glyph_high d lt = at (nat_lt d 10)
  where
    at : (t : Bool) → cond t (48 + d) (87 + d) < 128
    at true = omega arith
    at false = omega arith

safe_glyph : (d : ℕ) → IsSafe (digit_glyph false d)
safe_glyph d = let low = glyph_low d in (omega arith, λ e. omega arith)

safe_escape : (b : ℕ) → All IsSafe (escape b)
safe_escape b =
    All-cons IsSafe backslash (0x78 ∷ digit_glyph false (b / 16) ∷ digit_glyph false (b % 16) ∷ []) (omega arith, λ e. omega arith)
    (All-cons IsSafe 0x78 (digit_glyph false (b / 16) ∷ digit_glyph false (b % 16) ∷ []) (omega arith, λ e. omega arith)
    (All-cons IsSafe (digit_glyph false (b / 16)) (digit_glyph false (b % 16) ∷ []) (safe_glyph (b / 16))
    (All-cons IsSafe (digit_glyph false (b % 16)) [] (safe_glyph (b % 16)) (none IsSafe))))

-- its bytes are safe
pub safe_byte : (spelling : Spelling) (b : ℕ) → All IsSafe (spelled_byte spelling b)
safe_byte spelling b = at (is_plain spelling b) (plain_stays spelling b)
  where
    at : (t : Bool) → (t ≡ true → Stays b) → All IsSafe (cond t (b ∷ []) (escape b))
    at true stays = All-cons IsSafe b [] ((stays refl).low, (stays refl).no_slash) (none IsSafe)
    at false stays = safe_escape b

abbrev pub IsLow : ℕ → Type 0
IsLow b = b < 128

low_escape : (b : ℕ) → b < 256 → All IsLow (escape b)
low_escape b small =
    All-cons IsLow backslash (0x78 ∷ digit_glyph false (b / 16) ∷ digit_glyph false (b % 16) ∷ []) (omega arith)
    (All-cons IsLow 0x78 (digit_glyph false (b / 16) ∷ digit_glyph false (b % 16) ∷ []) (omega arith)
    (All-cons IsLow (digit_glyph false (b / 16)) (digit_glyph false (b % 16) ∷ []) (glyph_high (b / 16) (omega arith))
    (All-cons IsLow (digit_glyph false (b % 16)) [] (glyph_high (b % 16) (omega arith)) (none IsLow))))

-- and of ASCII, where it is so spelled
pub low_byte : (b : ℕ) → b < 256 → All IsLow (spelled_byte spellings.Ascii b)
low_byte b small = at (is_graphic b) (graphic_stays b)
  where
    at : (t : Bool) → (t ≡ true → Stays b × (b < 128)) → All IsLow (cond t (b ∷ []) (escape b))
    at true stays = All-cons IsLow b [] (stays refl).1 (none IsLow)
    at false stays = low_escape b small

pub ascii_from_low : (bytes : List ℕ) → All IsLow bytes → IsAscii bytes
ascii_from_low [] low i = omega arith
ascii_from_low (b ∷ bytes) low zero = low 0 0 (omega arith)
ascii_from_low (b ∷ bytes) low (suc i) = ascii_from_low bytes (λ k d lt. low (suc k) d (omega arith)) i

-- what is read so far, and one more byte
pub more_read : (spelling : Spelling) (host name after : List ℕ) (i b : ℕ) → i < length name → b ≡ get_or name i 0 → b < 256 → after ≡ host ++ spelled_byte spelling b
    → ((rest : List ℕ) → unescaped (host ++ rest) ≡ take i name ++ unescaped rest) → (rest : List ℕ) → unescaped (after ++ rest) ≡ take (i + 1) name ++ unescaped rest
more_read spelling host name after i b less is small grown so_far rest =
    let longer : take (i + 1) name ≡ take i name ++ b ∷ [] = ap (λ n. take n name) (add-one i) ∙ take-suc name i 0 less ∙ ap (λ x. take i name ++ x ∷ []) (sym is) in
    ap (λ h. unescaped (h ++ rest)) grown ∙ ap unescaped (append_assoc host (spelled_byte spelling b) rest) ∙ so_far (spelled_byte spelling b ++ rest)
    ∙ ap (λ k. take i name ++ k) (reads_byte spelling b rest small) ∙ sym (append_assoc (take i name) (b ∷ []) (unescaped rest)) ∙ ap (λ k. k ++ unescaped rest) (sym longer)

pub all_read : (host name : List ℕ) (i : ℕ) → length name ≡ i → ((rest : List ℕ) → unescaped (host ++ rest) ≡ take i name ++ unescaped rest) → unescaped host ≡ name
unfolding unescaped
all_read host name i is so_far =
    ap unescaped (sym (append-nil host)) ∙ so_far [] ∙ append-nil (take i name) ∙ ap (λ n. take n name) (sym is) ∙ take-length name

-- a safe spelling of a name that is not special is a host's name
pub is_host : (host name : List ℕ) → All IsSafe host → unescaped host ≡ name → name ≢ [] → name ≢ 46 ∷ [] → name ≢ 46 ∷ 46 ∷ [] → IsHostName host
unfolding unescaped
is_host host name safe reads some dot dots = record {
  some = λ e. some (sym reads ∙ ap unescaped e);
  safe = safe;
  not_dot = λ e. dot (sym reads ∙ ap unescaped e);
  not_dot_dot = λ e. dots (sym reads ∙ ap unescaped e);
}

pub empty_text : (r : Bool) (xs : List ℕ) → r ≡ eqb (length xs) 0 → r ≡ true → xs ≡ []
empty_text r [] is yes' = refl
empty_text r (x ∷ xs) is yes' = let none : length (x ∷ xs) ≡ 0 = eqb-true (length (x ∷ xs)) 0 (sym is ∙ yes') in absurd (omega arith)

pub some_text : (r : Bool) (xs : List ℕ) → r ≡ eqb (length xs) 0 → r ≡ false → xs ≢ []
some_text r xs is no' e = let bad : false ≡ true = sym no' ∙ is ∙ ap (λ (k : List ℕ). eqb (length k) 0) e in cc

pub same_text : (r : Bool) (xs ys : List ℕ) → r ≡ pointwise nat_eq xs ys → r ≡ true → xs ≡ ys
same_text r xs ys is yes' = (bytes_decides xs ys).0 (sym is ∙ yes')

pub other_text : (r : Bool) (xs ys : List ℕ) → r ≡ pointwise nat_eq xs ys → r ≡ false → xs ≢ ys
other_text r xs ys is no' e = let bad : false ≡ true = sym no' ∙ is ∙ (bytes_decides xs ys).1 e in cc

-- the escapes of special names
pub reads_special : (unescaped (92 ∷ 101 ∷ []) ≡ []) × (unescaped (92 ∷ 120 ∷ 50 ∷ 101 ∷ []) ≡ 46 ∷ []) × (unescaped (92 ∷ 120 ∷ 50 ∷ 101 ∷ 92 ∷ 120 ∷ 50 ∷ 101 ∷ []) ≡ 46 ∷ 46 ∷ [])
unfolding unescaped
reads_special = (refl, refl, refl)
