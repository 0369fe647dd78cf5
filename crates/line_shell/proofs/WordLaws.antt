-- The word for some bytes is one word, and stands for them.
use Rattle.std.proofs.Common.{◌≡◌, ◌≢◌, ◌<◌, ◌≤◌, ◌+◌, ◌*◌, ◌/◌, ◌%◌, ℕ, Bool, true, false, cond, ◌&&◌, eqb, nat_lt, nat_le, List, [], ◌∷◌, ◌++◌, get_or, length, flat_map, All, Contains, Option, Some, None, option_and_then, refl, sym, ap, ◌∙◌, arith, eqb-true, ne_eqb, lt-ltb, leb-true, length-append}
use Rattle.std.proofs.lemmas.Str.{digit_value-digit_char}
use Rattle.std.proofs.lemmas.Bool.{eqb-false}
use Rattle.std.proofs.lemmas.List.Elements.{All-cons, All-append, All-head, All-tail}
use Rattle.std.proofs.lemmas.List.Splits.{slice_split_none}
use Rattle.std.specs.Char.{digit_value}
use Rattle.std.specs.Fmt.{digit_glyph}
use Rattle.volume_terms.specs.Names.{AreBytes}
use Rattle.line_shell.specs.Replies.{newline}
use Rattle.line_shell.specs.Words.{space, backslash, letter_x, letter_e, words, onto, byte_of_digits, unescaped, spelled_byte, spelled}
use Rattle.line_shell.proofs.Words.{reads_plain, reads_short, reads_digits, some_words}

abbrev IsVisible : ℕ → Type 0
IsVisible b = 33 ≤ b

nothing : All IsVisible []
nothing k d lt = absurd (omega arith)

visible_glyph : (d : ℕ) → IsVisible (digit_glyph false d)
visible_glyph d = at (nat_lt d 10)
  where
    at : (t : Bool) → IsVisible (cond t (48 + d) (87 + d))
    at true = omega arith
    at false = omega arith

visible_escape : (b : ℕ) → All IsVisible (backslash ∷ letter_x ∷ digit_glyph false (b / 16) ∷ digit_glyph false (b % 16) ∷ [])
visible_escape b =
    All-cons IsVisible backslash (letter_x ∷ digit_glyph false (b / 16) ∷ digit_glyph false (b % 16) ∷ []) (omega arith)
    (All-cons IsVisible letter_x (digit_glyph false (b / 16) ∷ digit_glyph false (b % 16) ∷ []) (omega arith)
    (All-cons IsVisible (digit_glyph false (b / 16)) (digit_glyph false (b % 16) ∷ []) (visible_glyph (b / 16))
    (All-cons IsVisible (digit_glyph false (b % 16)) [] (visible_glyph (b % 16)) nothing)))

visible_byte : (b : ℕ) → All IsVisible (spelled_byte b)
visible_byte b = at (eqb b backslash) (nat_le 33 b) (nat_le b 126) (leb-true 33 b)
  where
    at : (t u v : Bool) → (u ≡ true → 33 ≤ b)
        → All IsVisible (cond t (backslash ∷ backslash ∷ []) (cond (u && v) (b ∷ []) (backslash ∷ letter_x ∷ digit_glyph false (b / 16) ∷ digit_glyph false (b % 16) ∷ [])))
    at true u v low = All-cons IsVisible backslash (backslash ∷ []) (omega arith) (All-cons IsVisible backslash [] (omega arith) nothing)
    at false true true low = All-cons IsVisible b [] (low refl) nothing
    at false true false low = visible_escape b
    at false false v low = visible_escape b

visible_bytes : (bytes : List ℕ) → All IsVisible (flat_map spelled_byte bytes)
visible_bytes [] = nothing
visible_bytes (b ∷ bs) = All-append IsVisible (spelled_byte b) (flat_map spelled_byte bs) (visible_byte b) (visible_bytes bs)

visible : (text : List ℕ) → All IsVisible (spelled text)
visible [] = All-cons IsVisible backslash (letter_e ∷ []) (omega arith) (All-cons IsVisible letter_e [] (omega arith) nothing)
visible (b ∷ bs) = visible_bytes (b ∷ bs)

some_byte : (b : ℕ) → 0 < length (spelled_byte b)
some_byte b = at (eqb b backslash) (nat_le 33 b && nat_le b 126)
  where
    at : (t u : Bool) → 0 < length (cond t (backslash ∷ backslash ∷ []) (cond u (b ∷ []) (backslash ∷ letter_x ∷ digit_glyph false (b / 16) ∷ digit_glyph false (b % 16) ∷ [])))
    at true u = omega arith
    at false true = omega arith
    at false false = omega arith

some : (text : List ℕ) → 0 < length (spelled text)
some [] = omega arith
some (b ∷ bs) = omega (arith, some_byte b, length-append (spelled_byte b) (flat_map spelled_byte bs))

-- it is one word
pub one_word : (text : List ℕ) → words (spelled text) ≡ spelled text ∷ []
one_word text =
    ap some_words (slice_split_none (eqb space) (spelled text) (λ k d lt. let low = visible text k d lt in ne_eqb space (get_or (spelled text) k d) (λ e. omega arith)))
    ∙ ap (λ t. cond t (spelled text ∷ []) []) (lt-ltb 0 (length (spelled text)) (some text))

-- it has no newline
pub no_newline : (text : List ℕ) → ¬ Contains (spelled text) newline
no_newline text (k, lt, is) = let low = visible text k newline lt in omega arith

-- a digit is read as it was written
reads_glyph : (d : ℕ) → d < 16 → digit_value (digit_glyph false d) ≡ d
reads_glyph d lt = digit_value-digit_char d (omega arith)

reads_glyphs : (high low : ℕ) → high < 16 → low < 16 → byte_of_digits (digit_glyph false high) (digit_glyph false low) ≡ Some (16 * high + low)
reads_glyphs high low first second =
    let test : ℕ → ℕ → Option ℕ = λ h l. cond (nat_lt h 16 && nat_lt l 16) (Some (16 * h + l)) None in
    ap (λ h. test h (digit_value (digit_glyph false low))) (reads_glyph high first) ∙ ap (test high) (reads_glyph low second)
    ∙ ap (λ t. cond (t && nat_lt low 16) (Some (16 * high + low)) None) (lt-ltb high 16 first) ∙ ap (λ t. cond t (Some (16 * high + low)) None) (lt-ltb low 16 second)

-- so is a byte
reads_byte : (b : ℕ) (rest : List ℕ) → b < 256 → unescaped (spelled_byte b ++ rest) ≡ onto b (unescaped rest)
reads_byte b rest small = at (eqb b backslash) (nat_le 33 b && nat_le b 126) (eqb-true b backslash) (eqb-false b backslash)
  where
    escape : unescaped (backslash ∷ letter_x ∷ digit_glyph false (b / 16) ∷ digit_glyph false (b % 16) ∷ rest) ≡ onto b (unescaped rest)
    escape =
        let same : 16 * (b / 16) + b % 16 ≡ b = omega arith in
        reads_digits (digit_glyph false (b / 16)) (digit_glyph false (b % 16)) rest
        ∙ ap (λ o. option_and_then (λ byte. onto byte (unescaped rest)) o) (reads_glyphs (b / 16) (b % 16) (omega arith) (omega arith)) ∙ ap (λ n. onto n (unescaped rest)) same

    at : (t u : Bool) → (t ≡ true → b ≡ backslash) → (t ≡ false → b ≢ backslash)
        → unescaped (cond t (backslash ∷ backslash ∷ []) (cond u (b ∷ []) (backslash ∷ letter_x ∷ digit_glyph false (b / 16) ∷ digit_glyph false (b % 16) ∷ [])) ++ rest) ≡ onto b (unescaped rest)
    at true u is other = reads_short backslash rest (λ e. absurd (omega arith)) ∙ ap (λ n. onto n (unescaped rest)) (sym (is refl))
    at false true is other = reads_plain b rest (other refl)
    at false false is other = escape

-- and what is written stands for its bytes
reads_bytes : (bytes : List ℕ) → AreBytes bytes → unescaped (flat_map spelled_byte bytes) ≡ Some bytes
unfolding unescaped
reads_bytes [] are = refl
reads_bytes (b ∷ bs) are =
    reads_byte b (flat_map spelled_byte bs) (All-head (λ x. x < 256) b bs are) ∙ ap (onto b) (reads_bytes bs (All-tail (λ x. x < 256) b bs are))

pub reads_back : (text : List ℕ) → AreBytes text → unescaped (spelled text) ≡ Some text
unfolding unescaped
reads_back [] are = refl
reads_back (b ∷ bs) are = reads_bytes (b ∷ bs) are
