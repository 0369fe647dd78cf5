-- The first piece of a word, by its first bytes.
use Rattle.std.proofs.Common.{◌≡◌, ◌≢◌, ◌<◌, ◌≤◌, ◌+◌, ℕ, cond, List, [], ◌∷◌, ◌++◌, get_or, length, drop, filter, nat_lt, Option, Some, None, option_and_then, option_map, refl, sym, ap, ◌∙◌, arith, ne_eqb, eqb, append_assoc, append-nil, drop_of_length-le, drop-cons, add-one, lt-ltb, flat_map, Bor}
use Rattle.std.proofs.Common.{map as list_map}
use Rattle.std.proofs.lemmas.Bool.{le-ltb}
use Rattle.std.specs.List.{slice_split}
use Rattle.line_shell.specs.Words.{backslash, letter_e, letter_x, onto, short_escape, digit_escape, byte_of_digits, unescaped, both, all_unescaped, spelled, spelled_byte, space, words}
use Rattle.line_shell.specs.Pieces.{IsPiece}

-- a byte that is no backslash stands for itself
pub reads_plain : (b : ℕ) (bs : List ℕ) → b ≢ backslash → unescaped (b ∷ bs) ≡ onto b (unescaped bs)
unfolding unescaped
reads_plain b [] ne = ap (λ t. cond t None (Some (b ∷ []))) (ne_eqb b backslash ne)
reads_plain b (c ∷ []) ne = ap (λ t. cond t (short_escape c (Some [])) (onto b (unescaped (c ∷ [])))) (ne_eqb b backslash ne)
reads_plain b (c ∷ d ∷ []) ne = ap (λ t. cond t (short_escape c (unescaped (d ∷ []))) (onto b (unescaped (c ∷ d ∷ [])))) (ne_eqb b backslash ne)
reads_plain b (c ∷ d ∷ e ∷ bs) ne =
    ap (λ t. cond t (cond (eqb c letter_x) (digit_escape d e (unescaped bs)) (short_escape c (unescaped (d ∷ e ∷ bs)))) (onto b (unescaped (c ∷ d ∷ e ∷ bs)))) (ne_eqb b backslash ne)

-- a backslash with another letter than `x` after it is a short escape
pub reads_short : (c : ℕ) (bs : List ℕ) → c ≢ letter_x → unescaped (backslash ∷ c ∷ bs) ≡ short_escape c (unescaped bs)
unfolding unescaped
reads_short c [] ne = refl
reads_short c (d ∷ []) ne = refl
reads_short c (d ∷ e ∷ bs) ne = ap (λ t. cond t (digit_escape d e (unescaped bs)) (short_escape c (unescaped (d ∷ e ∷ bs)))) (ne_eqb c letter_x ne)

-- a backslash, `x` and two bytes
pub reads_digits : (d e : ℕ) (bs : List ℕ) → unescaped (backslash ∷ letter_x ∷ d ∷ e ∷ bs) ≡ digit_escape d e (unescaped bs)
unfolding unescaped
reads_digits d e bs = refl

pub piece_plain : (word : List ℕ) → 0 < length word → get_or word 0 0 ≢ backslash → IsPiece word (Some (get_or word 0 0)) 1
piece_plain [] some ne = absurd (omega arith)
piece_plain (b ∷ bs) some ne = record { some = omega arith; within = omega arith; reads = reads_plain b bs ne }

pub none_alone : (word : List ℕ) → 0 < length word → length word < 2 → get_or word 0 0 ≡ backslash → unescaped word ≡ None
unfolding unescaped
none_alone [] some within_limit is = absurd (omega arith)
none_alone (b ∷ []) some within_limit is = ap (λ x. unescaped (x ∷ [])) is
none_alone (b ∷ c ∷ bs) some within_limit is = absurd (omega arith)

-- the word begins with a backslash and this letter
escape_begins : (word : List ℕ) (letter : ℕ) → 2 ≤ length word → get_or word 0 0 ≡ backslash → get_or word 1 0 ≡ letter → word ≡ backslash ∷ letter ∷ drop 2 word
escape_begins [] letter some first second = absurd (omega arith)
escape_begins (b ∷ []) letter some first second = absurd (omega arith)
escape_begins (b ∷ c ∷ bs) letter some first second = ap (λ x. x ∷ c ∷ bs) first ∙ ap (λ x. backslash ∷ x ∷ bs) second

pub piece_backslash : (word : List ℕ) → 2 ≤ length word → get_or word 0 0 ≡ backslash → get_or word 1 0 ≡ backslash → IsPiece word (Some backslash) 2
piece_backslash word some first second = record {
  some = omega arith;
  within = some;
  reads = ap unescaped (escape_begins word backslash some first second) ∙ reads_short backslash (drop 2 word) (λ e. absurd (omega arith));
}

pub piece_nothing : (word : List ℕ) → 2 ≤ length word → get_or word 0 0 ≡ backslash → get_or word 1 0 ≡ letter_e → IsPiece word None 2
piece_nothing word some first second = record {
  some = omega arith;
  within = some;
  reads = ap unescaped (escape_begins word letter_e some first second) ∙ reads_short letter_e (drop 2 word) (λ e. absurd (omega arith));
}

-- with two bytes after the letter
digits_begin : (word : List ℕ) → 4 ≤ length word → get_or word 0 0 ≡ backslash → get_or word 1 0 ≡ letter_x → word ≡ backslash ∷ letter_x ∷ get_or word 2 0 ∷ get_or word 3 0 ∷ drop 4 word
digits_begin [] some first second = absurd (omega arith)
digits_begin (b ∷ []) some first second = absurd (omega arith)
digits_begin (b ∷ c ∷ []) some first second = absurd (omega arith)
digits_begin (b ∷ c ∷ d ∷ []) some first second = absurd (omega arith)
digits_begin (b ∷ c ∷ d ∷ e ∷ bs) some first second = ap (λ x. x ∷ c ∷ d ∷ e ∷ bs) first ∙ ap (λ x. backslash ∷ x ∷ d ∷ e ∷ bs) second

pub piece_byte : (word : List ℕ) (byte : ℕ) → 4 ≤ length word → get_or word 0 0 ≡ backslash → get_or word 1 0 ≡ letter_x
    → Some byte ≡ byte_of_digits (get_or word 2 0) (get_or word 3 0) → IsPiece word (Some byte) 4
piece_byte word byte some first second digits = record {
  some = omega arith;
  within = some;
  reads = ap unescaped (digits_begin word some first second) ∙ reads_digits (get_or word 2 0) (get_or word 3 0) (drop 4 word)
      ∙ ap (λ o. option_and_then (λ b. onto b (unescaped (drop 4 word))) o) (sym digits);
}

pub none_digits : (word : List ℕ) → 4 ≤ length word → get_or word 0 0 ≡ backslash → get_or word 1 0 ≡ letter_x
    → None ≡ byte_of_digits (get_or word 2 0) (get_or word 3 0) → unescaped word ≡ None
none_digits word some first second digits =
    ap unescaped (digits_begin word some first second) ∙ reads_digits (get_or word 2 0) (get_or word 3 0) (drop 4 word)
    ∙ ap (λ o. option_and_then (λ b. onto b (unescaped (drop 4 word))) o) (sym digits)

pub none_short : (word : List ℕ) → 2 ≤ length word → length word < 4 → get_or word 0 0 ≡ backslash → get_or word 1 0 ≡ letter_x → unescaped word ≡ None
unfolding unescaped
none_short [] some within_limit first second = absurd (omega arith)
none_short (b ∷ []) some within_limit first second = absurd (omega arith)
none_short (b ∷ c ∷ []) some within_limit first second = ap (λ x. unescaped (x ∷ c ∷ [])) first ∙ ap (λ x. unescaped (backslash ∷ x ∷ [])) second
none_short (b ∷ c ∷ d ∷ []) some within_limit first second = ap (λ x. unescaped (x ∷ c ∷ d ∷ [])) first ∙ ap (λ x. unescaped (backslash ∷ x ∷ d ∷ [])) second
none_short (b ∷ c ∷ d ∷ e ∷ bs) some within_limit first second = absurd (omega arith)

pub none_other : (word : List ℕ) → 2 ≤ length word → get_or word 0 0 ≡ backslash → get_or word 1 0 ≢ backslash → get_or word 1 0 ≢ letter_e → get_or word 1 0 ≢ letter_x
    → unescaped word ≡ None
none_other word some first one two three =
    let c = get_or word 1 0 in
    let rest = unescaped (drop 2 word) in
    ap unescaped (escape_begins word c some first refl) ∙ reads_short c (drop 2 word) three
    ∙ ap (λ t. cond t (onto backslash rest) (cond (eqb c letter_e) rest None)) (ne_eqb c backslash one)
    ∙ ap (λ t. cond t rest None) (ne_eqb c letter_e two)

-- some bytes, and then those of the rest
abbrev pub ahead : List ℕ → Option (List ℕ) → Option (List ℕ)
ahead text rest = option_map (λ more. text ++ more) rest

-- nothing is left
pub reads_all : (word text : List ℕ) (at : ℕ) → length word ≤ at → unescaped word ≡ ahead text (unescaped (drop at word)) → Some text ≡ unescaped word
unfolding unescaped
reads_all word text at past so_far =
    sym (so_far ∙ ap (λ l. ahead text (unescaped l)) (drop_of_length-le word past) ∙ ap Some (append-nil text))

-- the rest cannot be read
pub reads_none : (word text : List ℕ) (at : ℕ) → unescaped (drop at word) ≡ None → unescaped word ≡ ahead text (unescaped (drop at word)) → None ≡ unescaped word
reads_none word text at none so_far = sym (so_far ∙ ap (ahead text) none)

-- the words among the pieces of a line
abbrev pub some_words : List (List ℕ) → List (List ℕ)
some_words pieces = filter (λ word. nat_lt 0 (length word)) pieces

-- some texts, and then those of the rest
abbrev pub all_ahead : List (List ℕ) → Option (List (List ℕ)) → Option (List (List ℕ))
all_ahead texts rest = option_map (λ more. texts ++ more) rest

all_ahead-onto : (texts : List (List ℕ)) (text : List ℕ) (rest : Option (List (List ℕ))) → all_ahead texts (both (Some text) rest) ≡ all_ahead (texts ++ text ∷ []) rest
all_ahead-onto texts text None = refl
all_ahead-onto texts text (Some more) = ap Some (sym (append_assoc texts (text ∷ []) more))

module _ (texts : List (List ℕ)) (piece : List ℕ) (rest : List (List ℕ)) where
  -- the first piece is a word
  word_first : 0 < length piece → all_ahead texts (all_unescaped (some_words (piece ∷ rest))) ≡ all_ahead texts (both (unescaped piece) (all_unescaped (some_words rest)))
  unfolding all_unescaped
  word_first some = ap (λ t. all_ahead texts (all_unescaped (cond t (piece ∷ some_words rest) (some_words rest)))) (lt-ltb 0 (length piece) some)

  -- it can be read
  pub texts_more : (o : Option (List (List ℕ))) (text : List ℕ) → o ≡ all_ahead texts (all_unescaped (some_words (piece ∷ rest))) → 0 < length piece → Some text ≡ unescaped piece
      → o ≡ all_ahead (texts ++ text ∷ []) (all_unescaped (some_words rest))
  texts_more o text so_far some is =
      so_far ∙ word_first some ∙ ap (λ u. all_ahead texts (both u (all_unescaped (some_words rest)))) (sym is) ∙ all_ahead-onto texts text (all_unescaped (some_words rest))

  -- it cannot
  pub texts_none : (o : Option (List (List ℕ))) → o ≡ all_ahead texts (all_unescaped (some_words (piece ∷ rest))) → 0 < length piece → None ≡ unescaped piece → None ≡ o
  texts_none o so_far some none = sym (so_far ∙ word_first some ∙ ap (λ u. all_ahead texts (both u (all_unescaped (some_words rest)))) (sym none))

  -- it is no word
  pub texts_same : (o : Option (List (List ℕ))) → o ≡ all_ahead texts (all_unescaped (some_words (piece ∷ rest))) → length piece ≡ 0 → o ≡ all_ahead texts (all_unescaped (some_words rest))
  texts_same o so_far none =
      so_far ∙ ap (λ t. all_ahead texts (all_unescaped (cond t (piece ∷ some_words rest) (some_words rest)))) (le-ltb 0 (length piece) (omega arith))

-- nothing is left
pub texts_all : (o : Option (List (List ℕ))) (texts : List (List ℕ)) → o ≡ all_ahead texts (all_unescaped []) → Some texts ≡ o
unfolding all_unescaped
texts_all o texts so_far = sym (so_far ∙ ap Some (append-nil texts))

-- what stands past the end of the pieces
abbrev pub no_piece : Bor (List ℕ)
no_piece = record { ref_ptr = (0, 0); now = [] }

-- what the words from a piece on stand for
abbrev pub words_from : List (Bor (List ℕ)) → ℕ → Option (List (List ℕ))
words_from pieces i = all_unescaped (some_words (list_map (λ piece. piece.now) (drop i pieces)))

-- a piece
abbrev pub piece_at : List (Bor (List ℕ)) → ℕ → List ℕ
piece_at pieces i = (get_or pieces i no_piece).now

module _ (o : Option (List (List ℕ))) (texts : List (List ℕ)) (pieces : List (Bor (List ℕ))) (i : ℕ) (lt : i < length pieces) (so_far : o ≡ all_ahead texts (words_from pieces i)) where
  abbrev later : List (List ℕ)
  later = list_map (λ piece. piece.now) (drop (i + 1) pieces)

  begins : o ≡ all_ahead texts (all_unescaped (some_words (piece_at pieces i ∷ later)))
  begins = so_far ∙ ap (λ l. all_ahead texts (all_unescaped (some_words (list_map (λ piece. piece.now) l))))
      (drop-cons pieces i no_piece lt ∙ ap (λ k. get_or pieces i no_piece ∷ drop k pieces) (sym (add-one i)))

  pub words_more : (text : List ℕ) → 0 < length (piece_at pieces i) → Some text ≡ unescaped (piece_at pieces i) → o ≡ all_ahead (texts ++ text ∷ []) (words_from pieces (i + 1))
  words_more text some is = texts_more texts (piece_at pieces i) later o text begins some is

  pub words_none : 0 < length (piece_at pieces i) → None ≡ unescaped (piece_at pieces i) → None ≡ o
  words_none some none = texts_none texts (piece_at pieces i) later o begins some none

  pub words_same : length (piece_at pieces i) ≡ 0 → o ≡ all_ahead texts (words_from pieces (i + 1))
  words_same none = texts_same texts (piece_at pieces i) later o begins none

pub words_all : (o : Option (List (List ℕ))) (texts : List (List ℕ)) (pieces : List (Bor (List ℕ))) (i : ℕ) → length pieces ≤ i → o ≡ all_ahead texts (words_from pieces i) → Some texts ≡ o
words_all o texts pieces i past so_far =
    texts_all o texts (so_far ∙ ap (λ l. all_ahead texts (all_unescaped (some_words (list_map (λ piece. piece.now) l)))) (drop_of_length-le pieces past))

-- the words of a line are those among its pieces
pub words_read : (o : Option (List (List ℕ))) (line : List ℕ) (lent pieces : List (Bor (List ℕ))) → o ≡ words_from lent 0 → lent ≡ pieces → list_map (λ piece. piece.now) pieces ≡ slice_split (eqb space) line
    → o ≡ all_unescaped (words line)
words_read o line lent pieces is same split =
    is ∙ ap (λ l. all_unescaped (some_words (list_map (λ piece. piece.now) l))) same ∙ ap (λ l. all_unescaped (some_words l)) split

pub spelled_some : (bytes : List ℕ) → 0 < length bytes → spelled bytes ≡ flat_map spelled_byte bytes
spelled_some [] some = absurd (omega arith)
spelled_some (b ∷ bs) some = refl
