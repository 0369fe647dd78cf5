-- The lines of an input, from the first on.
use Rattle.std.proofs.Common.{◌≡◌, ◌≢◌, ◌≤◌, ◌-◌, ℕ, Bool, true, false, cond, nat_lt, List, [], ◌∷◌, ◌++◌, get_or, length, take, eqb, refl, ap, ◌∙◌, arith, eq-eqb, ne_eqb, lt-ltb, append-nil, length-append, length-take}
use Rattle.std.proofs.lemmas.Bool.{and_from, and_right}
use Rattle.std.proofs.lemmas.List.Elements.{All-head, All-tail}
use Rattle.std.proofs.Math.Seq.{take-append_seam, get_or-append_right}
use Rattle.std.specs.List.{onto_first}
use Rattle.std.specs.Io.BufRead.{ends_with_byte, strip_last}
use Rattle.line_shell.specs.Lines.{carriage_return, whole_lines, without_end, line_size}
use Rattle.line_shell.specs.Reading.{IsWithoutNewline}
use Rattle.line_shell.specs.Replies.{newline}

-- bytes with one more at the end
last_at : (bytes : List ℕ) (b : ℕ) → get_or (bytes ++ b ∷ []) (length (bytes ++ b ∷ []) - 1) 0 ≡ b
last_at bytes b =
    let place : length (bytes ++ b ∷ []) - 1 ≡ length bytes = omega (arith, length-append bytes (b ∷ [])) in
    let none : length bytes - length bytes ≡ 0 = omega arith in
    ap (λ n. get_or (bytes ++ b ∷ []) n 0) place ∙ get_or-append_right bytes (b ∷ []) (length bytes) 0 (omega arith) ∙ ap (λ n. get_or (b ∷ []) n 0) none

ends_yes : (bytes : List ℕ) (b : ℕ) → ends_with_byte b (bytes ++ b ∷ []) ≡ true
ends_yes bytes b =
    and_from (nat_lt 0 (length (bytes ++ b ∷ []))) (eqb (get_or (bytes ++ b ∷ []) (length (bytes ++ b ∷ []) - 1) 0) b)
    (lt-ltb 0 (length (bytes ++ b ∷ [])) (omega (arith, length-append bytes (b ∷ []))))
    (eq-eqb (get_or (bytes ++ b ∷ []) (length (bytes ++ b ∷ []) - 1) 0) b (last_at bytes b))

-- the bytes without the last again
pub strip_yes : (bytes : List ℕ) (b : ℕ) → strip_last b (bytes ++ b ∷ []) ≡ bytes
strip_yes bytes b =
    let place : length (bytes ++ b ∷ []) - 1 ≡ length bytes = omega (arith, length-append bytes (b ∷ [])) in
    ap (λ t. cond t (take (length (bytes ++ b ∷ []) - 1) (bytes ++ b ∷ [])) (bytes ++ b ∷ [])) (ends_yes bytes b)
    ∙ ap (λ n. take n (bytes ++ b ∷ [])) place ∙ take-append_seam bytes (b ∷ [])

ends_no : (bytes : List ℕ) → IsWithoutNewline bytes → ends_with_byte newline bytes ≡ false
ends_no [] clean = refl
ends_no (b ∷ bs) clean =
    let bytes = b ∷ bs in
    and_right (nat_lt 0 (length bytes)) (eqb (get_or bytes (length bytes - 1) 0) newline)
    (ne_eqb (get_or bytes (length bytes - 1) 0) newline (clean (length bytes - 1) 0 (omega arith)))

pub strip_no : (bytes : List ℕ) → IsWithoutNewline bytes → strip_last newline bytes ≡ bytes
strip_no bytes clean = ap (λ t. cond t (take (length bytes - 1) bytes) bytes) (ends_no bytes clean)

-- a line that ends in a newline
pub without_end_yes : (bytes : List ℕ) → without_end (bytes ++ newline ∷ []) ≡ strip_last carriage_return bytes
without_end_yes bytes =
    ap (λ t. cond t (strip_last carriage_return (strip_last newline (bytes ++ newline ∷ []))) (bytes ++ newline ∷ [])) (ends_yes bytes newline)
    ∙ ap (strip_last carriage_return) (strip_yes bytes newline)

pub size_yes : (bytes : List ℕ) → line_size (bytes ++ newline ∷ []) ≡ length bytes
size_yes bytes = ap length (strip_yes bytes newline)

-- a last line without one
pub without_end_no : (bytes : List ℕ) → IsWithoutNewline bytes → without_end bytes ≡ bytes
without_end_no bytes clean = ap (λ t. cond t (strip_last carriage_return (strip_last newline bytes)) bytes) (ends_no bytes clean)

pub size_no : (bytes : List ℕ) → IsWithoutNewline bytes → line_size bytes ≡ length bytes
size_no bytes clean = ap length (strip_no bytes clean)

-- the first line ends at the first newline
pub first_ended : (front rest : List ℕ) → IsWithoutNewline front → whole_lines (front ++ newline ∷ rest) ≡ (front ++ newline ∷ []) ∷ whole_lines rest
unfolding whole_lines
first_ended [] rest clean = refl
first_ended (b ∷ bs) rest clean =
    ap (λ t. cond t ((b ∷ []) ∷ whole_lines (bs ++ newline ∷ rest)) (onto_first b (whole_lines (bs ++ newline ∷ rest)))) (ne_eqb b newline (All-head (λ x. x ≢ newline) b bs clean))
    ∙ ap (onto_first b) (first_ended bs rest (All-tail (λ x. x ≢ newline) b bs clean))

-- a last line has none
pub first_last : (b : ℕ) (bs : List ℕ) → IsWithoutNewline (b ∷ bs) → whole_lines (b ∷ bs) ≡ (b ∷ bs) ∷ []
unfolding whole_lines
first_last b [] clean = ap (λ t. cond t ((b ∷ []) ∷ []) ((b ∷ []) ∷ [])) (ne_eqb b newline (All-head (λ x. x ≢ newline) b [] clean))
first_last b (c ∷ cs) clean =
    ap (λ t. cond t ((b ∷ []) ∷ whole_lines (c ∷ cs)) (onto_first b (whole_lines (c ∷ cs)))) (ne_eqb b newline (All-head (λ x. x ≢ newline) b (c ∷ cs) clean))
    ∙ ap (onto_first b) (first_last c cs (All-tail (λ x. x ≢ newline) b (c ∷ cs) clean))

-- the first line begins with all bytes before the first newline
pub first_begins : (b : ℕ) (bs rest : List ℕ) → IsWithoutNewline (b ∷ bs) → (next : List ℕ) × (more : List (List ℕ)) × (whole_lines (b ∷ bs ++ rest) ≡ (b ∷ bs ++ next) ∷ more)
unfolding whole_lines
first_begins b [] rest clean =
    let other = ap (λ t. cond t ((b ∷ []) ∷ whole_lines rest) (onto_first b (whole_lines rest))) (ne_eqb b newline (All-head (λ x. x ≢ newline) b [] clean)) in
    at (whole_lines rest) other
  where
    at : (ls : List (List ℕ)) → whole_lines (b ∷ rest) ≡ onto_first b ls → (next : List ℕ) × (more : List (List ℕ)) × (whole_lines (b ∷ rest) ≡ (b ∷ next) ∷ more)
    at [] is = ([], [], is)
    at (l ∷ ls) is = (l, ls, is)
first_begins b (c ∷ cs) rest clean =
    let tail = first_begins c cs rest (All-tail (λ x. x ≢ newline) b (c ∷ cs) clean) in (
      tail.0,
      tail.1,
      ap (λ t. cond t ((b ∷ []) ∷ whole_lines (c ∷ cs ++ rest)) (onto_first b (whole_lines (c ∷ cs ++ rest)))) (ne_eqb b newline (All-head (λ x. x ≢ newline) b (c ∷ cs) clean))
          ∙ ap (onto_first b) tail.2,
    )

-- and is no shorter than they are
pub size_begins : (front next : List ℕ) → IsWithoutNewline front → length front ≤ line_size (front ++ next)
size_begins front [] clean = rw (append-nil, size_no front clean) (omega arith)
size_begins front (b ∷ bs) clean = at (ends_with_byte newline (front ++ b ∷ bs))
  where
    at : (t : Bool) → length front ≤ length (cond t (take (length (front ++ b ∷ bs) - 1) (front ++ b ∷ bs)) (front ++ b ∷ bs))
    at true = omega (arith, length-append front (b ∷ bs), length-take (length (front ++ b ∷ bs) - 1) (front ++ b ∷ bs))
    at false = omega (arith, length-append front (b ∷ bs))
