-- The lines of an input are the input, and are what std says.
use Rattle.std.proofs.Common.{◌≡◌, ◌≢◌, ◌-◌, ℕ, Bool, true, false, cond, eqb, List, [], ◌∷◌, ◌++◌, map, get_or, length, take, ◌&&◌, lt-ltb, refl, sym, ap, ◌∙◌, arith, ne_eqb, eqb-true}
use Rattle.std.proofs.lemmas.Bool.{eqb-false}
use Rattle.std.proofs.lemmas.List.Elements.{All-cons}
use Rattle.std.specs.List.{concat, onto_first, slice_split}
use Rattle.std.specs.Str.Lines.{lines, lines_of_parts, strip_carriage_return}
use Rattle.std.specs.Io.BufRead.{strip_last}
use Rattle.line_shell.specs.Lines.{carriage_return, whole_lines, without_end, lines_of}
use Rattle.line_shell.specs.Reading.{IsWithoutNewline}
use Rattle.line_shell.specs.Replies.{newline}
use Rattle.line_shell.proofs.Lines.{without_end_yes, without_end_no}

concat-onto_first : (b : ℕ) (ls : List (List ℕ)) → concat (onto_first b ls) ≡ b ∷ concat ls
concat-onto_first b [] = refl
concat-onto_first b (l ∷ ls) = refl

pub concat-whole_lines : (input : List ℕ) → concat (whole_lines input) ≡ input
unfolding whole_lines
concat-whole_lines [] = refl
concat-whole_lines (b ∷ bs) =
    elim (eqb b newline) as (λ t. concat (cond t ((b ∷ []) ∷ whole_lines bs) (onto_first b (whole_lines bs))) ≡ b ∷ bs) [
      | true ↦ ap (λ l. b ∷ l) (concat-whole_lines bs)
      | false ↦ concat-onto_first b (whole_lines bs) ∙ ap (λ l. b ∷ l) (concat-whole_lines bs)
    ]

-- the parts between newlines, with the newlines; a last part that is empty is no line
ended : List (List ℕ) → List (List ℕ)
ended [] = []
ended (part ∷ []) = cond (eqb (length part) 0) [] (part ∷ [])
ended (part ∷ next ∷ more) = (part ++ newline ∷ []) ∷ ended (next ∷ more)

abbrev parts_of : List ℕ → List (List ℕ)
parts_of input = slice_split (λ b. eqb b newline) input

-- each part but the first of a cut goes on
split_some : (input : List ℕ) → (part : List ℕ) × (more : List (List ℕ)) × (parts_of input ≡ part ∷ more)
split_some [] = ([], [], refl)
split_some (b ∷ bs) = elim (eqb b newline) as (λ t. (part : List ℕ) × (more : List (List ℕ)) × (cond t ([] ∷ parts_of bs) (onto_first b (parts_of bs)) ≡ part ∷ more)) [
  | true ↦ ([], parts_of bs, refl)
  | false ↦ let rest = split_some bs in (b ∷ rest.0, rest.1, ap (onto_first b) rest.2)
]

ended-onto_first : (b : ℕ) (part : List ℕ) (more : List (List ℕ)) → ended (onto_first b (part ∷ more)) ≡ onto_first b (ended (part ∷ more))
unfolding ended
ended-onto_first b [] [] = refl
ended-onto_first b (c ∷ cs) [] =
    ap (λ t. cond t [] ((b ∷ c ∷ cs) ∷ [])) (ne_eqb (length (b ∷ c ∷ cs)) 0 (λ e. absurd (omega arith)))
    ∙ sym (ap (λ t. onto_first b (cond t [] ((c ∷ cs) ∷ []))) (ne_eqb (length (c ∷ cs)) 0 (λ e. absurd (omega arith))))
ended-onto_first b part (next ∷ more) = refl

-- one byte more at the front
ended_step : (b : ℕ) (bs : List ℕ) (t : Bool) → eqb b newline ≡ t → whole_lines bs ≡ ended (parts_of bs)
    → cond t ((b ∷ []) ∷ whole_lines bs) (onto_first b (whole_lines bs)) ≡ ended (cond t ([] ∷ parts_of bs) (onto_first b (parts_of bs)))
unfolding ended
ended_step b bs true is rest =
    let split = split_some bs in
    ap (λ x. (x ∷ []) ∷ whole_lines bs) (eqb-true b newline is) ∙ ap (λ l. (newline ∷ []) ∷ l) (rest ∙ ap ended split.2) ∙ sym (ap (λ l. ended ([] ∷ l)) split.2)
ended_step b bs false is rest =
    let split = split_some bs in
    ap (onto_first b) (rest ∙ ap ended split.2) ∙ sym (ended-onto_first b split.0 split.1) ∙ sym (ap (λ l. ended (onto_first b l)) split.2)

whole_lines-ended : (input : List ℕ) → whole_lines input ≡ ended (parts_of input)
unfolding whole_lines ended
whole_lines-ended [] = refl
whole_lines-ended (b ∷ bs) = ended_step b bs (eqb b newline) refl (whole_lines-ended bs)

-- no part has a newline
data AreClean : List (List ℕ) → Type 0 where
  none : AreClean []
  one : {part : List ℕ} {more : List (List ℕ)} → IsWithoutNewline part → AreClean more → AreClean (part ∷ more)

clean_nil : IsWithoutNewline []
clean_nil k d lt = absurd (omega arith)

clean_cons : (b : ℕ) (bs : List ℕ) → b ≢ newline → IsWithoutNewline bs → IsWithoutNewline (b ∷ bs)
clean_cons b bs ne clean = All-cons (λ x. x ≢ newline) b bs ne clean

clean_onto : (b : ℕ) (parts : List (List ℕ)) → b ≢ newline → AreClean parts → AreClean (onto_first b parts)
clean_onto b [] ne clean = one (clean_cons b [] ne clean_nil) none
clean_onto b (part ∷ more) ne (one first rest) = one (clean_cons b part ne first) rest

clean_step : (b : ℕ) (bs : List ℕ) (t : Bool) → eqb b newline ≡ t → AreClean (parts_of bs) → AreClean (cond t ([] ∷ parts_of bs) (onto_first b (parts_of bs)))
clean_step b bs true is rest = one clean_nil rest
clean_step b bs false is rest = clean_onto b (parts_of bs) (eqb-false b newline is) rest

are_clean : (input : List ℕ) → AreClean (parts_of input)
are_clean [] = one clean_nil none
are_clean (b ∷ bs) = clean_step b bs (eqb b newline) refl (are_clean bs)

-- one carriage return is dropped
strips : (part : List ℕ) → strip_last carriage_return part ≡ strip_carriage_return part
strips [] = refl
strips (b ∷ bs) =
    let part = b ∷ bs in
    ap (λ t. cond (t && eqb (get_or part (length part - 1) 0) carriage_return) (take (length part - 1) part) part) (lt-ltb 0 (length part) (omega arith))

without_ends : (parts : List (List ℕ)) → AreClean parts → map without_end (ended parts) ≡ lines_of_parts parts
unfolding ended
without_ends [] clean = refl
without_ends (part ∷ []) (one clean rest) = elim (eqb (length part) 0) as (λ t. map without_end (cond t [] (part ∷ [])) ≡ cond t [] (part ∷ [])) [
  | true ↦ refl
  | false ↦ ap (λ l. l ∷ []) (without_end_no part clean)
]
without_ends (part ∷ next ∷ more) (one clean rest) =
    ap (λ l. l ∷ map without_end (ended (next ∷ more))) (without_end_yes part ∙ strips part) ∙ ap (λ l. strip_carriage_return part ∷ l) (without_ends (next ∷ more) rest)

pub lines_of_std : (input : List ℕ) → lines_of input ≡ lines input
lines_of_std input = ap (map without_end) (whole_lines-ended input) ∙ without_ends (parts_of input) (are_clean input)
