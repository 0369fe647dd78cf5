-- What is random, word by word.
use Rattle.std.proofs.Common.{◌≡◌, ℕ, ◌+◌, List, [], ◌∷◌, ◌++◌, map, refl, sym, ap, ◌∙◌}
use native.Mathlib.Numerals.{unary_clauses}
use Rattle.std.proofs.lemmas.List.{map-append}
use Rattle.nand_model.specs.declared.fate.Fate.{Fate}
use Rattle.rand_core.specs.Stream.{Stream, next_u64}
use Rattle.exerciser.specs.Words.{fate_of, next_words}

pub none_drawn : (s t : Stream) → t ≡ s → ([] ≡ map fate_of (next_words 0 s).0) × (t ≡ (next_words 0 s).1)
unfolding next_words
none_drawn s t same = (refl, same)

-- the stream that is left after a word, and the word
pub one_more : (n : ℕ) (s middle left : Stream) (fates : List Fate) (word : ℕ)
    → fates ≡ map fate_of (next_words n s).0 → middle ≡ (next_words n s).1 → (word, left) ≡ next_u64 middle
    → (fates ++ (fate_of word ∷ []) ≡ map fate_of (next_words (n + 1) s).0) × (left ≡ (next_words (n + 1) s).1)
unfolding next_words
one_more n s middle left fates word before there next =
    let random : word ≡ (next_u64 (next_words n s).1).0 = ap (λ p. p.0) next ∙ ap (λ m. (next_u64 m).0) there in
    simp unary_clauses (
      ap (λ fs. fs ++ (fate_of word ∷ [])) before ∙ ap (λ w. map fate_of (next_words n s).0 ++ (fate_of w ∷ [])) random
          ∙ sym (map-append fate_of (next_words n s).0 ((next_u64 (next_words n s).1).0 ∷ [])),
      ap (λ p. p.1) next ∙ ap (λ m. (next_u64 m).1) there,
    )
