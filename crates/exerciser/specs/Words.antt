-- What words draw.
use Rattle.std.specs.Prelude.{ℕ, zero, suc, ◌+◌, ◌%◌, List, [], ◌∷◌, ◌++◌, nat_eq, if◌then◌else◌}
use Rattle.nand_model.specs.declared.fate.Fate.{Fate}
use Rattle.nand_model.specs.declared.fate.Fate.TheVariants as fates
use Rattle.rand_core.specs.Steps.{stream_of, steps_u64_low}
use Rattle.rand_core.specs.Stream.{Stream, next_u64}
use Rattle.rand_pcg.specs.Lcg.{Lcg}
use Rattle.rand_pcg.specs.Pcg.{pcg64}

-- what a generator answers from now on
abbrev pub answers : Lcg → Stream
answers = stream_of (steps_u64_low pcg64)

-- the operation that a word draws: from 1 to so many
abbrev pub operation_of : ℕ → ℕ → ℕ
operation_of operations word = 1 + word % operations

-- the fate that a word draws, by its remainder by 4
abbrev pub fate_of : ℕ → Fate
fate_of word =
    if nat_eq (word % 4) 0 then fates.Old else
    (if nat_eq (word % 4) 1 then fates.New else
    (if nat_eq (word % 4) 2 then fates.Erased else fates.Uncorrectable))

-- the next words, in the order in which they come, and the stream that is left after them
unfoldable pub next_words : ℕ → Stream → List ℕ × Stream
next_words zero stream = ([], stream)
next_words (suc count) stream =
    let before = next_words count stream in
    (before.0 ++ ((next_u64 before.1).0 ∷ []), (next_u64 before.1).1)
