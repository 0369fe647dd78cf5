-- What is read of matches.
use Rattle.std.proofs.Common.{◌≡◌, ◌∙◌, ℕ, List, Option, Some, None, Result, Ok, IfSome, sym}
use Rattle.std.specs.Str.Parse.{ParsesUnsigned}
use Rattle.clap.proofs.WalkLemmas.{one_text-rows}
use Rattle.clap.specs.Words.{ReadsOne, Text, one_text, rows_of}
use Rattle.clap.specs.declared.parser.matches.Found.{Found}
use Rattle.flash_program.specs.Choices.{IsNumber}

-- the number that was read is the one that the digits write
pub number_read : {E : Type 0} (bits : ℕ) (gives : List ℕ → Result ℕ E → Type 0) (found : Found) (name : Text) (o : Option Text) (result : Option ℕ)
    → ((text : List ℕ) (r : Result ℕ E) → gives text r → ParsesUnsigned bits 10 text r)
    → one_text found name ≡ o → (one_text found name ≡ None → result ≡ None)
    → ((text : Text) → one_text found name ≡ Some text → ReadsOne gives text result)
    → IfSome result (IsNumber (rows_of found) name)
number_read bits gives found name o None means is none value = tt
number_read bits gives found name None (Some n) means is none value = let bad : Some n ≡ None = none is in absurd cc
number_read bits gives found name (Some text) (Some n) means is none value =
    (text, sym (one_text-rows found name) ∙ is, (means text (Ok n) (value text is)).1)
