-- What words choose.
use Rattle.std.specs.Prelude.{◌≡◌, ◌⊎◌, ℕ, List, [], Option, Some, None, codes}
use Rattle.std.specs.Str.Parse.{digits_value, without_leading_plus}
use Rattle.std.specs.String.{string_bytes}
use Rattle.clap.specs.Words.{IsAmong, Row, Text, fault_of, first_of, one_of}
use Rattle.clap.specs.declared.error.kind.ErrorKind.TheVariants as kinds
use Rattle.flash_program.specs.Program.{program}
use Rattle.flash_program.specs.declared.chosen.Chosen.{Chosen}
use Rattle.flash_program.specs.declared.chosen.Chosen.TheVariants as choices

-- the value of an option is the number that its digits write
abbrev pub IsNumber : List Row → Text → ℕ → Type 0
IsNumber rows name number = (text : Text) × (one_of name rows ≡ Some text) × (number ≡ digits_value 10 (without_leading_plus text))

-- what is chosen by a subcommand with these values: it has the subcommand's name, its image is the value of IMAGE, and
-- each number is that of its option
abbrev pub ChoosesIn : Text → List Row → Chosen → Type 0
ChoosesIn name rows choices.Memory = ⊥
ChoosesIn name rows (choices.Format image size pages blocks spare) =
    (name ≡ codes "format") × (first_of (codes "IMAGE") rows ≡ Some (string_bytes image)) × IsNumber rows (codes "data") size
    × IsNumber rows (codes "pages") pages × IsNumber rows (codes "blocks") blocks × IsNumber rows (codes "spare") spare
ChoosesIn name rows (choices.Run image) = (name ≡ codes "run") × (first_of (codes "IMAGE") rows ≡ Some (string_bytes image))
ChoosesIn name rows (choices.Check image) = (name ≡ codes "check") × (first_of (codes "IMAGE") rows ≡ Some (string_bytes image))
ChoosesIn name rows (choices.Cut image seed sessions) =
    (name ≡ codes "cut") × (first_of (codes "IMAGE") rows ≡ Some (string_bytes image)) × IsNumber rows (codes "seed") seed × IsNumber rows (codes "sessions") sessions

-- what is chosen by the subcommand that was entered, with its values, if there was one
abbrev pub Chooses : Option (Text × List Row) → Chosen → Type 0
Chooses None chosen = chosen ≡ choices.Memory
Chooses (Some entered) chosen = ChoosesIn entered.0 entered.1 chosen

-- the words after the program's name are taken: they have no fault
abbrev pub AreTaken : List Text → Type 0
AreTaken words = fault_of program words ≡ []

-- their fault is that they ask for help or the version, or may be that where they begin with `help`
abbrev pub AskForHelp : List Text → Type 0
AskForHelp words = IsAmong kinds.DisplayHelp (fault_of program words) ⊎ IsAmong kinds.DisplayVersion (fault_of program words)
