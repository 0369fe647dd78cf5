-- The subcommands of the program and their options.
use Rattle.std.specs.Prelude.{◌≡◌, [], ◌∷◌, true, false, Some, codes, pos}
use Rattle.clap.specs.Words.{App, Rule, Text, app_of, new_app, new_rule, rule_of, with_rule, with_subcommand}
use Rattle.clap.specs.declared.builder.arg.Arg.{Arg}
use Rattle.clap.specs.declared.builder.command.Command.{Command}
use Rattle.clap.specs.declared.builder.command.Command.TheViews.{out-Command}
use Rattle.clap.specs.declared.builder.value_parser.ValueParser.{ValueParser}
use Rattle.clap.specs.declared.builder.value_parser.ValueParser.TheVariants as parsers

-- the word for the image, which has to be there
abbrev pub image_rule : Rule
image_rule = record (new_rule (codes "IMAGE")) { required = true }

-- an option with one value, its name, how the value is read, and the value that represents none
abbrev pub option_rule : Text → ValueParser → Text → Rule
option_rule name parser default = record (new_rule name) { long = Some name; parser = Some parser; defaults = default ∷ []; value_names = 1 }

-- an option with a number of 32 bits
abbrev pub number_rule : Text → Text → Rule
number_rule name default = option_rule name (parsers.Signed (pos 0) (pos 4294967295)) default

-- the seed is a number of 64 bits, 1 if it is not given
abbrev pub seed_rule : Rule
seed_rule = option_rule (codes "seed") (parsers.Unsigned 0 18446744073709551615) (codes "1")

-- there are 1 to 1,000 sessions, 10 if nothing is said
abbrev pub sessions_rule : Rule
sessions_rule = option_rule (codes "sessions") (parsers.Signed (pos 1) (pos 1000)) (codes "10")

-- a subcommand with an image
abbrev pub over_image : Text → App
over_image name = with_rule (new_app name) image_rule

-- `format IMAGE [--data D] [--pages P] [--blocks B] [--spare S]`
abbrev pub format_words : App
format_words =
    with_rule (with_rule (with_rule (with_rule (over_image (codes "format"))
    (number_rule (codes "data") (codes "2048")))
    (number_rule (codes "pages") (codes "64")))
    (number_rule (codes "blocks") (codes "64")))
    (number_rule (codes "spare") (codes "2"))

-- `run IMAGE`
abbrev pub run_words : App
run_words = over_image (codes "run")

-- `check IMAGE`
abbrev pub check_words : App
check_words = over_image (codes "check")

-- `cut IMAGE [--seed N] [--sessions N]`
abbrev pub cut_words : App
cut_words = with_rule (with_rule (over_image (codes "cut")) seed_rule) sessions_rule

-- the program without a subcommand: the words begin after its name, and it has a version
abbrev pub bare_program : App
bare_program = record (new_app (codes "flashsh")) {
  top = record (new_app (codes "flashsh")).top { no_binary_name = true; has_version = true };
}

-- what words the program takes
abbrev pub program : App
program =
    with_subcommand (with_subcommand (with_subcommand (with_subcommand bare_program
    format_words.top) run_words.top) check_words.top) cut_words.top

-- the argument has this rule, and is one of its command alone
pub record HasRule (wanted : Rule) (arg : Arg) : Type 0 where
  pub rule : rule_of arg ≡ wanted
  pub local : arg.global ≡ false

-- the command takes these words, and no argument of it is one of those below it too
pub record TakesWords (taken : App) (command : Command) : Type 0 where
  pub words : app_of command ≡ taken
  pub local : (out-Command command).has_globals ≡ false
