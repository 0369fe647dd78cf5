-- What a line asks for.
use Rattle.std.specs.Prelude.{ℕ, ◌-◌, ◌^◌, Bool, true, false, ◌&&◌, nat_eq, nat_le, List, [], ◌∷◌, codes, count_by, Option, Some, None, option_map, option_and_then, if◌then◌else◌}
use Rattle.std.specs.List.{list_any, list_all}
use Rattle.std.specs.Cmp.Lexicographic.{pointwise}
use Rattle.posix_profile.specs.declared.command.Access.{Access}
use Rattle.posix_profile.specs.declared.command.Access.TheVariants as accesses
use Rattle.posix_profile.specs.declared.command.Command.{Command}
use Rattle.posix_profile.specs.declared.command.Command.TheVariants as commands
use Rattle.posix_profile.specs.declared.command.OpenFlags.{OpenFlags}
use Rattle.posix_profile.specs.declared.command.Whence.{Whence}
use Rattle.posix_profile.specs.declared.command.Whence.TheVariants as places
use Rattle.line_shell.specs.Numbers.{number, number_32, signed_number}
use Rattle.line_shell.specs.Words.{words, all_unescaped}
use Rattle.line_shell.specs.declared.line.Line.{Line}
use Rattle.line_shell.specs.declared.line.Line.TheVariants as lines

-- whether a word is this one
abbrev pub is : List ℕ → List ℕ → Bool
is word name = pointwise nat_eq word name

-- the letters of flags: r, w, c, x, t and a
abbrev pub letters : List ℕ
letters = codes "rwcxta"

-- whether the letter is among these
abbrev pub has : List ℕ → ℕ → Bool
has flags letter = list_any (λ flag. nat_eq flag letter) flags

-- whether a word is letters of flags, each at most once
abbrev pub are_flags : List ℕ → Bool
are_flags word = list_all (λ flag. has letters flag) word && list_all (λ letter. nat_le (count_by (λ flag. nat_eq flag letter) word) 1) letters

-- what may be done, from whether `r` and `w` are there; one of them is
abbrev pub access_of : Bool → Bool → Option Access
access_of true true = Some accesses.Both
access_of true false = Some accesses.Read
access_of false true = Some accesses.Write
access_of false false = None

-- the flags of an `open`
abbrev pub flags_of : List ℕ → Option OpenFlags
flags_of word =
    if are_flags word
    then option_map (λ access. record { access = access; create = has word 99; excl = has word 120; trunc = has word 116; append = has word 97 }) (access_of (has word 114) (has word 119))
    else None

-- where a seek counts from
abbrev pub whence_of : List ℕ → Option Whence
whence_of word =
    if is word (codes "set") then Some places.Set else
    (if is word (codes "cur") then Some places.Cur else
    (if is word (codes "end") then Some places.End else None))

-- a line of the name alone
abbrev pub bare_command : List ℕ → Option Command
bare_command name =
    if is name (codes "sync") then Some commands.Sync else
    (if is name (codes "space") then Some commands.Space else None)

-- a line of the name and one word
abbrev pub command_of_one : List ℕ → List ℕ → Option Command
command_of_one name word =
    if is name (codes "close") then option_map (λ fd. commands.Close fd) (number_32 word) else
    (if is name (codes "fsync") then option_map (λ fd. commands.Fsync fd) (number_32 word) else
    (if is name (codes "stat") then Some (commands.Stat word) else
    (if is name (codes "mkdir") then Some (commands.Mkdir word) else
    (if is name (codes "rmdir") then Some (commands.Rmdir word) else
    (if is name (codes "unlink") then Some (commands.Unlink word) else
    (if is name (codes "list") then Some (commands.List word) else None))))))

-- a line of the name and two words
abbrev pub command_of_two : List ℕ → List ℕ → List ℕ → Option Command
command_of_two name first second =
    if is name (codes "open") then option_map (λ flags. commands.Open first flags) (flags_of second) else
    (if is name (codes "read") then option_and_then (λ fd. option_map (λ count. commands.Read fd count) (number_32 second)) (number_32 first) else
    (if is name (codes "write") then option_map (λ fd. commands.Write fd second) (number_32 first) else
    (if is name (codes "truncate") then option_and_then (λ fd. option_map (λ length. commands.Truncate fd length) (signed_number second)) (number_32 first) else
    (if is name (codes "link") then Some (commands.Link first second) else
    (if is name (codes "rename") then Some (commands.Rename first second) else None)))))

-- a line of the name and three words
abbrev pub command_of_three : List ℕ → List ℕ → List ℕ → List ℕ → Option Command
command_of_three name first second third =
    if is name (codes "seek")
    then option_and_then (λ fd. option_and_then (λ offset. option_map (λ whence. commands.Seek fd offset whence) (whence_of third)) (signed_number second)) (number_32 first)
    else None

-- the command of a line of these words
abbrev pub command_of : List (List ℕ) → Option Command
command_of [] = None
command_of (name ∷ []) = bare_command name
command_of (name ∷ word ∷ []) = command_of_one name word
command_of (name ∷ first ∷ second ∷ []) = command_of_two name first second
command_of (name ∷ first ∷ second ∷ third ∷ []) = command_of_three name first second third
command_of (name ∷ first ∷ second ∷ third ∷ more ∷ rest) = None

-- a line that asks for a command, if it does
abbrev pub issued : Option Command → Line
issued None = lines.Bad
issued (Some command) = lines.Do command

-- the moment of `now N`, where the words are that
abbrev pub moment_of : List (List ℕ) → Option ℕ
moment_of [] = None
moment_of (name ∷ []) = None
moment_of (name ∷ word ∷ []) = if is name (codes "now") then number (2 ^ 63 - 1) word else None
moment_of (name ∷ word ∷ more ∷ rest) = None

-- the moment, or else the other meaning
abbrev pub now_or : Option ℕ → Line → Line
now_or None other = other
now_or (Some moment) other = lines.Now moment

-- what a line of these words asks for
abbrev pub meaning : List (List ℕ) → Line
meaning [] = lines.Nothing
meaning (name ∷ rest) = now_or (moment_of (name ∷ rest)) (issued (command_of (name ∷ rest)))

-- what words that were read ask for; a word that cannot be read makes a bad line
abbrev pub meaning_of_read : Option (List (List ℕ)) → Line
meaning_of_read None = lines.Bad
meaning_of_read (Some words) = meaning words

-- what a line asks for
unfoldable pub line_of : List ℕ → Line
line_of line = meaning_of_read (all_unescaped (words line))
