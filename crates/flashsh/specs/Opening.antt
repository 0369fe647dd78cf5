-- How the image of what was chosen is opened.
use Rattle.std.specs.Prelude.{ℕ, true, List, Option, Some, None}
use Rattle.std.specs.Fs.{new_options, with_read, with_write, with_create, with_truncate}
use Rattle.std.specs.String.{string_bytes}
use Rattle.std.specs.declared.fs.options.OpenOptions.{OpenOptions}
use Rattle.flash_program.specs.declared.chosen.Chosen.{Chosen}
use Rattle.flash_program.specs.declared.chosen.Chosen.TheVariants as choices

-- a file is opened to be read, and for nothing else
abbrev pub read_alone : OpenOptions
read_alone = with_read new_options true

-- to be read and written, as it is
abbrev pub read_and_written : OpenOptions
read_and_written = with_write read_alone true

-- to be read and written from nothing on: it is made where it is not there, and emptied where it is
abbrev pub made_anew : OpenOptions
made_anew = with_truncate (with_create read_and_written true) true

-- a new volume is made in an empty file, a run writes to the file that is there, and nothing else writes
abbrev pub options_of : Chosen → OpenOptions
options_of choices.Memory = read_alone
options_of (choices.Format image size pages blocks spare) = made_anew
options_of (choices.Run image) = read_and_written
options_of (choices.Check image) = read_alone
options_of (choices.Cut image seed sessions) = read_alone

-- the path of the image, if there is one
abbrev pub path_of : Chosen → Option (List ℕ)
path_of choices.Memory = None
path_of (choices.Format image size pages blocks spare) = Some (string_bytes image)
path_of (choices.Run image) = Some (string_bytes image)
path_of (choices.Check image) = Some (string_bytes image)
path_of (choices.Cut image seed sessions) = Some (string_bytes image)
