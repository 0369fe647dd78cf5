-- The lines of an input.
use Rattle.std.specs.Prelude.{ℕ, ◌==◌, List, [], ◌∷◌, length, map, if◌then◌else◌}
use Rattle.std.specs.List.{onto_first}
use Rattle.std.specs.Io.BufRead.{ends_with_byte, strip_last}
use Rattle.line_shell.specs.Replies.{newline}

-- the byte that is dropped before a newline
abbrev pub carriage_return : ℕ
carriage_return = 13

-- the lines of an input with their ends; only the last may have none
unfoldable pub whole_lines : List ℕ → List (List ℕ)
whole_lines [] = []
whole_lines (b ∷ bs) = if b == newline then (b ∷ []) ∷ whole_lines bs else onto_first b (whole_lines bs)

-- a line without its end: the newline, and one carriage return before it
abbrev pub without_end : List ℕ → List ℕ
without_end line = if ends_with_byte newline line then strip_last carriage_return (strip_last newline line) else line

-- the size of a line: all its bytes but the newline
abbrev pub line_size : List ℕ → ℕ
line_size line = length (strip_last newline line)

-- the lines of an input
abbrev pub lines_of : List ℕ → List (List ℕ)
lines_of input = map without_end (whole_lines input)

-- the greatest size of a line
abbrev pub longest_line : ℕ
longest_line = 65536

-- the most lines that are answered
abbrev pub most_lines : ℕ
most_lines = 16777216
