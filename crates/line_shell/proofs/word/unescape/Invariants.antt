use Rattle.std.proofs.Common.{◌≡◌, ◌≤◌, ◌-◌, length, drop}
use Rattle.line_shell.specs.Words.{unescaped}
use Rattle.line_shell.proofs.Words.{ahead}
use Rattle.line_shell.proofs.word.unescape.Given as goal

-- the word stands for what was read, and then for what the rest of it stands for
abbrev pub invariant-loop-at : goal.invariant-loop-at
invariant-loop-at l = record { within : l.at ≤ length l.word; reads : unescaped l.word ≡ ahead l.text.items (unescaped (drop l.at l.word)) }

abbrev pub decreases-loop-at : goal.decreases-loop-at
decreases-loop-at l = length l.word - l.at
