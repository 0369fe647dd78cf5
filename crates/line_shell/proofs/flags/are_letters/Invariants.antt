use Rattle.std.proofs.Common.{◌≡◌, drop}
use Rattle.std.specs.List.{list_all}
use Rattle.line_shell.specs.Commands.{letters, has}
use Rattle.line_shell.proofs.flags.are_letters.Given as goal

abbrev pub invariant-loop-flag : goal.invariant-loop-flag
invariant-loop-flag l = list_all (λ flag. has letters flag) (drop l.flag-index l.word) ≡ list_all (λ flag. has letters flag) l.fn.word
