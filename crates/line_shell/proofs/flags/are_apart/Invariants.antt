use Rattle.std.proofs.Common.{◌≡◌, drop, count_by, nat_eq, nat_le}
use Rattle.std.specs.List.{list_all}
use Rattle.line_shell.proofs.flags.are_apart.Given as goal

abbrev pub invariant-loop-letter : goal.invariant-loop-letter
invariant-loop-letter l =
    list_all (λ letter. nat_le (count_by (λ flag. nat_eq flag letter) l.word) 1) (drop l.letter-index l.letters)
    ≡ list_all (λ letter. nat_le (count_by (λ flag. nat_eq flag letter) l.word) 1) l.fn.letters
