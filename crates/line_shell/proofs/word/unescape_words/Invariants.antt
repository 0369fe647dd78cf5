use Rattle.std.proofs.Common.{◌≡◌, drop, map as list_map}
use Rattle.line_shell.specs.Words.{all_unescaped}
use Rattle.line_shell.proofs.Words.{all_ahead, some_words}
use Rattle.line_shell.proofs.word.unescape_words.Given as goal

-- the words stand for the texts so far, and then for those of what is left
abbrev pub invariant-loop-piece : goal.invariant-loop-piece
invariant-loop-piece l =
    all_unescaped (some_words (list_map (λ piece. piece.now) l.pieces))
    ≡ all_ahead l.texts.items (all_unescaped (some_words (list_map (λ piece. piece.now) (drop l.piece-index l.pieces))))
