use Rattle.std.proofs.Common.{◌≡◌, ◌<◌, ◌+◌, ◌∙◌, ap, sym, length, rules}
use Rattle.line_shell.proofs.Words.{piece_at, words_from, all_ahead, words_more, words_none, words_same, words_all}
use Rattle.line_shell.proofs.word.unescape_words.Goals.{then-not-is_empty+in_ok-text+in-Some+in_ok-push-in-Some, else-not-is_empty}
use Rattle.line_shell.proofs.word.unescape_words.Goals as goal

pub returns-in-None : goal.returns-in-None
returns-in-None c =
    let some : 0 < length (piece_at c.args.pieces.now c.loop-piece.piece-index) = search rules in
    words_none _ c.loop-piece.texts.items c.args.pieces.now c.loop-piece.piece-index c.loop-piece-test.true c.loop-piece.invariant some (sym c.in-None.is ∙ c.in_ok-text.ensures)

pub loop-piece-preserved : goal.loop-piece-preserved
loop-piece-preserved c = elim c.if-not-is_empty.branch [
  | then-not-is_empty+in_ok-text+in-Some+in_ok-push-in-Some w ↦
      let some : 0 < length (piece_at c.args.pieces.now c.loop-piece.piece-index) = search rules in
      words_more _ c.loop-piece.texts.items c.args.pieces.now c.loop-piece.piece-index c.loop-piece-test.true c.loop-piece.invariant w.in-Some.text some
      (sym w.in-Some.is ∙ w.in_ok-text.ensures)
      ∙ ap (λ texts. all_ahead texts (words_from c.args.pieces.now (c.loop-piece.piece-index + 1))) (sym (ap (λ v. v.items) w.texts-is ∙ w.in_ok-push-in-Some.ensures.items))
  | else-not-is_empty w ↦
      let none : length (piece_at c.args.pieces.now c.loop-piece.piece-index) ≡ 0 = search rules in
      words_same _ c.loop-piece.texts.items c.args.pieces.now c.loop-piece.piece-index c.loop-piece-test.true c.loop-piece.invariant none
      ∙ ap (λ v. all_ahead v.items (words_from c.args.pieces.now (c.loop-piece.piece-index + 1))) (sym w.texts-is)
]

pub returns : goal.returns
returns c = words_all _ c.loop-piece.texts.items c.args.pieces.now c.loop-piece.piece-index c.loop-piece-test.false c.loop-piece.invariant
