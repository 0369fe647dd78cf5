use Rattle.std.proofs.Common.{ap, sym, ◌∙◌, arith, ◌+◌, ◌<◌, length, drop}
use Rattle.chunk_index.specs.Following.{object_keys}
use Rattle.chunk_index.proofs.KeysLeft.{passes_one, not_committed}
use Rattle.chunk_index.proofs.object.ObjectEntries.after_committed.Goals.{then-is_committed, else-is_committed}
use Rattle.chunk_index.proofs.object.ObjectEntries.after_committed.Goals as goal

pub loop-at-preserved : goal.loop-at-preserved
loop-at-preserved c o =
    let es = c.args.self.now.entries.items in
    let at = c.loop-at.at in
    let e = c.index.result.now in
    let lt : at < length es = omega (arith, c.loop-at-test.true, c.len-at-end.ensures) in
    elim c.if-is_committed.branch [
      | then-is_committed w ↦ ap (λ n. drop n (object_keys o (drop (at + 1) es))) w.left-is ∙ passes_one o es at e lt c.index.ensures c.loop-at.left (omega (arith, c.if-left-eq0.false)) (sym c.is_committed.ensures ∙ w.if-is_committed.true) ∙ c.loop-at.invariant o
      | else-is_committed w ↦ ap (λ n. drop n (object_keys o (drop (at + 1) es))) w.left-is ∙ sym (ap (drop c.loop-at.left) (not_committed o es at e lt c.index.ensures (sym c.is_committed.ensures ∙ w.if-is_committed.false))) ∙ c.loop-at.invariant o
    ]
