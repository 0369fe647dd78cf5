use Rattle.std.proofs.Common.{sym, ap, ◌∙◌, arith, inl, inr}
use Rattle.std.proofs.lemmas.Bool.{cases_eq}
use Rattle.tree_walk.specs.Heads.{head_looks_up}
use Rattle.tree_walk.proofs.head.Head.looks_up_below.Goals as goal

pub loop-chunk-preserved : goal.loop-chunk-preserved
loop-chunk-preserved c = λ k lt. elim (cases_eq k c.loop-chunk.chunk) [
  | inl is ↦ ap (head_looks_up c.args.page_bytes c.args.self.now) is ∙ sym c.looks_up.ensures.reported ∙ c.if-not-looks_up.false
  | inr ne ↦ c.loop-chunk.invariant k (omega (arith, lt, ne))
]
