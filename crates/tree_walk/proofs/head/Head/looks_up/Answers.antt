use Rattle.std.proofs.Common.{◌≡◌, ◌≤◌, ◌/◌, ◌∙◌, sym, ap, arith}
use Rattle.std.specs.Int.{div_ceil}
use Rattle.volume_terms.specs.Sizes.{page_slots}
use Rattle.tree_walk.proofs.Looking.{directory_looks}
use Rattle.tree_walk.proofs.head.Head.looks_up.Goals as goal

pub returns-in-Directory-clause-chunks : goal.returns-in-Directory-clause-chunks
returns-in-Directory-clause-chunks c = λ z f size is.
    let slots : c.from.result ≡ page_slots z = c.from.ensures ∙ ap (λ n. n / 272) (sym size) in
    let count : c.div_ceil.result ≡ div_ceil c.args.self.now.length (page_slots z) = c.div_ceil.ensures ∙ ap (div_ceil c.args.self.now.length) slots in
    let from : 1 ≤ c.args.chunk = omega (arith, c.if-chunk-eq0.false) in
    let some : 1 ≤ page_slots z = omega (arith, size, c.requires) in
    directory_looks z f c.args.self.now is c.args.chunk from c.in-Directory.is some _ (λ on. let le : c.args.chunk ≤ c.div_ceil.result = grind arith in omega (arith, le, count)) (λ le. let below : c.args.chunk ≤ c.div_ceil.result = omega (arith, le, count) in grind arith)
