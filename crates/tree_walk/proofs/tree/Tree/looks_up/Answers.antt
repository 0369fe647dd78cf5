use Rattle.std.proofs.Common.{◌≡◌, Some, sym, arith}
use Rattle.flash_tree.specs.Tree.{IsPageSize}
use Rattle.tree_walk.specs.Trees.{head_at}
use Rattle.tree_walk.proofs.Looking.{head_looks}
use Rattle.tree_walk.proofs.tree.Tree.looks_up.Goals as goal

pub returns-in-Some-clause-keys : goal.returns-in-Some-clause-keys
returns-in-Some-clause-keys c = λ z m size reports.
    let there : head_at c.args.self.now c.args.key.object ≡ Some c.in-Some.head.now = sym c.in-Some.ensures.value in
    let page : IsPageSize z.page_bytes = record { least = omega (arith, size, c.args.self.now.least); most = omega (arith, size, c.args.self.now.most) } in
    head_looks z page m c.args.self.now reports c.args.key.object c.args.key.chunk c.in-Some.head.now there c.looks_up.result (λ f is. c.looks_up.ensures.chunks z f size is)
