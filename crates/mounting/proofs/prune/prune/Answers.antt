use Rattle.block_state.specs.TableOf.{table}
use Rattle.tree_walk.specs.Trees.{keeps_key}
use Rattle.mounting.proofs.Pruning.{still_opened, keeps_only}
use Rattle.mounting.proofs.prune.prune.Goals as goal

pub returns-clause-opened : goal.returns-clause-opened
returns-clause-opened c = λ noted a b n reads opened.
    let law = c.the_counts_are_of_the_keys.ensures in
    still_opened (keeps_key c.args.tree.now) noted a b (table c.args.blocks.now) (table c.retain.new.blocks) c.args.index.now c.retain.new.self n reads opened
    c.retain.ensures.retains c.retain.ensures.agree c.retain.ensures.counts (law.none c.args.index.now) (law.zero c.retain.new.self)

pub returns-clause-only : goal.returns-clause-only
returns-clause-only c = keeps_only (keeps_key c.args.tree.now) c.args.index.now c.retain.new.self c.retain.ensures.retains
