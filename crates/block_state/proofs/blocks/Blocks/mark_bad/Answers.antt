use Rattle.block_state.specs.laws.Table.{whole_set}
use Rattle.block_state.proofs.blocks.Blocks.mark_bad.Goals as goal

pub invariant_of-self-clause-whole : goal.invariant_of-self-clause-whole
invariant_of-self-clause-whole c =
    let whole = c.args.self.now.whole in
    rw c.entry-entry.ensures (whole_set _ _ _ _ c.args.block _ whole c.requires.block (whole.seqs c.args.block) (λ is. absurd (c.requires.closed is)))
