use Rattle.std.proofs.Common.{arith}
use Rattle.block_state.specs.laws.Table.{whole_set}
use Rattle.block_state.proofs.blocks.Blocks.note_written.Goals as goal

pub invariant_of-self-clause-whole : goal.invariant_of-self-clause-whole
invariant_of-self-clause-whole c =
    let whole = c.args.self.now.whole in
    rw c.entry-entry.ensures (whole_set _ _ _ _ c.args.block _ whole c.requires.block (omega (arith, c.requires.below)) (λ is. let may = whole.open_block c.args.block is in (may.good, omega arith)))
