use Rattle.std.proofs.Common.{rules}
use Rattle.flash_tree.specs.laws.Newest.{mark_keeps_elsewhere}
use Rattle.transactions.specs.laws.Handing.{hands_marked}
use Rattle.transactions.specs.laws.Ready.{ready_marked}
use Rattle.transactions.proofs.mark.mark_block.Goals as goal

pub returns-then-is_bad-clause-can_write : goal.returns-then-is_bad-clause-can_write
returns-then-is_bad-clause-can_write g c = ready_marked c.args.block _ _ _ _ _ c.requires.can_write c.requires.closed c.mark_bad-marked.ensures.marks (search rules)

pub returns-then-is_bad-clause-newest : goal.returns-then-is_bad-clause-newest
returns-then-is_bad-clause-newest g c = λ honest. mark_keeps_elsewhere c.args.block _ _ _ honest c.mark_bad-marked.ensures.marks

pub returns-else-is_bad-clause-can_write : goal.returns-else-is_bad-clause-can_write
returns-else-is_bad-clause-can_write g c = ready_marked c.args.block _ _ _ _ _ c.requires.can_write c.requires.closed c.mark_bad-marked.ensures.marks (search rules)

pub returns-else-is_bad-clause-newest : goal.returns-else-is_bad-clause-newest
returns-else-is_bad-clause-newest g c = λ honest. mark_keeps_elsewhere c.args.block _ _ _ honest c.mark_bad-marked.ensures.marks

pub returns-then-is_bad-clause-numbers : goal.returns-then-is_bad-clause-numbers
returns-then-is_bad-clause-numbers g c = hands_marked c.args.block _ _ _ _ _ c.mark_bad-marked.ensures.marks c.requires.first (search rules)

pub returns-else-is_bad-clause-numbers : goal.returns-else-is_bad-clause-numbers
returns-else-is_bad-clause-numbers g c = hands_marked c.args.block _ _ _ _ _ c.mark_bad-marked.ensures.marks c.requires.first (search rules)
