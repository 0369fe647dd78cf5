use Rattle.std.proofs.Common.{arith}
use Rattle.mount_scan.proofs.CheckpointPages.{takes_first, refuses_first, refuses_head}
use Rattle.mount_scan.proofs.checkpoint_page.take_first.Goals as goal

pub returns-in_default-clause-none : goal.returns-in_default-clause-none
returns-in_default-clause-none c = refuses_head c.args.page.now c.requires.size c.args.count c.in_default.ensures.none

pub returns-then-branch-clause-found : goal.returns-then-branch-clause-found
returns-then-branch-clause-found c =
    takes_first c.args.page.now c.requires.size c.in-Some.n c.args.count c.args.entries.now.items c.take_parts.new.entries.items c.requires.empty c.in-Some.ensures.head c.in-Some.ensures.size
    (c.in_ok-take_parts.ensures.yes c.if-branch.true)

pub returns-else-branch-clause-none : goal.returns-else-branch-clause-none
returns-else-branch-clause-none c =
    refuses_first c.args.page.now c.requires.size c.in-Some.n c.args.count c.args.entries.now.items c.requires.empty (omega arith) c.requires.count c.in-Some.ensures.head
    (c.in_ok-take_parts.ensures.no c.if-branch.false)
