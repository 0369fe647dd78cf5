use Rattle.std.proofs.Common.{◌∙◌}
use Rattle.mount_scan.proofs.ReadPages.{buffer_size, none_tagged, none_next, begun_next}
use Rattle.mount_scan.proofs.checkpoint_block.go_on.Goals as goal

pub returns-then-not-branch-clause-none : goal.returns-then-not-branch-clause-none
returns-then-not-branch-clause-none g c is honest =
    none_tagged (g.N.Nand.state c.args.device.now).geometry (g.N.Nand.state c.args.device.now).flash c.args.candidate.now c.args.i c.requires.page (c.in_ok-read_tagged.ensures.no honest c.if-not-branch.true)

pub take_next-requires-clause-size : goal.take_next-requires-clause-size
take_next-requires-clause-size g c = buffer_size (g.N.Nand.state c.args.device.now).geometry c.read_tagged.new.page (c.read_tagged.auto.page ∙ c.requires.size)

pub returns-clause-begun : goal.returns-clause-begun
returns-clause-begun g c is =
    begun_next (g.N.Nand.state c.args.device.now) c.args.candidate.now c.args.n c.args.i c.read_tagged.new.page c.args.entries.now.items c.take_next.new.entries.items (c.read_tagged.auto.page ∙ c.requires.size)
    c.requires.page (λ honest. c.in_ok-read_tagged.ensures.yes honest c.if-not-branch.false) c.requires.begun (c.in_ok-taken.ensures.yes is)

pub returns-clause-none : goal.returns-clause-none
returns-clause-none g c is honest =
    none_next (g.N.Nand.state c.args.device.now).geometry (g.N.Nand.state c.args.device.now).flash c.args.candidate.now c.read_tagged.new.page (c.read_tagged.auto.page ∙ c.requires.size) c.args.i c.requires.page
    (c.in_ok-read_tagged.ensures.yes honest c.if-not-branch.false) c.args.n c.args.entries.now.items (c.requires.begun.pages honest) (c.in_ok-taken.ensures.no is)
