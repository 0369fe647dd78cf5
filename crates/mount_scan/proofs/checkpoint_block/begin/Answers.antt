use Rattle.std.proofs.Common.{◌∙◌}
use Rattle.mount_scan.proofs.ReadPages.{buffer_size, if_begun, if_none}
use Rattle.mount_scan.proofs.checkpoint_block.begin.Goals as goal

pub take_first-requires-clause-size : goal.take_first-requires-clause-size
take_first-requires-clause-size g c = buffer_size (g.N.Nand.state c.args.device.now).geometry c.read_tagged.new.page (c.read_tagged.auto.page ∙ c.requires.size)

pub returns-clause-begun : goal.returns-clause-begun
returns-clause-begun g c =
    if_begun c.in_ok-found.found (g.N.Nand.state c.args.device.now) c.args.candidate.now c.read_tagged.new.page c.take_first.new.entries.items (c.read_tagged.auto.page ∙ c.requires.size) c.requires.candidate.tag
    (λ honest. c.in_ok-read_tagged.ensures.yes honest c.if-not-branch.false) c.in_ok-found.ensures.found

pub returns-clause-none : goal.returns-clause-none
returns-clause-none g c =
    if_none c.in_ok-found.found (g.N.Nand.state c.args.device.now) c.args.candidate.now c.read_tagged.new.page (c.read_tagged.auto.page ∙ c.requires.size) c.requires.candidate.tag
    (λ honest. c.in_ok-read_tagged.ensures.yes honest c.if-not-branch.false) c.in_ok-found.ensures.none
