use Rattle.mount_scan.proofs.CheckpointPages.{done_as, takes_later, refuses_later}
use Rattle.mount_scan.proofs.checkpoint_page.take_next.Goals as goal

pub returns-clause-yes : goal.returns-clause-yes
returns-clause-yes c = done_as c.take_parts.result _ _ (λ b yes is. takes_later c.args.page.now c.requires.size c.args.i c.requires.later c.args.n c.args.entries.now.items c.take_parts.new.entries.items (yes is)) c.take_parts.ensures.yes

pub returns-clause-no : goal.returns-clause-no
returns-clause-no c = done_as c.take_parts.result _ _ (λ b no is. refuses_later c.args.page.now c.requires.size c.args.i c.requires.later c.args.n c.args.entries.now.items (no is)) c.take_parts.ensures.no
