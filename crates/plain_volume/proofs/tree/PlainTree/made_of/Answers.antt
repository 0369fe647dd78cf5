use Rattle.plain_volume.proofs.tree.PlainTree.made_of.Goals as goal

pub returns-then-branch : goal.returns-then-branch
returns-then-branch c = record { shows = c.in_ok-has.ensures.shows; listed = c.in_ok-has.ensures.listed.0 c.if-branch.true }
