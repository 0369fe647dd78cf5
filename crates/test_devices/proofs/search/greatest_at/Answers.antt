use Rattle.flash_tree.specs.Places.{numbers_of}
use Rattle.test_devices.proofs.Raising.{greatest_past_page, greatest_raised}
use Rattle.test_devices.proofs.search.greatest_at.Goals as goal

pub returns-in-None-clause-greatest : goal.returns-in-None-clause-greatest
returns-in-None-clause-greatest g c = λ honest is.
    greatest_past_page _ c.args.block c.args.page (numbers_of c.args.numbers) (rw c.in-None.is at (c.in_ok-tag_at.ensures.tag honest)) is

pub returns-in-Some-clause-greatest : goal.returns-in-Some-clause-greatest
returns-in-Some-clause-greatest g c = λ honest is.
    greatest_raised _ c.args.block c.args.page c.in-Some.tag (numbers_of c.args.numbers) (numbers_of c.raised.result) c.requires.good
    (rw c.in-Some.is at (c.in_ok-tag_at.ensures.tag honest)) c.raised.ensures is
