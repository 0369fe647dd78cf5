use Rattle.flash_c.specs.Serving.{describes}
use Rattle.flash_c.proofs.session.Session.describe.Goals as goal

pub returns : goal.returns
unfolding describes
returns c = c.describe.ensures
