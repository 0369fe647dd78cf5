use Rattle.flash_c.specs.Serving.{serves}
use Rattle.flash_c.proofs.session.Session.serve.Goals as goal

pub returns : goal.returns
unfolding serves
returns c = c.ask.ensures
