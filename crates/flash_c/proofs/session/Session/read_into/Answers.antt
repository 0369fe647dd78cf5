use Rattle.flash_c.specs.Serving.{serves}
use Rattle.flash_c.proofs.session.Session.read_into.Goals as goal

pub returns-clause-served : goal.returns-clause-served
unfolding serves
returns-clause-served c = c.read_into.ensures.called
