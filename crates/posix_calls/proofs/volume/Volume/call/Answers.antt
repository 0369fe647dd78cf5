use Rattle.posix_calls.proofs.Answered.{called_as}
use Rattle.posix_calls.proofs.volume.Volume.call.Goals as goal

pub returns : goal.returns
returns g c = called_as _ _ _ _ _ _ c.as_request.ensures c.ask.ensures
