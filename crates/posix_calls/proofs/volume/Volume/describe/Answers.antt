use Rattle.posix_calls.proofs.volume.Volume.describe.Goals as goal

pub returns : goal.returns
returns g c = record { stopped = c.describe.ensures.stopped; describes = c.describe.ensures.describes }
