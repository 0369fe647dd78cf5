use Rattle.posix_calls.proofs.volume.Volume.ask.Goals as goal

pub returns : goal.returns
returns g c = c.ask.ensures
