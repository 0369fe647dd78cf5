use Rattle.posix_calls.proofs.volume.Volume.refresh.Goals as goal

pub returns : goal.returns
returns g c = c.refresh.ensures
