use Rattle.posix_calls.proofs.volume.Volume.run.Goals as goal

pub returns-clause-goes_on : goal.returns-clause-goes_on
returns-clause-goes_on g c = record { pages = c.run.ensures.goes_on; read_only = c.run.ensures.keeps.0 }
