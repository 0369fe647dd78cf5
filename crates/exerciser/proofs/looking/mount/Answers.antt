use Rattle.posix_calls.specs.Volumes.{over_pages}
use Rattle.exerciser.proofs.Mounting.{shows_flash}
use Rattle.exerciser.proofs.looking.mount.Goals as goal

pub returns-in-Ok-clause-shows : goal.returns-in-Ok-clause-shows
returns-in-Ok-clause-shows c = shows_flash _ over_pages _ _ c.in-Ok.volume c.power_up.ensures.power c.in-Ok.ensures.mounted
