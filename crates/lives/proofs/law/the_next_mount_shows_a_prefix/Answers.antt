use Rattle.lives.specs.laws.LifeLaws.{next_mount}
use Rattle.lives.proofs.law.the_next_mount_shows_a_prefix.Goals as goal

pub returns : goal.returns
returns c = next_mount
