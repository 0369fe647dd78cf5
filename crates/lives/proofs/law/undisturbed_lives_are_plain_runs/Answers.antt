use Rattle.lives.proofs.PlainLaws.{whole_life, plain_life}
use Rattle.lives.proofs.law.undisturbed_lives_are_plain_runs.Goals as goal

pub returns-clause-plain : goal.returns-clause-plain
returns-clause-plain c = whole_life

pub returns-clause-life : goal.returns-clause-life
returns-clause-life c = plain_life
