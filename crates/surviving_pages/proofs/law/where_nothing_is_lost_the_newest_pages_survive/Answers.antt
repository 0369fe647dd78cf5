use Rattle.surviving_pages.proofs.Laws.{valid_survives, same_newest}
use Rattle.surviving_pages.proofs.law.where_nothing_is_lost_the_newest_pages_survive.Goals as goal

pub returns-clause-valid : goal.returns-clause-valid
returns-clause-valid c = valid_survives

pub returns-clause-same : goal.returns-clause-same
returns-clause-same c = λ flash o k bytes nothing. same_newest flash nothing o k bytes
