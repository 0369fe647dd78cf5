use Rattle.surviving_pages.proofs.Laws.{has_data, same_data}
use Rattle.surviving_pages.proofs.law.the_surviving_pages_have_data.Goals as goal

pub returns-clause-written : goal.returns-clause-written
returns-clause-written c = has_data

pub returns-clause-pages : goal.returns-clause-pages
returns-clause-pages c = same_data
