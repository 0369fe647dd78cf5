use Rattle.page_store.proofs.Data.{has_data, are_newest}
use Rattle.page_store.proofs.newest_law.the_opened_pages_are_the_newest.Goals as goal

pub returns-clause-written : goal.returns-clause-written
returns-clause-written c = has_data

pub returns-clause-pages : goal.returns-clause-pages
returns-clause-pages c = are_newest
