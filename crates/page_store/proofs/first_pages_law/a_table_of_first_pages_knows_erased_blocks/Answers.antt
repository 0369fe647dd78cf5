use Rattle.page_store.proofs.KnowingFirsts.{tracks_erased}
use Rattle.page_store.proofs.first_pages_law.a_table_of_first_pages_knows_erased_blocks.Goals as goal

pub returns : goal.returns
returns c = tracks_erased
