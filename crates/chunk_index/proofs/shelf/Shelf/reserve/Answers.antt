use Rattle.chunk_index.proofs.Shelving.{same_on}
use Rattle.chunk_index.proofs.shelf.Shelf.reserve.Goals as goal

pub returns : goal.returns
returns c = same_on c.prepare_object.ensures.same c.reserve_entries.ensures
