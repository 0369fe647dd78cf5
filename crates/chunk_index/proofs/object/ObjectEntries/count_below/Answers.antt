use Rattle.chunk_index.specs.Entries.{chunk}
use Rattle.chunk_index.proofs.Finding.{ends_at}
use Rattle.chunk_index.proofs.object.ObjectEntries.count_below.Goals as goal

pub returns-in-Ok : goal.returns-in-Ok
returns-in-Ok c = ends_at chunk _ c.args.self.now.rises c.args.number _ c.in-Ok.ensures.found
