use Rattle.std.proofs.Common.{refl, false}
use Rattle.chunk_index.proofs.Noting.{none_noted}
use Rattle.chunk_index.proofs.changes.ChangeList.clear.Goals as goal

pub returns : goal.returns
returns c = none_noted c.clear.new.self.items c.clear-2.new.self.items false c.clear.ensures.items c.clear-2.ensures.items refl
