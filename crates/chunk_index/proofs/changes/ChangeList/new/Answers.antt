use Rattle.std.proofs.Common.{refl, false}
use Rattle.chunk_index.proofs.Noting.{none_noted}
use Rattle.chunk_index.proofs.changes.ChangeList.new.Goals as goal

pub returns : goal.returns
returns c = none_noted c.new.result.items c.new-2.result.items false c.new.ensures.items c.new-2.ensures.items refl
