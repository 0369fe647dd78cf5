use Rattle.std.proofs.Common.{sym, ◌∙◌}
use Rattle.chunk_index.proofs.InPlace.{settles_staying, settles_going, going_there}
use Rattle.chunk_index.proofs.object.ObjectEntries.settle_chunk.Goals as goal

pub remove-requires : goal.remove-requires
remove-requires c = going_there c.args.group c.args.number _ _ c.settle.ensures.alters (sym c.settle.ensures.goes ∙ c.if-settle.true)

pub returns-then-settle-clause-alters : goal.returns-then-settle-clause-alters
returns-then-settle-clause-alters c = settles_going c.args.group c.args.number _ _ c.settle.ensures.alters _ (sym c.settle.ensures.goes ∙ c.if-settle.true) c.remove.ensures

pub returns-else-settle-clause-alters : goal.returns-else-settle-clause-alters
returns-else-settle-clause-alters c = settles_staying c.args.group c.args.number _ _ c.settle.ensures.alters (sym c.settle.ensures.goes ∙ c.if-settle.false)
