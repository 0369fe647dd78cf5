use Rattle.object_store.proofs.Building.{counts_same}
use Rattle.object_store.proofs.table_builder.TableBuilder.make_room.Goals as goal

pub returns-clause-same : goal.returns-clause-same
returns-clause-same c = λ objects builds. counts_same c.args.self.now.totaled c.make_room.new.self objects c.make_room.ensures.same builds
