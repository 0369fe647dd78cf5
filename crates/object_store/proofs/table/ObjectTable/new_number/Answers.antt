use Rattle.object_store.specs.Taken.{taken_in}
use Rattle.object_store.specs.Reported.{reported}
use Rattle.object_store.proofs.Free.{next_is_new}
use Rattle.object_store.proofs.table.ObjectTable.new_number.Goals as goal

pub returns : goal.returns
returns c = λ objects reports. next_is_new objects (reported c.args.self.now) c.next.result reports.each (c.next.ensures.least (taken_in c.args.self.now.totaled.facts) c.args.self.now.free)
