use Rattle.std.proofs.Common.{ap, subst, is_some}
use Rattle.object_store.specs.Taken.{Takes, taken_in}
use Rattle.object_store.proofs.table_parts.add_object.Goals as goal

pub returns-clause-free : goal.returns-clause-free
returns-clause-free c = λ free. c.take.ensures (taken_in c.args.totaled.now.facts) free
    (subst (Takes (taken_in c.args.totaled.now.facts) (taken_in c.add.new.self.facts)) c.next-number.ensures.is
    (record { here = ap is_some c.add.ensures.puts.here; others = λ k ne. ap is_some (c.add.ensures.puts.others k ne) }))
