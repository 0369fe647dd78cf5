use Rattle.std.proofs.Common.{sym, ap, ◌∙◌, is_some}
use Rattle.object_store.specs.Taken.{taken_in}
use Rattle.object_store.proofs.table_parts.drop_object.Goals as goal

pub returns-then-remove-clause-free : goal.returns-then-remove-clause-free
returns-then-remove-clause-free c = λ free.
    c.give_back.ensures (taken_in c.args.totaled.now.facts) (taken_in c.remove.new.self.facts) free
    (record { was = sym c.remove.ensures.was ∙ c.if-remove.true; here = ap is_some c.remove.ensures.drops.here; others = λ k ne. ap is_some (c.remove.ensures.drops.others k ne) })
