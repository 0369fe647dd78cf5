use Rattle.std.proofs.Common.{Some, refl, arith}
use Rattle.name_index.proofs.Running.{on_err}
use Rattle.name_index.proofs.Naming.{updated, first_name, unchanged}
use Rattle.name_index.proofs.index.NameIndex.add_first.Goals as goal

pub returns-in_err-insert-clause-err : goal.returns-in_err-insert-clause-err
returns-in_err-insert-clause-err c = on_err c.from_residual.result (unchanged _ _ refl)

pub returns-in_err-insert-2-clause-err : goal.returns-in_err-insert-2-clause-err
returns-in_err-insert-2-clause-err c = on_err c.from_residual-in_err-insert-2.result (unchanged _ _ c.in_err-insert-2.ensures.err)

pub returns-clause-ok : goal.returns-clause-ok
returns-clause-ok c =
    first_name _ _ c.args.directory c.args.hash c.args.slot (omega (arith, c.ranges.slot)) c.new-numbers.result c.insert.new.self c.requires
    (updated c.args.directory (Some c.insert.new.self) c.args.self.now.directories c.insert-2.new.self c.in_ok-insert-2.ensures.updates) c.new-numbers.ensures (rw (← c.pack.ensures) c.in_ok-insert.ensures.ok)
