use Rattle.std.proofs.Common.{Some, ap, ◌∙◌, refl, option_map}
use Rattle.std.specs.FinMap as map
use Rattle.object_store.specs.TableFacts.{reported_info}
use Rattle.object_store.specs.Reported.{reported, table_sizes}
use Rattle.object_store.proofs.Reporting.{info_is}
use Rattle.object_store.proofs.table.ObjectTable.info.Goals as goal

pub returns-in-Some : goal.returns-in-Some
returns-in-Some c = λ objects reports forest.
    ap Some c.info.ensures ∙ ap (option_map (reported_info c.args.number)) c.in-Some.ensures
    ∙ info_is (table_sizes c.args.self.now) objects c.args.number (map.get objects c.args.number) (reported c.args.self.now c.args.number) forest refl (reports.each c.args.number)

pub returns-in-None : goal.returns-in-None
returns-in-None c = λ objects reports forest.
    ap (option_map (reported_info c.args.number)) c.in-None.ensures
    ∙ info_is (table_sizes c.args.self.now) objects c.args.number (map.get objects c.args.number) (reported c.args.self.now c.args.number) forest refl (reports.each c.args.number)
