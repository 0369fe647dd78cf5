use Rattle.std.proofs.Common.{sym, subst}
use Rattle.volume_terms.specs.Sizes.{Sizes}
use Rattle.tree_walk.specs.Building.{IsShown}
use Rattle.tree_walk.proofs.table_making.table.Goals as goal

pub returns-clause-reports : goal.returns-clause-reports
returns-clause-reports c = λ m objects sizes of shows fit.
    let shown = subst (λ (z : Sizes). IsShown z m c.args.tree.now objects) (sym c.new-builder.ensures.size) (record { sizes = sizes; tree_of = of; shows = shows; fit = fit }) in
    let part = c.in_ok-insert_objects.ensures.builds m objects shown c.new-builder.ensures.builds in
    let still = subst (λ (z : Sizes). IsShown z m c.args.tree.now objects) (sym c.in_ok-insert_objects.ensures.size) shown in
    c.finish.ensures.reports objects (c.insert_names.ensures.builds m objects still part)
