use Rattle.mounting.proofs.Footprints.{footprint_holds, tree_settled}
use Rattle.mounting.proofs.law.the_footprint_holds_the_tree.Goals as goal

pub returns-clause-holds : goal.returns-clause-holds
returns-clause-holds c = footprint_holds

pub returns-clause-forest : goal.returns-clause-forest
returns-clause-forest c = λ z m objects shown. shown.tree.forest

pub returns-clause-settled : goal.returns-clause-settled
returns-clause-settled c = tree_settled
