use Rattle.mounting.proofs.Listed.{keys_are_footprint, test_keeps_footprint}
use Rattle.mounting.proofs.law.the_tree_looks_up_its_footprint.Goals as goal

pub returns : goal.returns
returns c = record { keys = keys_are_footprint; test = test_keeps_footprint }
