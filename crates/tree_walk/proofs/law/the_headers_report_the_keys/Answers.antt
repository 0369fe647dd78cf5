use Rattle.tree_walk.proofs.Looking.{keys_are_reported}
use Rattle.tree_walk.proofs.law.the_headers_report_the_keys.Goals as goal

pub returns : goal.returns
returns c = keys_are_reported
