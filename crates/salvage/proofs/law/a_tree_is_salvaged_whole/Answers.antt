use Rattle.pages.specs.Maps.{has}
use Rattle.salvage.proofs.Seeing.{single}
use Rattle.salvage.proofs.Whole.{reaches_all, lists_all, reads_all}
use Rattle.salvage.proofs.law.a_tree_is_salvaged_whole.Goals as goal

pub returns-clause-reached : goal.returns-clause-reached
returns-clause-reached c = λ z m objects within_limit shown. reaches_all z within_limit (has m) (single m) objects shown

pub returns-clause-names : goal.returns-clause-names
returns-clause-names c = λ z m objects within_limit shown. lists_all z within_limit (has m) (single m) objects shown

pub returns-clause-bytes : goal.returns-clause-bytes
returns-clause-bytes c = λ z m objects within_limit shown. reads_all z within_limit (has m) (single m) objects shown
