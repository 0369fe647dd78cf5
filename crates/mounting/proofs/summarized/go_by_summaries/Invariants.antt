use Rattle.flash_tree.specs.Places.{numbers_of}
use Rattle.mounting.proofs.Deciding.{decide}
use Rattle.mounting.proofs.summarized.go_by_summaries.Given as goal

abbrev pub ghost-on_trusted : goal.ghost-on_trusted
ghost-on_trusted g a = (decide (g.N.Nand.state a.bounded.device) a.pruned.index (numbers_of a.pruned.numbers) a.bounded.within).0
