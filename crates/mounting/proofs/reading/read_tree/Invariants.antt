use Rattle.std.proofs.Common.{true}
use Rattle.mounting.proofs.reading.read_tree.Given as goal

abbrev pub ghost-go_through : goal.ghost-go_through
ghost-go_through g a = true
