use Rattle.std.proofs.Common.{◌∷◌}
use Rattle.port_nand.specs.Calls.{call}
use Rattle.port_nand.proofs.calls.Calls.with.Given as goal

abbrev pub ghost-chosen : goal.ghost-chosen
ghost-chosen a = call a.request a.bytes.now a.answer ∷ a.self.now.list
