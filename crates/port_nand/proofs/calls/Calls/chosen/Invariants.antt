use Rattle.port_nand.proofs.calls.Calls.chosen.Given as goal

abbrev pub ghost-noted : goal.ghost-noted
ghost-noted g a = g.list
