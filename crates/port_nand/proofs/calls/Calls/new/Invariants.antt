use Rattle.std.proofs.Common.{[]}
use Rattle.port_nand.proofs.calls.Calls.new.Given as goal

abbrev pub ghost-noted : goal.ghost-noted
ghost-noted a = []
