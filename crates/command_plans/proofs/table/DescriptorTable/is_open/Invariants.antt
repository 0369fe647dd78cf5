use Rattle.command_plans.specs.Tables.{handles_in}
use Rattle.command_plans.proofs.Descriptors.{NoneBelow}
use Rattle.command_plans.proofs.table.DescriptorTable.is_open.Given as goal

-- none so far
abbrev pub invariant-loop-fd : goal.invariant-loop-fd
invariant-loop-fd l = NoneBelow (handles_in l.self) l.number l.fd
