use Rattle.command_plans.specs.Tables.{handles_in}
use Rattle.command_plans.proofs.Descriptors.{NoneBesides}
use Rattle.command_plans.proofs.table.DescriptorTable.is_open_besides.Given as goal

-- none so far
abbrev pub invariant-loop-other : goal.invariant-loop-other
invariant-loop-other l = NoneBesides (handles_in l.self) l.fd l.number l.other
