use Rattle.std.proofs.Common.{◌∙◌, ap}
use Rattle.command_plans.specs.Tables.{handles_in, handles_from}
use Rattle.command_plans.proofs.table.DescriptorTable.copy.Goals as goal

pub returns : goal.returns
unfolding handles_in
returns c = ap (handles_from 0) (c.in_ok-slots.ensures.items ∙ c.deref.ensures.value)
