use Rattle.std.proofs.Common.{◌≤◌}
use Rattle.command_plans.proofs.Descriptors.{ClosedFrom}
use Rattle.command_plans.proofs.table.DescriptorTable.open_end.Given as goal

-- all are closed from this one on
abbrev pub invariant-slots : goal.invariant-slots
invariant-slots l = (l.end ≤ l.self.end) × ClosedFrom l.self.slots.items l.end

abbrev pub decreases-slots : goal.decreases-slots
decreases-slots l = l.end
