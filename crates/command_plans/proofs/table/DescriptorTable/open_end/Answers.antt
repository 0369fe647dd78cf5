use Rattle.std.proofs.Common.{◌≤◌, ◌-◌, ◌∙◌, sym, arith}
use Rattle.command_plans.proofs.Descriptors.{closed_step}
use Rattle.command_plans.proofs.table.DescriptorTable.open_end.Goals as goal

pub slots-preserved : goal.slots-preserved
slots-preserved c =
    let less : c.slots.end - 1 ≤ c.args.self.now.end = omega (arith, c.slots.invariant.0) in
    (less, closed_step c.args.self.now c.slots.end (sym c.is_closed.ensures ∙ c.if-is_closed.true) c.slots.invariant.1)
