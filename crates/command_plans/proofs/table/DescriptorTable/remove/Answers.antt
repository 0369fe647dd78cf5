use Rattle.std.proofs.Common.{◌≤◌, length, arith, refl, None}
use Rattle.std.proofs.Math.ListN.{get_or-eq_default}
use Rattle.command_plans.proofs.Descriptors.{table_remove, table_past}
use Rattle.command_plans.proofs.table.DescriptorTable.remove.Goals as goal

pub returns-then-fd-lt-DESCRIPTORS : goal.returns-then-fd-lt-DESCRIPTORS
returns-then-fd-lt-DESCRIPTORS c = table_remove c.args.self.now _ c.args.fd refl (omega (arith, c.args.self.now.size, c.if-fd-lt-DESCRIPTORS.true))

pub returns-else-fd-lt-DESCRIPTORS : goal.returns-else-fd-lt-DESCRIPTORS
returns-else-fd-lt-DESCRIPTORS c =
    let past : length c.args.self.now.slots.items ≤ c.args.fd = omega (arith, c.args.self.now.size, c.if-fd-lt-DESCRIPTORS.false) in
    table_past c.args.self.now c.args.fd (get_or-eq_default c.args.self.now.slots.items None past)
