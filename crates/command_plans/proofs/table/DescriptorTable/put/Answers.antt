use Rattle.std.proofs.Common.{arith, refl}
use Rattle.command_plans.proofs.Descriptors.{table_put}
use Rattle.command_plans.proofs.table.DescriptorTable.put.Goals as goal

pub returns-then-fd-lt-DESCRIPTORS-clause-puts : goal.returns-then-fd-lt-DESCRIPTORS-clause-puts
returns-then-fd-lt-DESCRIPTORS-clause-puts c small = table_put c.args.self.now _ c.args.fd c.args.description refl (omega (arith, c.args.self.now.size))
