use Rattle.std.proofs.Common.{◌≡◌, subst, arith}
use Rattle.command_plans.specs.Tables.{handles_in}
use Rattle.command_plans.proofs.Descriptors.{NoneBelow, none_open}
use Rattle.command_plans.proofs.table.DescriptorTable.is_open.Goals as goal

pub returns-then-refers_to : goal.returns-then-refers_to
returns-then-refers_to c = let is = rw c.if-refers_to.true at c.refers_to.ensures in (c.loop-fd.fd, is.0, is.1, is.2)

pub returns : goal.returns
returns c = none_open c.args.self.now c.args.number (subst (NoneBelow (handles_in c.args.self.now) c.args.number) (let end : c.loop-fd.fd ≡ c.args.self.now.end = omega arith in end) c.loop-fd.invariant)
