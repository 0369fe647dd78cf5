use Rattle.std.proofs.Common.{◌≡◌, subst, arith}
use Rattle.command_plans.specs.Tables.{handles_in}
use Rattle.command_plans.proofs.Descriptors.{NoneBesides, none_besides, other_open}
use Rattle.command_plans.proofs.table.DescriptorTable.is_open_besides.Goals as goal

pub returns-then-refers_to : goal.returns-then-refers_to
returns-then-refers_to c = other_open (handles_in c.args.self.now) c.args.fd c.loop-other.other c.args.number c.if-other-fd.true (rw c.if-refers_to.true at c.refers_to.ensures)

pub returns : goal.returns
returns c = none_besides c.args.self.now c.args.fd c.args.number (subst (NoneBesides (handles_in c.args.self.now) c.args.fd c.args.number) (let end : c.loop-other.other ≡ c.args.self.now.end = omega arith in end) c.loop-other.invariant)
