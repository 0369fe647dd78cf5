use Rattle.std.proofs.Common.{◌≤◌, ◌<◌, ◌∙◌, length, sym, ap, arith, None}
use Rattle.std.specs.Option.{option_map}
use Rattle.std.proofs.lemmas.List.{get_or_default}
use Rattle.std.proofs.Math.ListN.{get_or-eq_default}
use Rattle.command_plans.specs.Tables.{handle_of}
use Rattle.command_plans.proofs.Descriptors.{table_get}
use Rattle.command_plans.proofs.table.DescriptorTable.get.Goals as goal

pub returns-then-fd-lt-DESCRIPTORS : goal.returns-then-fd-lt-DESCRIPTORS
returns-then-fd-lt-DESCRIPTORS c =
    let low : c.args.fd < length c.args.self.now.slots.items = omega (arith, c.args.self.now.size, c.if-fd-lt-DESCRIPTORS.true) in
    ap (option_map handle_of) (c.index.ensures ∙ get_or_default c.args.self.now.slots.items c.args.fd c.index.result.now None low) ∙ table_get c.args.self.now c.args.fd

pub returns-else-fd-lt-DESCRIPTORS : goal.returns-else-fd-lt-DESCRIPTORS
returns-else-fd-lt-DESCRIPTORS c =
    let past : length c.args.self.now.slots.items ≤ c.args.fd = omega (arith, c.args.self.now.size, c.if-fd-lt-DESCRIPTORS.false) in
    sym (ap (option_map handle_of) (get_or-eq_default c.args.self.now.slots.items None past)) ∙ table_get c.args.self.now c.args.fd
