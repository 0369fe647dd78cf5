use Rattle.std.proofs.Common.{◌<◌, rules}
use Rattle.std.proofs.lemmas.List.Elements.{All-from_get_or}
use Rattle.command_plans.proofs.stamp.are_bytes.Goals as goal

pub returns : goal.returns
returns c = All-from_get_or (λ b. b < 256) c.args.bytes.now 0 (λ i lt. search (rules, c.type_inv.bytes i))
