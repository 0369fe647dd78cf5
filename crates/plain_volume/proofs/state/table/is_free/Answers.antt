use Rattle.std.proofs.Common.{◌∙◌, sym, ap, not}
use Rattle.plain_volume.specs.laws.PlainState.{has_object_is}
use Rattle.plain_volume.proofs.state.table.is_free.Goals as goal

pub returns : goal.returns
returns c = ap not (c.contains_key.ensures ∙ sym (has_object_is c.args.objects.now c.args.number))
