use Rattle.std.proofs.Common.{sym, ◌∙◌}
use Rattle.plain_volume.specs.laws.PlainState.{get_object, mapped_copied}
use Rattle.plain_volume.specs.PlainState.{object_of}
use Rattle.plain_volume.proofs.state.table.object_at.Goals as goal

pub returns : goal.returns
returns c = mapped_copied object_of c.get.result _ c.get.ensures.value ∙ sym (get_object c.args.objects.now c.args.number)
