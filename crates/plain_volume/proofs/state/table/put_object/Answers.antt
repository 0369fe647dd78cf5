use Rattle.plain_volume.specs.laws.PlainState.{insert_object}
use Rattle.plain_volume.proofs.state.table.put_object.Goals as goal

pub returns : goal.returns
returns c = insert_object c.args.objects.now c.insert.new.self c.args.number c.args.object c.insert.ensures.was_ordered c.insert.ensures.ordered c.in_ok-insert.ensures.entries
