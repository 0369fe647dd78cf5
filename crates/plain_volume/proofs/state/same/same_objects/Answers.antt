use Rattle.std.proofs.Common.{◌∙◌}
use Rattle.plain_volume.proofs.Alike.{all_left}
use Rattle.plain_volume.proofs.state.same.same_objects.Goals as goal

pub loop-number-init : goal.loop-number-init
loop-number-init c = all_left c.args.objects.now c.args.others.now _ _ (c.into_iter-number-iterator.ensures.into_iter_gives ∙ c.iter-number-items.ensures.rest) c.iter-rest.ensures.rest c.iter-number-items.ensures.ordered c.iter-rest.ensures.ordered
