use Rattle.plain_volume.proofs.Alike.{SameLeft}
use Rattle.plain_volume.proofs.state.same.same_objects.Given as goal

-- what is left is the same exactly where the maps are
abbrev pub invariant-loop-number : goal.invariant-loop-number
invariant-loop-number l = SameLeft l.objects l.others l.number-iterator l.rest
