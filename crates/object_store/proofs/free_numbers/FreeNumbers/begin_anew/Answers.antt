use Rattle.object_store.proofs.Free.{anew_knows}
use Rattle.object_store.proofs.free_numbers.FreeNumbers.begin_anew.Goals as goal

pub returns : goal.returns
returns c = λ before after knows gives.
    anew_knows _ before after c.args.number _ c.clear.ensures.items (c.next.ensures.least before knows) gives c.requires c.min-self.ensures
