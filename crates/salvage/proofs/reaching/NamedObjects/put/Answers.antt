use Rattle.std.proofs.Common.{◌≡◌, true, false, refl, rules}
use Rattle.std.specs.BTreeSet as set
use Rattle.std.specs.Ordering.{nat_cmp}
use Rattle.salvage.proofs.Going.{put_new, put_again}
use Rattle.salvage.proofs.reaching.NamedObjects.put.Goals as goal

pub returns-then-not-branch-clause-puts : goal.returns-then-not-branch-clause-puts
returns-then-not-branch-clause-puts c =
    let on : set.contains nat_cmp c.args.self.now.known c.args.object ≡ true = search rules in
    let known : c.insert.new.self.keys ≡ c.args.self.now.known.keys = search rules in
    put_again c.args.object c.args.self.now _ c.requires on refl known

pub returns-clause-puts : goal.returns-clause-puts
returns-clause-puts c =
    let off : set.contains nat_cmp c.args.self.now.known c.args.object ≡ false = search rules in
    put_new c.args.object c.args.self.now _ c.requires off c.in_ok-push.ensures.items c.in_ok-insert.ensures.updates
