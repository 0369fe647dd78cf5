use Rattle.std.proofs.Common.{◌≡◌, true, false, refl, rules}
use Rattle.std.specs.BTreeSet as set
use Rattle.std.specs.Ordering.{nat_cmp}
use Rattle.tree_walk.proofs.Putting.{put_new, put_again}
use Rattle.tree_walk.proofs.walking.WalkState.put.Goals as goal

pub returns-then-not-branch-clause-puts : goal.returns-then-not-branch-clause-puts
returns-then-not-branch-clause-puts c =
    let on : set.contains nat_cmp c.args.self.now.known c.args.object ≡ true = search rules in
    let known : c.insert.new.self.keys ≡ c.args.self.now.known.keys = search rules in
    put_again c.args.object c.args.self.now _ c.requires on refl known c.in_ok-insert-2.ensures.updates refl refl

pub returns-clause-puts : goal.returns-clause-puts
returns-clause-puts c =
    let off : set.contains nat_cmp c.args.self.now.known c.args.object ≡ false = search rules in
    put_new c.args.object c.args.self.now _ c.requires off c.in_ok-push.ensures.items c.in_ok-insert.ensures.updates refl refl refl
