use Rattle.std.proofs.Common.{◌≡◌, ◌++◌, List, ℕ, refl, subst}
use Rattle.tree_walk.specs.Trees.{named_in}
use Rattle.tree_walk.specs.Walks.{Puts}
use Rattle.tree_walk.proofs.Putting.{visits}
use Rattle.tree_walk.proofs.walking.WalkState.take.Goals as goal

pub returns-clause-takes : goal.returns-clause-takes
returns-clause-takes c =
    visits c.args.object c.args.visited c.args.self.now c.put_all.new.self _ (subst (λ (xs : List ℕ). Puts xs c.args.self.now c.put_all.new.self) c.deref.ensures.value c.in_ok-put_all.ensures.puts) refl refl refl c.in_ok-insert.ensures.updates
    (subst (λ (xs : List ℕ). c.put_names.new.names.items ≡ c.put_all.new.self.names.items ++ named_in c.args.object xs) c.deref-2.ensures.value c.in_ok-put_names.ensures.puts)
