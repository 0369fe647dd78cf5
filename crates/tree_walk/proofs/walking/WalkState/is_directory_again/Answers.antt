use Rattle.std.proofs.Common.{◌≡◌, sym, rules}
use Rattle.page_tags.specs.declared.header.ObjectKind.TheVariants as kinds
use Rattle.tree_walk.specs.Walks.{HasAgain}
use Rattle.tree_walk.proofs.walking.WalkState.is_directory_again.Goals as goal

pub returns-in-Some-clause-is : goal.returns-in-Some-clause-is
returns-in-Some-clause-is c = λ on.
    let again : HasAgain c.args.self.now c.args.object = search rules in
    let kind : c.in-Some.head.now.kind ≡ kinds.Directory = search rules in
    (c.in-Some.head.now, again, sym c.in-Some.ensures.value, kind)
