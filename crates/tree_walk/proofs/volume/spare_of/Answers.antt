use Rattle.std.proofs.Common.{◌≡◌, ◌<◌, ◌≤◌, ◌+◌, ◌⊎◌, Some, None, IfSome, IfNone, subst, rules}
use Rattle.page_tags.specs.declared.header.ObjectKind.TheVariants as kinds
use Rattle.volume_terms.specs.Sizes.{root_number}
use Rattle.tree_walk.specs.Trees.{head_at}
use Rattle.tree_walk.proofs.Rooting.{no_head, is_volume, is_wrong}
use Rattle.tree_walk.proofs.volume.spare_of.Goals as goal

pub returns-in-Some-clause-volume : goal.returns-in-Some-clause-volume
returns-in-Some-clause-volume c = λ m of.
    let head = c.in-Some.head.now in
    let there : head_at c.args.tree.now root_number ≡ Some head = search rules in
    is_volume c.args.geometry m c.args.tree.now of head there c.spare_reported.result
    (subst (λ b. IfSome c.spare_reported.result (λ spare. (head.kind ≡ kinds.Directory) × (head.spare ≡ spare) × (spare + 4 ≤ b))) c.blocks-in-Some.ensures c.spare_reported.ensures.reported)

pub returns-in-Some-clause-none : goal.returns-in-Some-clause-none
returns-in-Some-clause-none c = λ m of.
    let head = c.in-Some.head.now in
    let there : head_at c.args.tree.now root_number ≡ Some head = search rules in
    is_wrong c.args.geometry m c.args.tree.now of head there c.spare_reported.result
    (subst (λ b. IfNone c.spare_reported.result ((head.kind ≡ kinds.File) ⊎ (b < head.spare + 4))) c.blocks-in-Some.ensures c.spare_reported.ensures.none)

pub returns-in-None-clause-none : goal.returns-in-None-clause-none
returns-in-None-clause-none c = λ m of.
    let none : head_at c.args.tree.now root_number ≡ None = search rules in
    absurd (no_head c.args.geometry m c.args.tree.now of none)
