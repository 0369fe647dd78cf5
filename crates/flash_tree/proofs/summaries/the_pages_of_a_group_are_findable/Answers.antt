use Rattle.flash_tree.specs.laws.Findable.{named_findable, unnamed_findable}
use Rattle.flash_tree.proofs.summaries.the_pages_of_a_group_are_findable.Goals as goal

pub returns : goal.returns
returns c = record {
  named = λ g x tag old new added o d i names renews. named_findable g x tag added.bytes old new added.named added.right o d i names renews;
  other = λ g x tag old new added o d other. unnamed_findable g x tag added.bytes old new added.named added.right o d other;
}
