use Rattle.flash_tree.specs.Summarizing.{IsKey}
use Rattle.flash_tree.specs.laws.Findable.{findable_same, findable_committed}
use Rattle.flash_tree.proofs.summaries.the_same_groups_leave_keys_findable.Goals as goal

pub returns : goal.returns
returns c = record {
  written = λ g old new writes same right o d. findable_same g old new writes.0 writes.1 writes.2 writes.3 right (IsKey o d) same;
  same = λ g old new bad page o d. findable_committed g old new (IsKey o d) bad page;
}
