-- What holds after the writing of a checkpoint.
use Rattle.std.proofs.Common.{◌≡◌, ◌+◌, ◌<◌, ℕ, false, true, Some, None, Ok, Err, Result, sym, ◌∙◌, ap, subst, arith, inl, inr}
use Rattle.nand_model.specs.Calls.{Device, Lasts}
use Rattle.nand_model.specs.Changes.{Grows}
use Rattle.nand_model.specs.declared.geometry.Geometry.{Geometry}
use Rattle.page_tags.specs.Checks.{check_page}
use Rattle.flash_tree.specs.Checkpoints.{Checkpoint, check_group, check_tag, IsChecked, AddsCheckpoint, ListsTree}
use Rattle.flash_tree.specs.Groups.{Group, SameGroups, AddsGroup, AllThere}
use Rattle.flash_tree.specs.laws.Checking.{none_checked, none_where, ordinary_added, checkpoint_added}
use Rattle.block_state.specs.Table.{Table}
use Rattle.transactions.specs.declared.source.PageName.{PageName}
use Rattle.transactions.specs.declared.source.PageSource.{Ghosts}
use Rattle.transactions.specs.declared.group.Placed.{Placed}
use Rattle.transactions.specs.declared.group.GroupFault.{GroupFault}
use Rattle.transactions.specs.declared.group.GroupFault.TheVariants as faults
use Rattle.transactions.specs.Checking.{WritesCheckpoint, CheckedAfter, LeavesChecked}
use Rattle.transactions.specs.Groups.{next_group, AddsPages, GroupsAfter, Stays, BelowAfter}
use Rattle.transactions.specs.Ready.{IsReady}
use Rattle.transactions.specs.Written.{tag_in}
use Rattle.transactions.specs.laws.Handing.{below_greater}
use Rattle.transactions.proofs.GroupLaws.{same_there}

module _ {T : Type 0} (pages : Ghosts T) (source : T) (d e : Device) (t : Table) (writes : WritesCheckpoint pages source d t) (tree : ListsTree d.geometry d.flash writes.entries) (can_write : IsReady d t) (lasts : Lasts d e)
    (grows : Grows d.flash e.flash) (stays : Stays t d e) (honest : d.honest ≡ true) (below : BelowAfter t writes.block d.flash e.flash) where
  -- the checkpoint that is written
  abbrev written : Checkpoint
  written = record { block = writes.block; size = pages.count source; number = t.next_group; seq = (t.entry writes.block).seq; entries = writes.entries }

  abbrev group : Group
  group = next_group t (pages.count source) writes.block

  abbrev name : ℕ → PageName
  name = pages.name source t.next_group

  same_group : group ≡ check_group written
  same_group = λ i. record { block = writes.block; start = writes.first i; size = pages.count source; number = t.next_group; seq = (t.entry writes.block).seq }

  same_tag : (i : ℕ) → i < pages.count source → tag_in group name i ≡ check_tag written i
  same_tag i lt = ap (λ (n : PageName). record { index = i; count = pages.count source; object = n.key.object; chunk = n.key.chunk; version = n.version; group = t.next_group; seq = (t.entry writes.block).seq }) (writes.names i lt)

  -- its pages are there where the group's are
  all_there : AllThere group (tag_in group name) (pages.bytes source d.flash) e.flash → AllThere (check_group written) (check_tag written) (check_page d.geometry.bytes writes.entries) e.flash
  all_there = same_there group (check_group written) (tag_in group name) (check_tag written) (pages.bytes source d.flash) (check_page d.geometry.bytes writes.entries) e.flash same_group same_tag writes.bytes

  good : e.flash.bad writes.block ≡ false
  good = ap (λ f. f writes.block) stays.bad ∙ (can_write.open_block writes.block writes.open_block).good

  adds : AddsPages group name (pages.bytes source d.flash) d.flash e.flash → AddsCheckpoint d.geometry d.flash e.flash written
  adds added = record {
    grows = grows;
    bads = stays.bad;
    adds = subst (λ (x : Group). AddsGroup x d.flash e.flash) same_group added.group;
    elsewhere = λ k l ne. stays.other_blocks honest k l (λ is. let both : Some writes.block ≡ Some k = sym writes.open_block ∙ is in let here : writes.block ≡ k = cc in ne (sym here));
    whole = record { good = good; size = writes.size; pages = all_there added.pages; entries = writes.each; rise = writes.rise };
    tree = tree;
    apart = writes.apart;
    ordinary = writes.ordinary;
    below = writes.fresh;
    above = below (1 + (t.entry writes.block).seq) (omega arith)
        (below_greater d.flash t.next_group (t.entry writes.block).seq _ _ (omega arith) (omega arith) writes.fresh);
  }

  module _ (checked : IsChecked d.geometry d.flash None) where
    is_whole : AddsPages group name (pages.bytes source d.flash) d.flash e.flash → IsChecked d.geometry e.flash (Some writes.block)
    is_whole added = checkpoint_added d.geometry d.flash e.flash written (adds added) checked

    is_none : SameGroups d.flash e.flash → IsChecked d.geometry e.flash None
    is_none same = ordinary_added d.geometry d.flash e.flash (record { grows = grows; bads = stays.bad; groups = inl same }) checked

    ends : (result : Result Placed GroupFault) → GroupsAfter group name (pages.bytes source d.flash) d.flash e.flash result → CheckedAfter d.geometry e.flash writes.block result
    ends (Ok placed) added = is_whole added
    ends (Err faults.NoRoom) same = is_none same
    ends (Err faults.Failed) same = is_none same
    ends (Err faults.Lost) same = is_none same
    ends (Err faults.Gone) (inl same) = none_checked d.geometry e.flash (none_where d.geometry e.flash (is_none same)) (Some writes.block)
    ends (Err faults.Gone) (inr added) = is_whole added

  -- however it ended, each whole checkpoint is right
  pub checkpoint_written : (result : Result Placed GroupFault) → GroupsAfter group name (pages.bytes source d.flash) d.flash e.flash result → LeavesChecked d e t.open_block result
  checkpoint_written result groups checked b is =
      let both : Some writes.block ≡ Some b = sym writes.open_block ∙ is in
      let here : writes.block ≡ b = cc in
      subst (λ (g : Geometry). CheckedAfter g e.flash b result) (sym lasts.geometry) (subst (λ k. CheckedAfter d.geometry e.flash k result) here (ends checked result groups))
