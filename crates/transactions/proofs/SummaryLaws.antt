-- What holds after the writing of a block summary.
use Rattle.std.proofs.Common.{◌≡◌, ◌⊎◌, ◌+◌, ◌<◌, ℕ, List, false, true, None, Ok, Err, Result, sym, ◌∙◌, ap, subst, arith, inl, inr}
use Rattle.nand_model.specs.Flash.{Flash}
use Rattle.nand_model.specs.Calls.{Device, Lasts}
use Rattle.nand_model.specs.declared.geometry.Geometry.{Geometry}
use Rattle.page_tags.specs.declared.tag.Tag.{Tag}
use Rattle.flash_tree.specs.Checkpoints.{Checkpoint, check_group, check_tag, IsWhole, IsChecked}
use Rattle.flash_tree.specs.Groups.{Group, HasTag, IsGroup, IsPart, SameGroups, AddsGroup, AllThere}
use Rattle.flash_tree.specs.laws.Checking.{first_tag as checkpoint_tag, group_whole, none_checked, none_where}
use Rattle.flash_tree.specs.laws.Newest.{one_tag, tag_grows}
use Rattle.flash_tree.specs.laws.SameSummary.{first_tag}
use Rattle.flash_tree.specs.laws.Summarizing.{right_summary}
use Rattle.flash_tree.specs.Slots.{check_object}
use Rattle.flash_tree.specs.Summaries.{summary_chunk, Summary, summary_group, summary_tag, summary_page, IsWholeSummary, AreSummariesRight}
use Rattle.flash_tree.specs.Summarizing.{WritesIn, AddsSummary}
use Rattle.flash_tree.specs.Truth.{KeepsTrue}
use Rattle.block_state.specs.Table.{Table}
use Rattle.transactions.specs.declared.source.PageName.{PageName}
use Rattle.transactions.specs.declared.source.PageSource.{Ghosts}
use Rattle.transactions.specs.declared.group.Placed.{Placed}
use Rattle.transactions.specs.declared.group.GroupFault.{GroupFault}
use Rattle.transactions.specs.declared.group.GroupFault.TheVariants as faults
use Rattle.transactions.specs.Groups.{next_group, AddsPages, GroupsAfter, Stays, WritesOpen}
use Rattle.transactions.specs.Ready.{IsReady}
use Rattle.transactions.specs.SummaryWriting.{WritesSummary}
use Rattle.transactions.specs.Written.{tag_in}
use Rattle.transactions.proofs.GroupLaws.{same_there}

-- ---- the group that is written is that of the summary

module _ {T : Type 0} (pages : Ghosts T) (source : T) (d e : Device) (t : Table) (writes : WritesSummary pages source d t) (can_write : IsReady d t)
    (within : WritesOpen t d.flash e.flash) (stays : Stays t d e) where
  abbrev written : Summary
  written = writes.summary

  abbrev group : Group
  group = next_group t (pages.count source) written.block

  abbrev name : ℕ → PageName
  name = pages.name source t.next_group

  abbrev bytes : ℕ → List ℕ
  bytes = pages.bytes source d.flash

  same_group : group ≡ summary_group written
  same_group =
      let size : pages.count source ≡ written.size = sym writes.size in
      let number : t.next_group ≡ written.number = sym writes.number in
      let seq : (t.entry written.block).seq ≡ written.seq = sym writes.seq in
      λ i. record { block = written.block; start = writes.first i; size = size i; number = number i; seq = seq i }

  same_tag : (i : ℕ) → i < pages.count source → tag_in group name i ≡ summary_tag written i
  same_tag i lt =
      let size : pages.count source ≡ written.size = sym writes.size in
      let number : t.next_group ≡ written.number = sym writes.number in
      let seq : (t.entry written.block).seq ≡ written.seq = sym writes.seq in
      let object : (name i).key.object ≡ check_object = ap (λ (n : PageName). n.key.object) (writes.names i lt) in
      let chunk : (name i).key.chunk ≡ summary_chunk + i = ap (λ (n : PageName). n.key.chunk) (writes.names i lt) in
      let version : (name i).version ≡ written.number = ap (λ (n : PageName). n.version) (writes.names i lt) ∙ number in
      λ j. record { index = i; count = size j; object = object j; chunk = chunk j; version = version j; group = number j; seq = seq j }

  -- its pages are there where the group's are
  all_there : AllThere group (tag_in group name) bytes e.flash → AllThere (summary_group written) (summary_tag written) (summary_page d.geometry.bytes written) e.flash
  all_there = same_there group (summary_group written) (tag_in group name) (summary_tag written) bytes (summary_page d.geometry.bytes written) e.flash same_group same_tag writes.bytes

  good : e.flash.bad written.block ≡ false
  good = ap (λ f. f written.block) stays.bad ∙ (can_write.open_block written.block writes.open_block).good

  adds : AddsPages group name bytes d.flash e.flash → AddsGroup (summary_group written) d.flash e.flash × IsWholeSummary d.geometry e.flash written
  adds added = (
    subst (λ (x : Group). AddsGroup x d.flash e.flash) same_group added.group,
    record { good = good; form = writes.form; pages = all_there added.pages },
  )

  ends : (result : Result Placed GroupFault) → GroupsAfter group name bytes d.flash e.flash result
      → SameGroups d.flash e.flash ⊎ (AddsGroup (summary_group written) d.flash e.flash × IsWholeSummary d.geometry e.flash written)
  ends (Ok placed) added = inr (adds added)
  ends (Err faults.NoRoom) same = inl same
  ends (Err faults.Failed) same = inl same
  ends (Err faults.Lost) same = inl same
  ends (Err faults.Gone) (inl same) = inl same
  ends (Err faults.Gone) (inr added) = inr (adds added)

  -- however it ended, the group that is added, if one is, is that summary
  pub summary_written : (result : Result Placed GroupFault) → GroupsAfter group name bytes d.flash e.flash result → AddsSummary d.geometry d.flash e.flash written
  summary_written result groups = record {
    writes = subst (λ (x : Group). WritesIn x.block x.number x.seq d.flash e.flash) same_group (within.within written.block writes.open_block);
    lists = writes.lists;
    groups = ends result groups;
  }

-- ---- checkpoints

module _ (g : Geometry) (old new : Flash) (s : Summary) (added : AddsSummary g old new s) where
  -- a checkpoint whose group was valid before was whole
  was_whole : (c : Checkpoint) → IsWhole g new c → IsGroup old (check_group c) → IsWhole g old c
  was_whole c whole was = record {
    good = was.good;
    size = whole.size;
    pages = λ i lt.
        let part : IsPart old (check_group c) i = was.each i lt in
        (sym (tag_grows old new added.writes.grows c.block (0 + i) part.tag part.has) ∙ (whole.pages i lt).0, (whole.pages i lt).1);
    entries = whole.entries;
    rise = whole.rise;
  }

  -- the group of a summary is not that of a checkpoint
  not_summary : (c : Checkpoint) → IsWhole g new c → IsWholeSummary g new s → check_group c ≡ summary_group s → ⊥
  not_summary c whole it is =
      let block : c.block ≡ s.block = ap (λ (x : Group). x.block) is in
      let tag : check_tag c 0 ≡ summary_tag s 0 = one_tag new s.block 0 (check_tag c 0) (summary_tag s 0) (subst (λ k. HasTag new k 0 (check_tag c 0)) block (checkpoint_tag g new c whole)) (first_tag g new s it) in
      let chunk : 1 + 0 ≡ summary_chunk + 0 = ap (λ (x : Tag). x.chunk) tag in
      absurd (omega (arith, chunk))

  -- so where no checkpoint was whole none is
  pub none_summary : IsChecked g old None → IsChecked g new None
  none_summary checked = none_checked g new (λ c whole. elim added.groups [
    | inl same ↦ none_where g old checked c (was_whole c whole ((same (check_group c)).0 (group_whole g new c whole)))
    | inr (adds, it) ↦ elim ((adds (check_group c)).0 (group_whole g new c whole)) [
      | inl was ↦ none_where g old checked c (was_whole c whole was)
      | inr is ↦ not_summary c whole it is
    ]
  ]) None

-- while a block is open, a summary that is added keeps checkpoints and summaries right
pub true_summary : (d e : Device) (t u : Table) → Lasts d e → u.checkpoint ≡ t.checkpoint → (d.honest ≡ true → t.checkpoint ≡ None)
    → (d.honest ≡ true → (s : Summary) × AddsSummary d.geometry d.flash e.flash s) → KeepsTrue d e t.checkpoint u.checkpoint
true_summary d e t u lasts same none adds = record {
  noted = λ k is. sym same ∙ is;
  checked = λ honest is.
      let added = adds honest in
      let before : IsChecked d.geometry d.flash None = subst (IsChecked d.geometry d.flash) (none honest) is in
      let after : IsChecked d.geometry e.flash None = none_summary d.geometry d.flash e.flash added.0 added.1 before in
      subst (IsChecked e.geometry e.flash) (sym (same ∙ none honest)) (subst (λ (g : Geometry). IsChecked g e.flash None) (sym lasts.geometry) after);
  summaries = λ honest right.
      let added = adds honest in
      subst (λ (g : Geometry). AreSummariesRight g e.flash) (sym lasts.geometry) (right_summary d.geometry d.flash e.flash added.0 added.1 right);
}
