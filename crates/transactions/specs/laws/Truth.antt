-- What keeps the checkpoints and summaries of a device right.
use Rattle.std.specs.Prelude.{◌≡◌, ◌≢◌, ◌<◌, ℕ, true, if◌then◌else◌, List, Option, Some, None, Result, Ok, Err}
use Rattle.std.proofs.Common.{sym, ◌∙◌, ap, subst, inl, inr, arith}
use Rattle.std.proofs.lemmas.Bool.{cases_Bool}
use Rattle.nand_model.specs.Flash.{Flash, Erased, Written}
use Rattle.nand_model.specs.Calls.{Device, Lasts, Erases, Marks}
use Rattle.nand_model.specs.Changes.{Grows}
use Rattle.nand_model.specs.laws.Changes.{shrinks-erase}
use Rattle.nand_model.specs.declared.geometry.Geometry.{Geometry}
use Rattle.nand_model.specs.declared.nand.EraseFault.{EraseFault}
use Rattle.nand_model.specs.declared.nand.Gone.{Gone}
use Rattle.page_tags.specs.declared.tag.Tag.{Tag}
use Rattle.page_tags.specs.Tags.{tag_bytes}
use Rattle.flash_tree.specs.Checkpoints.{IsChecked, HasNothing, AddsOrdinary}
use Rattle.flash_tree.specs.Fading.{Fades}
use Rattle.flash_tree.specs.Groups.{HasTag, Group}
use Rattle.flash_tree.specs.Slots.{check_object}
use Rattle.flash_tree.specs.laws.Checking.{none_faded, checked_faded, none_left, ordinary_added}
use Rattle.flash_tree.specs.laws.Fading.{fades_erase, fades_mark}
use Rattle.flash_tree.specs.laws.Newest.{one_tag}
use Rattle.flash_tree.specs.laws.Summarizing.{right_faded}
use Rattle.flash_tree.specs.Summaries.{AreSummariesRight, BeginsSummary}
use Rattle.flash_tree.specs.Summarizing.{AddsNoSummary}
use Rattle.block_state.specs.Table.{Table, other_than}
use Rattle.block_state.specs.laws.Checkpoint.{other_than_it}
use Rattle.transactions.specs.declared.source.PageName.{PageName}
use Rattle.transactions.specs.declared.group.Placed.{Placed}
use Rattle.transactions.specs.declared.group.GroupFault.{GroupFault}
use Rattle.transactions.specs.declared.group.GroupFault.TheVariants as faults
use Rattle.transactions.specs.Groups.{AddsPages, GroupsAfter}
use Rattle.flash_tree.specs.Truth.{KeepsTrue}
use Rattle.transactions.specs.Marking.{NotesMark}
use Rattle.transactions.specs.Naming.{AreOrdinary, BeginsOther}
use Rattle.transactions.specs.Opening.{MayLose}
use Rattle.transactions.specs.Written.{tag_in}

-- ---- the truth, over a call

-- another table, and a device of the same sizes and flash
moved : (g h : Geometry) (f : Flash) (x y : Option ℕ) → h ≡ g → y ≡ x → IsChecked g f x → IsChecked h f y
moved g h f x y sizes same checked = subst (λ k. IsChecked k f y) (sym sizes) (subst (IsChecked g f) (sym same) checked)

-- another table with the same block
pub true_noted : (a b : Device) (t u v : Table) → v.checkpoint ≡ u.checkpoint → KeepsTrue a b t.checkpoint u.checkpoint → KeepsTrue a b t.checkpoint v.checkpoint
true_noted a b t u v same keeps = record {
  noted = λ k is. keeps.noted k (sym same ∙ is);
  checked = λ honest is. subst (IsChecked b.geometry b.flash) (sym same) (keeps.checked honest is);
  summaries = keeps.summaries;
}

module _ (b : ℕ) (old new : Device) (t u : Table) (lasts : Lasts old new) (first : MayLose b t) (fades : old.honest ≡ true → Fades b old.flash new.flash) where
  right_left : old.honest ≡ true → AreSummariesRight old.geometry old.flash → AreSummariesRight new.geometry new.flash
  right_left honest right = subst (λ (g : Geometry). AreSummariesRight g new.flash) (sym lasts.geometry) (right_faded old.geometry b old.flash new.flash (fades honest) right)

  -- a block fades that may have the checkpoint
  pub true_faded : u.checkpoint ≡ t.checkpoint → KeepsTrue old new t.checkpoint u.checkpoint
  true_faded same = record {
    noted = λ k is. sym same ∙ is;
    checked = λ honest is. elim first [
      | inl none ↦ moved _ _ _ None _ lasts.geometry (same ∙ none) (none_faded old.geometry b old.flash new.flash (fades honest) (subst (IsChecked old.geometry old.flash) none is))
      | inr here ↦ moved _ _ _ (Some b) _ lasts.geometry (same ∙ here) (checked_faded old.geometry b old.flash new.flash (fades honest) (subst (IsChecked old.geometry old.flash) here is))
    ];
    summaries = right_left;
  }

  -- and nothing is written in it any more, or it is bad
  pub true_left : (old.honest ≡ true → HasNothing new.flash b) → u.checkpoint ≡ None → KeepsTrue old new t.checkpoint u.checkpoint
  true_left nothing empty = record {
    noted = λ k is. let two : None ≡ Some k = sym empty ∙ is in absurd cc;
    checked = λ honest is. elim first [
      | inl none ↦ moved _ _ _ None _ lasts.geometry empty (none_faded old.geometry b old.flash new.flash (fades honest) (subst (IsChecked old.geometry old.flash) none is))
      | inr here ↦ moved _ _ _ None _ lasts.geometry empty (none_left old.geometry b old.flash new.flash (fades honest) (nothing honest) (subst (IsChecked old.geometry old.flash) here is))
    ];
    summaries = right_left;
  }

-- an erase, which notes nothing
pub true_erased : (b : ℕ) (old new : Device) (t u : Table) (result : Result (Unit {0}) EraseFault) → Erases b old new result → MayLose b t → u.checkpoint ≡ t.checkpoint
    → KeepsTrue old new t.checkpoint u.checkpoint
true_erased b old new t u result does first = true_faded b old new t u does.lasts first (λ honest. fades_erase b old.flash new.flash (shrinks-erase b old new result honest does))

-- an erase that is done: no checkpoint is left
pub true_opened : (b : ℕ) (old new : Device) (t u : Table) → Erases b old new (Ok tt) → MayLose b t → u.checkpoint ≡ None → KeepsTrue old new t.checkpoint u.checkpoint
true_opened b old new t u does first =
    true_left b old new t u does.lasts first (λ honest. fades_erase b old.flash new.flash (shrinks-erase b old new (Ok tt) honest does))
    (λ honest. inl (λ l bytes tag is. let two : Erased ≡ Written bytes tag = sym (does.pages honest l) ∙ is in cc))

-- a mark, done or cut
pub true_marked : (b : ℕ) (old new : Device) (t u : Table) (result : Result (Unit {0}) Gone) → Marks b old new result → MayLose b t → NotesMark b new.flash t u → KeepsTrue old new t.checkpoint u.checkpoint
true_marked b old new t u result does first notes = elim (cases_Bool (new.flash.bad b)) [
  | inl bad ↦
      true_left b old new t u does.lasts first (λ honest. fades_mark b old new result honest does) (λ honest. inr bad)
      (notes.checkpoint ∙ ap (λ x. if x then other_than b t.checkpoint else t.checkpoint) bad ∙ other_than_it b t.checkpoint first)
  | inr good ↦
      true_faded b old new t u does.lasts first (λ honest. fades_mark b old new result honest does)
      (notes.checkpoint ∙ ap (λ x. if x then other_than b t.checkpoint else t.checkpoint) good)
]

-- ---- a group of the log

module _ (g : Group) (name : ℕ → PageName) (bytes : ℕ → List ℕ) (old new : Flash) (grows : Grows old new) (bads : new.bad ≡ old.bad)
    (some : 0 < g.size) (ordinary : AreOrdinary g.size name) where
  first_is : AddsPages g name bytes old new → (t : Tag) → HasTag new g.block g.start t → t.object ≢ check_object
  first_is adds t has same =
      let there = adds.pages 0 some in
      let here : new.page g.block g.start ≡ Written (bytes 0) (tag_bytes (tag_in g name 0)) = ap (new.page g.block) (omega arith) ∙ there.0 in
      let tag : t ≡ tag_in g name 0 = one_tag new g.block g.start t (tag_in g name 0) has (record { bytes = bytes 0; page = here; valid = there.1 }) in
      ordinary 0 some (sym (ap (λ (x : Tag). x.object) tag) ∙ same)

  added : AddsPages g name bytes old new → AddsOrdinary old new
  added adds = record { grows = grows; bads = bads; groups = inr (g, adds.group, first_is adds) }

  -- however the writing of a group of other objects ends, it is no checkpoint
  pub ordinary_after : (result : Result Placed GroupFault) → GroupsAfter g name bytes old new result → AddsOrdinary old new
  ordinary_after (Ok placed) adds = added adds
  ordinary_after (Err faults.NoRoom) same = record { grows = grows; bads = bads; groups = inl same }
  ordinary_after (Err faults.Failed) same = record { grows = grows; bads = bads; groups = inl same }
  ordinary_after (Err faults.Lost) same = record { grows = grows; bads = bads; groups = inl same }
  ordinary_after (Err faults.Gone) (inl same) = record { grows = grows; bads = bads; groups = inl same }
  ordinary_after (Err faults.Gone) (inr adds) = added adds

module _ (g : Group) (name : ℕ → PageName) (bytes : ℕ → List ℕ) (old new : Flash) (some : 0 < g.size) (other : BeginsOther (name 0)) where
  other_first : AddsPages g name bytes old new → (t : Tag) → HasTag new g.block g.start t → BeginsSummary t → ⊥
  other_first adds t has begins =
      let there = adds.pages 0 some in
      let here : new.page g.block g.start ≡ Written (bytes 0) (tag_bytes (tag_in g name 0)) = ap (new.page g.block) (omega arith) ∙ there.0 in
      let tag : t ≡ tag_in g name 0 = one_tag new g.block g.start t (tag_in g name 0) has (record { bytes = bytes 0; page = here; valid = there.1 }) in
      let is : BeginsSummary (tag_in g name 0) = subst BeginsSummary tag begins in
      other is.0 is.1

  added_other : AddsPages g name bytes old new → AddsNoSummary old new
  added_other adds = inr (g, adds.group, other_first adds)

  -- however the writing of a group that does not begin as a summary ends, it is none
  pub none_summarized : (result : Result Placed GroupFault) → GroupsAfter g name bytes old new result → AddsNoSummary old new
  none_summarized (Ok placed) adds = added_other adds
  none_summarized (Err faults.NoRoom) same = inl same
  none_summarized (Err faults.Failed) same = inl same
  none_summarized (Err faults.Lost) same = inl same
  none_summarized (Err faults.Gone) (inl same) = inl same
  none_summarized (Err faults.Gone) (inr adds) = added_other adds

-- where no checkpoint is, a group of other objects leaves none
pub true_ordinary : (old new : Device) (t u : Table) → Lasts old new → t.checkpoint ≡ None → u.checkpoint ≡ t.checkpoint → (old.honest ≡ true → AddsOrdinary old.flash new.flash)
    → (old.honest ≡ true → AreSummariesRight old.geometry old.flash → AreSummariesRight new.geometry new.flash) → KeepsTrue old new t.checkpoint u.checkpoint
true_ordinary old new t u lasts none same adds right = record {
  noted = λ k is. sym same ∙ is;
  checked = λ honest is. moved _ _ _ None _ lasts.geometry (same ∙ none) (ordinary_added old.geometry old.flash new.flash (adds honest) (subst (IsChecked old.geometry old.flash) none is));
  summaries = right;
}
