-- What a mark keeps.
use Rattle.std.proofs.Common.{◌≡◌, ◌⊎◌, ◌<◌, ◌≤◌, ℕ, ◌+◌, true, false, Some, Result, sym, ap, ◌∙◌, arith, inl, inr}
use Rattle.std.proofs.lemmas.Bool.{cases_Bool, cases_eq}
use Rattle.nand_model.specs.Flash.{Flash}
use Rattle.nand_model.specs.Calls.{Device, Marks}
use Rattle.nand_model.specs.declared.nand.Gone.{Gone}
use Rattle.flash_tree.specs.Keeping.{KeepsElsewhere}
use Rattle.block_state.specs.declared.blocks.BlockEntry.{BlockEntry}
use Rattle.block_state.specs.Committed.{bad_count, uncommitted_count, SameCounts}
use Rattle.block_state.specs.Table.{Table, Sets}
use Rattle.block_state.specs.laws.Committed.{mark_bad, mark_uncommitted, same_bad_count}
use Rattle.transactions.specs.Handing.{HandsOut}
use Rattle.transactions.specs.Marking.{NotesMark}
use Rattle.transactions.specs.Ready.{IsReady}
use Rattle.flash_log.specs.Copying.{KeepsCounts, KeepsCommittedAt, KeepsDataAt}
use Rattle.flash_log.specs.Erased.{KeepsErased}
use Rattle.flash_log.specs.Consistency.{IsWithinLimits}
use Rattle.flash_log.specs.laws.Erased.{erased_marked}
use Rattle.flash_log.specs.laws.Keeping.{keeps_same}
use Rattle.flash_log.specs.laws.CommittedPages.{committed_where, data_where}

-- the entries after a mark, but for the mark, are those before it
pub marked_entry : (v : ℕ) (flash : Flash) (t u : Table) → NotesMark v flash t u → (b : ℕ) → ((u.entry b).committed ≡ (t.entry b).committed) × ((u.entry b).next ≡ (t.entry b).next)
marked_entry v flash t u notes b = elim (cases_eq b v) [
  | inl e ↦ (
    ap (λ k. (u.entry k).committed) e ∙ ap (λ (x : BlockEntry). x.committed) notes.sets.here ∙ ap (λ k. (t.entry k).committed) (sym e),
    ap (λ k. (u.entry k).next) e ∙ ap (λ (x : BlockEntry). x.next) notes.sets.here ∙ ap (λ k. (t.entry k).next) (sym e),
  )
  | inr ne ↦ (ap (λ (x : BlockEntry). x.committed) (notes.sets.others b ne), ap (λ (x : BlockEntry). x.next) (notes.sets.others b ne))
]

module _ (v : ℕ) (d0 d1 : Device) (t u : Table) (result : Result (Unit {0}) Gone) (within : v < t.geometry.blocks) (none : (t.entry v).committed ≡ 0)
    (marks : Marks v d0 d1 result) (notes : NotesMark v d1.flash t u) where
  here : (u.entry v).bad ≡ d1.flash.bad v
  here = ap (λ (x : BlockEntry). x.bad) notes.sets.here

  marked_same : (u.entry v).bad ≡ (t.entry v).bad → SameCounts t u
  marked_same same = record {
    bad = λ b. elim (cases_eq b v) [
      | inl e ↦ ap (λ k. (u.entry k).bad) e ∙ same ∙ ap (λ k. (t.entry k).bad) (sym e)
      | inr ne ↦ ap (λ (x : BlockEntry). x.bad) (notes.sets.others b ne)
    ];
    committed = λ b. (marked_entry v d1.flash t u notes b).0;
    geometry = notes.sets.geometry;
  }

  -- a mark of a block without a committed page
  pub keeps_marked : IsReady d0 t → IsReady d1 u → HandsOut d0 d1 t u → KeepsCounts d0 d1 t u
  keeps_marked was can_write numbers = go (cases_Bool (t.entry v).bad) (cases_Bool (d1.flash.bad v)) where
    erased : KeepsErased d0 d1 t u
    erased = erased_marked v d0 d1 t u result (λ bad. marks.lasts.marks v (sym (was.marks v) ∙ bad)) marks notes

    limits : IsWithinLimits t → IsWithinLimits u
    limits (groups, seqs) = (let same = notes.sets.next_group in omega (arith, same, groups), let same = notes.next_seq in omega (arith, same, seqs))

    set : (t.entry v).bad ≡ false → d1.flash.bad v ≡ true → KeepsCounts d0 d1 t u
    set good is =
        let sets : Sets v (record (t.entry v) { bad = true }) t u = record {
          here = notes.sets.here ∙ ap (λ x. record (t.entry v) { bad = x }) is;
          others = notes.sets.others;
          geometry = notes.sets.geometry;
          next_group = notes.sets.next_group;
        } in
        let more : bad_count u ≡ bad_count t + 1 = mark_bad t u v sets within good in
        let less : uncommitted_count t ≡ uncommitted_count u + 1 = mark_uncommitted t u v sets within good none in
        record {
          lasts = marks.lasts;
          can_write = can_write;
          numbers = numbers;
          geometry = notes.sets.geometry;
          committed = λ b. (marked_entry v d1.flash t u notes b).0;
          marks = λ b bad. elim (cases_eq b v) [
            | inl e ↦ ap (λ k. (u.entry k).bad) e ∙ here ∙ is
            | inr ne ↦ ap (λ (x : BlockEntry). x.bad) (notes.sets.others b ne) ∙ bad
          ];
          marked = λ b bad. elim (cases_eq b v) [
            | inl e ↦ inr (ap (λ k. (t.entry k).committed) e ∙ none)
            | inr ne ↦ inl (sym (ap (λ (x : BlockEntry). x.bad) (notes.sets.others b ne)) ∙ bad)
          ];
          uncommitted = omega (arith, more, less);
          rises = omega (arith, more);
          limits = limits;
          erased = erased;
        }

    go : ((t.entry v).bad ≡ true) ⊎ ((t.entry v).bad ≡ false) → (d1.flash.bad v ≡ true) ⊎ (d1.flash.bad v ≡ false) → KeepsCounts d0 d1 t u
    go (inl bad) now = keeps_same d0 d1 t u (marked_same (here ∙ marks.lasts.marks v (sym (was.marks v) ∙ bad) ∙ sym bad)) marks.lasts can_write numbers limits erased
    go (inr good) (inl is) = set good is
    go (inr good) (inr is) = keeps_same d0 d1 t u (marked_same (here ∙ is ∙ sym good)) marks.lasts can_write numbers limits erased

  -- at most one more is bad
  pub one_more_bad : IsReady d0 t → bad_count u ≤ bad_count t + 1
  one_more_bad was = go (cases_Bool (t.entry v).bad) (cases_Bool (d1.flash.bad v)) where
    same_as : SameCounts t u → bad_count u ≤ bad_count t + 1
    same_as same = let is : bad_count u ≡ bad_count t = same_bad_count t u same in omega (arith, is)

    go : ((t.entry v).bad ≡ true) ⊎ ((t.entry v).bad ≡ false) → (d1.flash.bad v ≡ true) ⊎ (d1.flash.bad v ≡ false) → bad_count u ≤ bad_count t + 1
    go (inl bad) now = same_as (marked_same (here ∙ marks.lasts.marks v (sym (was.marks v) ∙ bad) ∙ sym bad))
    go (inr good) (inl is) =
        let sets : Sets v (record (t.entry v) { bad = true }) t u = record {
          here = notes.sets.here ∙ ap (λ x. record (t.entry v) { bad = x }) is;
          others = notes.sets.others;
          geometry = notes.sets.geometry;
          next_group = notes.sets.next_group;
        } in
        let more : bad_count u ≡ bad_count t + 1 = mark_bad t u v sets within good in
        omega (arith, more)
    go (inr good) (inr is) = same_as (marked_same (here ∙ is ∙ sym good))

  -- what is committed stays so
  pub committed_marked : d0.honest ≡ true → KeepsElsewhere v d0.flash d1.flash → KeepsCommittedAt t d0.flash d1.flash × KeepsDataAt t d0.flash d1.flash
  committed_marked honest keeps = (
    committed_where d0.flash d1.flash t (λ o c s newest some. keeps o c s newest (λ e. let zero_there : (t.entry s.block).committed ≡ 0 = ap (λ b. (t.entry b).committed) e ∙ none in omega (arith, zero_there, some))),
    data_where d0.flash d1.flash t (λ o c s newest some. keeps o c s newest (λ e. let zero_there : (t.entry s.block).committed ≡ 0 = ap (λ b. (t.entry b).committed) e ∙ none in omega (arith, zero_there, some))),
  )

  pub written_marked : ((o : ℕ) → t.open_block ≡ Some o → (t.entry o).committed ≤ (t.entry o).next) → (o : ℕ) → u.open_block ≡ Some o → (u.entry o).committed ≤ (u.entry o).next
  written_marked written o is =
      let same = marked_entry v d1.flash t u notes o in
      let was = written o (sym notes.open_block ∙ is) in
      omega (arith, same.0, same.1, was)
