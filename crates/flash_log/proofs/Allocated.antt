-- What holds where a block is allocated.
use Rattle.std.proofs.Common.{◌≡◌, ◌≤◌, ℕ, true, Some, Result, Ok, Err, sym, ap, ◌∙◌, arith}
use Rattle.nand_model.specs.Calls.{Device, Lasts}
use Rattle.block_state.specs.Table.{Table}
use Rattle.chunk_index.specs.Committed.{HoldsNone}
use Rattle.chunk_index.specs.Maps.{committed_pages, count_committed_in}
use Rattle.chunk_index.specs.declared.index.Index.{Index}
use Rattle.transactions.specs.Checking.{log_of}
use Rattle.transactions.specs.Handing.{HandsOut}
use Rattle.transactions.specs.Ready.{IsReady}
use Rattle.flash_log.specs.Copying.{KeepsCounts, KeepsDataAt}
use Rattle.flash_log.specs.Passing.{Passes}
use Rattle.flash_log.specs.Consistency.{AreHeld, KeepsFree, IsConsistentLog}
use Rattle.flash_log.specs.Steps.{Step}
use Rattle.flash_log.specs.Taking.{TakeEnds, Takes, TakesNone}
use Rattle.flash_log.specs.declared.take.TakeFault.{TakeFault}
use Rattle.flash_log.specs.laws.Erased.{erased_here}
use Rattle.flash_log.specs.laws.FreeBlocks.{free_still}
use Rattle.flash_log.specs.laws.Keeping.{same_here, keeps_passes}
use Rattle.flash_log.specs.laws.CommittedPages.{committed_where, data_where}
use Rattle.flash_log.specs.laws.Moves.{are_held, consistent_still, consistent_committed}
use Rattle.flash_log.specs.laws.Steps.{step_committed}

module _ (spare : ℕ) (d0 d1 : Device) (t u : Table) (x : Index) (law : (b : ℕ) → count_committed_in x b ≡ 0 → HoldsNone (committed_pages x) b)
    (lasts : Lasts d0 d1) (can_write : IsReady d1 u) (numbers : HandsOut d0 d1 t u) (passes : Passes d0 d1 t u) (consistent : IsConsistentLog spare d0 t x) where
  keeps : KeepsCounts d0 d1 t u
  keeps = keeps_passes d0 d1 t t u (same_here t) lasts can_write numbers (λ is. is) (erased_here d0 t) passes

  held : AreHeld t x
  held = are_held t x law consistent.tables.counts

  stored : d0.honest ≡ true → KeepsDataAt t d0.flash d1.flash
  stored honest = data_where d0.flash d1.flash t (passes.newest honest)

  -- a block was taken
  module _ (b : ℕ) (takes : Takes b d1 t u) where
    none_committed : (u.entry b).committed ≡ 0
    none_committed = passes.committed b ∙ takes.uncommitted

    written : (o : ℕ) → u.open_block ≡ Some o → (u.entry o).committed ≤ (u.entry o).next
    written o is =
        let both : Some b ≡ Some o = sym takes.open_block ∙ is in
        let same : b ≡ o = cc in
        let none : (u.entry o).committed ≡ (u.entry b).committed = ap (λ k. (u.entry k).committed) (sym same) in
        let zero_there = none_committed in
        omega (arith, none, zero_there)

    consistent_taken : IsConsistentLog spare d1 u x
    consistent_taken = consistent_still spare d0 d1 t u x held keeps consistent written (λ honest power. committed_where d0.flash d1.flash t (passes.newest honest))

    free_where_taken : KeepsFree spare d0 d1 x x
    free_where_taken = free_still spare d0 d1 t u x held keeps consistent consistent_taken.tables (λ honest. committed_where d0.flash d1.flash t (passes.newest honest))

    pub step_taken : Step spare (log_of d0 t) (log_of d1 u) x x
    step_taken = step_committed spare d0 d1 t u x held keeps consistent consistent_taken stored passes.found free_where_taken

  -- none was
  consistent_none : TakesNone t u → IsConsistentLog spare d1 u x
  consistent_none none = consistent_committed spare d0 d1 t u x held keeps consistent none.open_block (λ honest power. committed_where d0.flash d1.flash t (passes.newest honest))

  free_where_none : TakesNone t u → KeepsFree spare d0 d1 x x
  free_where_none none = free_still spare d0 d1 t u x held keeps consistent (consistent_none none).tables (λ honest. committed_where d0.flash d1.flash t (passes.newest honest))

  pub step_untaken : TakesNone t u → Step spare (log_of d0 t) (log_of d1 u) x x
  step_untaken none = step_committed spare d0 d1 t u x held keeps consistent (consistent_none none) stored passes.found (free_where_none none)

  -- whether one was or not
  pub step_tried : (result : Result ℕ TakeFault) → TakeEnds spare d1 t u result → Step spare (log_of d0 t) (log_of d1 u) x x
  step_tried (Ok b) ends = step_taken b ends.0
  step_tried (Err fault) ends = step_untaken ends.0
