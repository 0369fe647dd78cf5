-- Blocks that are emptied, marked and out.
use Rattle.std.proofs.Common.{◌≡◌, ◌≢◌, ◌<◌, ◌≤◌, ℕ, ◌+◌, true, false, Option, Some, None, Result, Ok, Err, ◌*◌, sym, ap, subst, ◌∙◌, arith}
use Rattle.nand_model.specs.Calls.{Device, Marks}
use Rattle.nand_model.specs.declared.nand.Gone.{Gone}
use Rattle.flash_tree.specs.Keeping.{KeepsElsewhere}
use Rattle.chunk_index.specs.declared.index.Index.{Index}
use Rattle.chunk_index.specs.Committed.{HoldsNone}
use Rattle.chunk_index.specs.Maps.{committed_pages, count_committed_in}
use Rattle.block_state.specs.declared.blocks.BlockEntry.{BlockEntry}
use Rattle.block_state.specs.laws.Committed.{mark_bad}
use Rattle.transactions.specs.Handing.{HandsOut}
use Rattle.transactions.specs.Marking.{NotesMark}
use Rattle.transactions.specs.Ready.{IsReady}
use Rattle.nand_model.specs.declared.geometry.Geometry.{Geometry}
use Rattle.block_state.specs.Committed.{bad_count}
use Rattle.block_state.specs.Table.{Table, Sets}
use Rattle.flash_log.specs.Copying.{KeepsCounts}
use Rattle.flash_log.specs.Bills.{PaysEmptying, PaysOut}
use Rattle.flash_log.specs.Moving.{LiesIn, IsAway}
use Rattle.flash_log.specs.Consistency.{AreHeld, IsConsistentLog}
use Rattle.flash_log.specs.Steps.{Step}
use Rattle.flash_log.specs.laws.Found.{found_marked}
use Rattle.flash_log.specs.laws.FreeBlocks.{free_still}
use Rattle.flash_log.specs.laws.Keeping.{bad_rises}
use Rattle.flash_log.specs.laws.Moves.{are_held, consistent_still}
use Rattle.flash_log.specs.laws.Steps.{step_committed, step_on}
use Rattle.transactions.specs.Checking.{log_of}
use Rattle.flash_log.specs.declared.fault.MoveFault.{MoveFault}
use Rattle.flash_log.proofs.Free.{mark_costs, mark_fails_not}
use Rattle.std.proofs.Math.Nat.{mul-le-mul_left}
use Rattle.flash_log.proofs.Marked.{marked_entry, keeps_marked, committed_marked, written_marked, one_more_bad}
use Rattle.flash_log.specs.Retiring.{IsEmptied, IsOut, open_failures}

module _ (v : ℕ) (t u s : Table) (committed : (b : ℕ) → (s.entry b).committed ≡ (u.entry b).committed) (next : (b : ℕ) → (s.entry b).next ≡ (u.entry b).next) (bad : (b : ℕ) → b ≢ v → (s.entry b).bad ≡ (u.entry b).bad)
    (open_block : s.open_block ≡ u.open_block) (none : (u.entry v).committed ≡ 0) where
  -- a block with committed pages is not v
  not_v : (w : ℕ) → 1 ≤ (t.entry v).committed → (u.entry w).committed ≡ (t.entry v).committed → w ≢ v
  not_v w some there e = let same : (u.entry w).committed ≡ (u.entry v).committed = ap (λ b. (u.entry b).committed) e in omega (arith, same, none, there, some)

  marked_lies : (w : ℕ) → 1 ≤ (t.entry v).committed → LiesIn v w t u → LiesIn v w t s
  marked_lies w some l = record {
    within = l.within;
    good = bad w (not_v w some l.there) ∙ l.good;
    was = l.was;
    there = committed w ∙ l.there;
    elsewhere = λ b nv nw. committed b ∙ l.elsewhere b nv nw;
  }

  marked_away : (suspect : Option ℕ) → 1 ≤ (t.entry v).committed → IsAway v t u suspect → IsAway v t s suspect
  marked_away None some (w, l) = (w, record { lies = marked_lies w some l.lies; open_block = open_block ∙ l.open_block; next = next w ∙ l.next })
  marked_away (Some w) some (l, closed) = (marked_lies w some l, open_block ∙ closed)

  -- the mark of an emptied block
  pub out_marked : (spare : ℕ) (suspect : Option ℕ) → IsEmptied v t u suspect → (s.entry v).bad ≡ true → bad_count s ≤ spare → bad_count t < bad_count s → IsOut v spare t s suspect
  out_marked spare suspect e is within_limit more = record {
    bad = is;
    uncommitted = committed v ∙ none;
    was_empty = λ zero_there. (open_block ∙ (e.was_empty zero_there).0, (e.was_empty zero_there).1);
    moved = λ some. marked_away suspect some (e.moved some);
    within_limit = within_limit;
    more = more;
  }

-- a block that was emptied is marked
module _ (spare v : ℕ) (d1 d2 d3 : Device) (t1 t2 t3 : Table) (x y : Index) (gone : Result (Unit {0}) Gone) (step : Step spare (log_of d1 t1) (log_of d2 t2) x y)
    (law : (b : ℕ) → count_committed_in y b ≡ 0 → HoldsNone (committed_pages y) b) (within : v < t1.geometry.blocks) (empty : (t2.entry v).committed ≡ 0)
    (marks : Marks v d2 d3 gone) (can_write : IsReady d3 t3) (notes : NotesMark v d3.flash t2 t3) (newest : d2.honest ≡ true → KeepsElsewhere v d2.flash d3.flash) (numbers : HandsOut d2 d3 t2 t3) where
  inside : v < t2.geometry.blocks
  inside = subst (λ (g : Geometry). v < g.blocks) (sym step.geometry) within

  keeps : KeepsCounts d2 d3 t2 t3
  keeps = keeps_marked v d2 d3 t2 t3 gone inside empty marks notes step.can_write can_write numbers

  held : AreHeld t2 y
  held = are_held t2 y law step.consistent.tables.counts

  consistent_marked : IsConsistentLog spare d3 t3 y
  consistent_marked = consistent_still spare d2 d3 t2 t3 y held keeps step.consistent (written_marked v d2 d3 t2 t3 gone inside empty marks notes step.consistent.tables.written)
      (λ honest power. (committed_marked v d2 d3 t2 t3 gone inside empty marks notes honest (newest honest)).0)

  pub step_marked : Step spare (log_of d1 t1) (log_of d3 t3) x y
  step_marked = step_on spare (log_of d1 t1) (log_of d2 t2) (log_of d3 t3) x y y step
      (step_committed spare d2 d3 t2 t3 y held keeps step.consistent consistent_marked (λ honest. (committed_marked v d2 d3 t2 t3 gone inside empty marks notes honest (newest honest)).1) (found_marked v d2 d3 t2 gone empty marks)
      (free_still spare d2 d3 t2 t3 y held keeps step.consistent consistent_marked.tables (λ honest. (committed_marked v d2 d3 t2 t3 gone inside empty marks notes honest (newest honest)).0)))

  bad_marked : bad_count t3 ≤ bad_count t2 + 1
  bad_marked = one_more_bad v d2 d3 t2 t3 gone inside empty marks notes step.can_write

  one_bad : (t2.entry v).bad ≡ false → (t3.entry v).bad ≡ true → bad_count t3 ≡ bad_count t2 + 1
  one_bad good is =
      let sets : Sets v (record (t2.entry v) { bad = true }) t2 t3 = record {
        here = notes.sets.here ∙ ap (λ b. record (t2.entry v) { bad = b }) (sym (ap (λ (e : BlockEntry). e.bad) notes.sets.here) ∙ is);
        others = notes.sets.others;
        geometry = notes.sets.geometry;
        next_group = notes.sets.next_group;
      } in
      mark_bad t2 t3 v sets inside good

  more_bad : (t2.entry v).bad ≡ false → (t3.entry v).bad ≡ true → bad_count t1 < bad_count t3
  more_bad good is =
      let more = one_bad good is in
      let rises : bad_count t1 ≤ bad_count t2 = bad_rises t1 t2 step.geometry step.marks in
      omega (arith, more, rises)

  pub out : (suspect : Option ℕ) → IsEmptied v t1 t2 suspect → (t3.entry v).bad ≡ true → bad_count t3 ≤ spare → IsOut v spare t1 t3 suspect
  out suspect e is within_limit = out_marked v t1 t2 t3 keeps.committed (λ b. (marked_entry v d3.flash t2 t3 notes b).1) (λ b ne. ap (λ (z : BlockEntry). z.bad) (notes.sets.others b ne)) notes.open_block empty
      spare suspect e is within_limit (more_bad e.left.good is)

  -- what the mark costs besides
  module _ (suspect : Option ℕ) (pays : PaysEmptying (log_of d1 t1) (log_of d2 t2) (Ok suspect)) where
    changes : d3.changes ≤ d2.changes + 1
    changes = mark_costs v d2 d3 gone marks

    none : d3.failures ≡ d2.failures
    none = mark_fails_not v d2 d3 gone marks

    times : (d1.geometry.pages + 2) * d3.failures ≡ (d1.geometry.pages + 2) * d2.failures
    times = ap (λ n. (d1.geometry.pages + 2) * n) none

    pub pays_out : (t2.entry v).bad ≡ false → (t3.entry v).bad ≡ true → PaysOut (log_of d1 t1) (log_of d3 t3) (Ok suspect)
    pays_out good is = record {
      costs = let one = changes in let same = times in let costs = pays.costs in omega (arith, one, same, costs);
      marks = let one = bad_marked in let same = none in let marks = pays.marks in omega (arith, one, same, marks);
      answers = let one = one_bad good is in let same = none in let answers = pays.answers in omega (arith, one, same, answers);
      reads = let reads = marks.reads in let rises = marks.lasts.changes in let same = none in let first = pays.reads in omega (arith, reads, rises, same, first);
    }

    pub pays_unmarked : (fault : MoveFault) → PaysOut (log_of d1 t1) (log_of d3 t3) (Err fault)
    pays_unmarked fault = record {
      costs =
          let one = changes in
          let same = times in
          let costs = pays.costs in
          let fewer : (d1.geometry.pages + 2) * (d1.failures + 0) ≤ (d1.geometry.pages + 2) * (d1.failures + open_failures (Ok suspect)) = mul-le-mul_left (d1.geometry.pages + 2) (omega arith) in
          omega (arith, one, same, costs, fewer);
      marks = let one = bad_marked in let same = none in let marks = pays.marks in omega (arith, one, same, marks);
      answers = tt;
      reads = let reads = marks.reads in let rises = marks.lasts.changes in let same = none in let first = pays.reads in omega (arith, reads, rises, same, first);
    }
