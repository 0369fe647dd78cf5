-- What the allocation of the next block and its summary cost.
use Rattle.std.proofs.Common.{◌≡◌, ◌<◌, ◌≤◌, ℕ, ◌+◌, ◌*◌, true, Some, Result, Ok, Err, OnOk, refl, sym, ap, subst, ◌∙◌, arith}
use Rattle.std.proofs.lemmas.Result.{on_ok_weaker}
use Rattle.volume_terms.specs.Rounding.{ceiling}
use Rattle.nand_model.specs.Calls.{Device, Lasts}
use Rattle.nand_model.specs.Counts.{Costs, ReadsFew, unfinished}
use Rattle.nand_model.specs.declared.geometry.Geometry.{Geometry}
use Rattle.block_state.specs.Committed.{bad_count}
use Rattle.block_state.specs.Table.{Table}
use Rattle.transactions.specs.Checking.{LogState}
use Rattle.transactions.specs.Ready.{IsOpenOn, IsReady}
use Rattle.flash_log.specs.Bills.{Pays, PaysAllocation, bill_of}
use Rattle.flash_log.specs.Moving.{AnswersFailures}
use Rattle.flash_log.specs.Passing.{Passes}
use Rattle.flash_log.specs.RoomMaking.{LeavesNumber}
use Rattle.flash_log.specs.SummaryMaking.{BeginsNext, IsOpenWith, IsWritten, NextEnds, PaysNext, PaysSummary, SummaryEnds, WasWritten, most_programs}
use Rattle.flash_log.specs.SummarySource.{summary_size}
use Rattle.flash_log.specs.Taking.{Takes}
use Rattle.flash_log.specs.declared.fault.MoveFault.{MoveFault}
use Rattle.flash_log.specs.declared.summary_writing.Summarized.{Summarized}
use Rattle.flash_log.specs.declared.summary_writing.Summarized.TheVariants as ends
use Rattle.flash_log.specs.declared.summary_writing.WrittenBlock.{WrittenBlock}
use Rattle.flash_log.specs.declared.take.TakeFault.{TakeFault}
use Rattle.flash_log.specs.laws.Bills.{pays_on}
use Rattle.flash_log.specs.laws.Costs.{costs_taken}
use Rattle.flash_log.proofs.Writing.{costs_once}

-- what an allocation and a summary cost: the failure of a summary pays for both
abbrev pub begun_changes : (size : ℕ) → Result Summarized MoveFault → ℕ
begun_changes size (Ok ends.Written) = size + 1
begun_changes size (Ok ends.Marked) = 0
begun_changes size (Err fault) = size + 1

-- what they cost together
pub record PaysBegun (count : ℕ) (old new : LogState) (result : Result Summarized MoveFault) : Type 0 where
  pub size : ℕ
  pub most : size ≤ summary_size old.device.geometry
  pub fits : size + count ≤ old.device.geometry.pages
  pub pays : Pays (bill_of old (begun_changes size result) 0 0) old new result

module _ (a b c : LogState) (block : ℕ) (lasts : Lasts a.device b.device) (took : PaysAllocation a b (Ok block)) (marked : bad_count b.table + a.device.failures ≤ bad_count a.table + b.device.failures)
    (after : Lasts b.device c.device) where
  sufficient : (count spare size : ℕ) (r : Result Summarized MoveFault) → SummaryEnds count spare b c r → bad_count c.table + b.device.failures ≤ bad_count b.table + c.device.failures
      → most_programs size r + 1 + b.device.failures + 0 ≤ begun_changes size r + c.device.failures
  sufficient count spare size (Ok ends.Written) ends marks = let failures = after.failures in omega (arith, failures)
  sufficient count spare size (Ok ends.Marked) ends marks = omega (arith, marks, ends.1)
  sufficient count spare size (Err fault) ends marks = let failures = after.failures in omega (arith, failures)

  pub pays_begun : (count spare : ℕ) (r : Result Summarized MoveFault) → SummaryEnds count spare b c r → PaysSummary count b c r → PaysBegun count a c r
  pays_begun count spare r ends pays =
      let marks = pays.pays.marks in
      let answered = took.answers in
      let reads = pays.pays.reads in
      let same = took.reads in
      let changes = lasts.changes in
      let failures = lasts.failures in
      let costs = subst (λ (g : Geometry). Costs (most_programs pays.size r) (g.pages + 1) 0 b.device c.device) lasts.geometry pays.pays.costs in
      record {
        size = pays.size;
        most = subst (λ (g : Geometry). pays.size ≤ summary_size g) lasts.geometry pays.most;
        fits = subst (λ (g : Geometry). pays.size + count ≤ g.pages) lasts.geometry pays.fits;
        pays = record {
          costs = costs_once a.device.geometry.pages (most_programs pays.size r) (begun_changes pays.size r) 0 a.device b.device c.device lasts took.costs
              (let more = after.failures in omega (arith, more)) (sufficient count spare pays.size r ends (let all = marks in omega (arith, all))) costs;
          marks = omega (arith, marked, marks);
          answers = on_ok_weaker r (λ others. omega (arith, answered, others)) pays.pays.answers;
          reads = omega (arith, same, reads, changes, failures);
        };
      }

-- without a failure of the summary, that is what the next block costs
pub pays_next_from : (count : ℕ) (a c : LogState) (r : Result Summarized MoveFault) (result : Result (Unit {0}) MoveFault) (begun : PaysBegun count a c r) → begun_changes begun.size r ≤ begun.size + 1
    → OnOk result (AnswersFailures 0 0 a.device c.device a.table c.table) → ReadsFew (unfinished result) a.device c.device → PaysNext count a c result
pays_next_from count a c r result begun within_limit answers reads =
    let costs = begun.pays.costs in
    record {
      size = begun.size;
      most = begun.most;
      fits = begun.fits;
      pays = record { costs = omega (arith, costs, within_limit); marks = begun.pays.marks; answers = answers; reads = reads };
    }

-- and with one, that of another block
pub pays_next_again : (count : ℕ) (a c e : LogState) (result : Result (Unit {0}) MoveFault) → PaysBegun count a c (Ok ends.Marked) → Lasts a.device c.device → Pays (bill_of c 1 0 0) c e result → PaysNext count a e result
pays_next_again count a c e result begun lasts then =
    let pages : c.device.geometry.pages ≡ a.device.geometry.pages = ap (λ (g : Geometry). g.pages) lasts.geometry in
    let both = pays_on 1 0 (bill_of a 0 0 0) (bill_of c 1 0 0) a c e ends.Marked result (ap (λ n. n + 2) pages) (omega arith) refl begun.pays then in
    let costs = both.costs in
    record {
      size = begun.size;
      most = begun.most;
      fits = begun.fits;
      pays = record { costs = omega (arith, costs); marks = both.marks; answers = both.answers; reads = both.reads };
    }

-- a block without a summary
pub pays_plain : (count : ℕ) (a b : LogState) (block : Result ℕ TakeFault) (r : Result (Unit {0}) MoveFault) → Lasts a.device b.device → bad_count b.table + a.device.failures ≤ bad_count a.table + b.device.failures
    → PaysAllocation a b block → count ≤ a.device.geometry.pages → OnOk r (AnswersFailures 0 0 a.device b.device a.table b.table) → PaysNext count a b r
pays_plain count a b block r lasts marked took within_limit answers =
    let same = took.reads in
    let changes = lasts.changes in
    let failures = lasts.failures in
    record {
      size = 0;
      most = omega arith;
      fits = omega (arith, within_limit);
      pays = record { costs = costs_taken a.device.geometry.pages 0 a.device b.device lasts took.costs; marks = omega (arith, marked); answers = answers; reads = omega (arith, same, changes, failures) };
    }

-- the block that was open is written, and older than the one that was allocated
pub was_written : (w : WrittenBlock) (b : ℕ) (d e : Device) (t u : Table) → IsReady d t → IsOpenWith w t → Lasts d e → Passes d e t u → Takes b e t u → WasWritten w e u
was_written w b d e t u can_write is lasts passes takes = record {
  within = subst (λ (g : Geometry). w.block < g.blocks) (sym passes.geometry) (subst (λ (g : Geometry). w.block < g.blocks) (sym can_write.geometry) opened.within);
  older = λ o at.
      let both : Some b ≡ Some o = sym takes.open_block ∙ at in
      let same : b ≡ o = cc in
      let seq : (u.entry o).seq ≡ t.next_seq = ap (λ k. (u.entry k).seq) (sym same) ∙ takes.seq in
      let own = is.seq in
      let next = opened.seq.1 in
      omega (arith, seq, own, next);
  own = λ honest l x has.
      let was : d.honest ≡ true = sym lasts.honest ∙ honest in
      (opened.in_order was).own l x (passes.tags was w.block l x is.committed has) ∙ sym is.seq;
} where
  opened : IsOpenOn d t w.block
  opened = can_write.open_block w.block is.open_block

-- how it ends, where numbers were left before
pub ends_from : (count spare : ℕ) (a b e : LogState) (r : Result (Unit {0}) MoveFault) → LeavesNumber a.table b.table → NextEnds count spare b e r → NextEnds count spare a e r
ends_from count spare a b e (Ok done) left (opened, number) = (opened, λ less. number (left less))
ends_from count spare a b e (Err fault) left ends = ends

-- a number that was left by an allocation and a marked summary
pub number_left : (count spare : ℕ) (a b c : LogState) (r : Result Summarized MoveFault) → b.table.next_group ≡ a.table.next_group → r ≡ Ok ends.Marked → SummaryEnds count spare b c r → LeavesNumber a.table c.table
number_left count spare a b c r same is ended less = (subst (SummaryEnds count spare b c) is ended).2 (omega (arith, same, less))

-- the next block begins with a summary of the one that was open, once that is written
pub begins_written : (w : WrittenBlock) (count : ℕ) (a b c : LogState) (r : Result Summarized MoveFault) → IsOpenWith w a.table → Lasts a.device b.device → Passes a.device b.device a.table b.table
    → IsWritten w count b c r → r ≡ Ok ends.Written → BeginsNext {E = MoveFault} count a c (Ok (tt {0}))
begins_written w count a b c r opened lasts passes writes is k worth (room, number) honest same =
    let both : Some w.block ≡ Some k = sym opened.open_block ∙ worth.open_block in
    let here : w.block ≡ k = cc in
    let committed : (b.table.entry w.block).committed ≡ (a.table.entry k).committed = passes.committed w.block ∙ ap (λ n. (a.table.entry n).committed) here in
    let later = subst (λ (g : Geometry). ceiling (32 * (1 + (b.table.entry w.block).committed)) g.bytes + count ≤ g.pages) (sym passes.geometry)
    (subst (λ n. ceiling (32 * (1 + n)) a.table.geometry.bytes + count ≤ a.table.geometry.pages) (sym committed) room) in
    let group = passes.next_group in
    let begins = writes (lasts.honest ∙ honest) (later, omega (arith, number, group)) is in
    record {
      summary = begins.summary;
      whole = begins.whole;
      block = begins.block ∙ here;
      number = begins.number ∙ opened.seq ∙ ap (λ n. (a.table.entry n).seq) here;
      open_block = begins.open_block;
    }

-- and where it is marked, there was a failure
pub begins_marked : {T E : Type 0} (count spare : ℕ) (a b c d : LogState) (r : Result Summarized MoveFault) (result : Result T E) → r ≡ Ok ends.Marked → Lasts a.device b.device → Lasts c.device d.device
    → SummaryEnds count spare b c r → PaysSummary count b c r → BeginsNext count a d result
begins_marked count spare a b c d r result is before after ended pays k worth room honest same =
    let more = (subst (SummaryEnds count spare b c) is ended).1 in
    let marks = pays.pays.marks in
    let first = before.failures in
    let last = after.failures in
    absurd (omega (arith, more, marks, first, last, same))
