-- What holds where a block is collected into the next one.
use Rattle.std.proofs.Common.{◌≡◌, ◌<◌, ◌≤◌, ℕ, ◌+◌, ◌*◌, false, Option, None, Some, Result, Ok, Err, refl, ap, ◌∙◌, arith}
use Rattle.std.proofs.lemmas.Result.{on_ok_weaker}
use Rattle.nand_model.specs.Calls.{Lasts}
use Rattle.nand_model.specs.declared.geometry.Geometry.{Geometry}
use Rattle.block_state.specs.Committed.{bad_count, uncommitted_count, free_count}
use Rattle.block_state.specs.laws.Committed.{free_where_held}
use Rattle.chunk_index.specs.declared.index.Index.{Index}
use Rattle.transactions.specs.Checking.{LogState}
use Rattle.flash_log.specs.Bills.{Bill, Pays, bill_of}
use Rattle.flash_log.specs.Gathering.{GatherEnds, IsGathered, LiesBehind, PaysGathering, PaysOpen, left_unanswered, most_open}
use Rattle.flash_log.specs.Moving.{LiesIn}
use Rattle.flash_log.specs.Retiring.{RetireEnds}
use Rattle.flash_log.specs.RoomMaking.{CollectEnds}
use Rattle.flash_log.specs.Consistency.{IsConsistentLog}
use Rattle.flash_log.specs.SummaryMaking.{PaysNext}
use Rattle.flash_log.specs.declared.fault.MoveFault.{MoveFault}
use Rattle.flash_log.specs.declared.moving.Moved.{Moved}
use Rattle.flash_log.specs.declared.moving.Moved.TheVariants as places
use Rattle.flash_log.specs.laws.Bills.{pays_on}
use Rattle.flash_log.proofs.RoomTaken.{fits_open}

-- ---- costs

-- the bill of a move into the open block, with an erase more for each failure
abbrev open_bill : (committed : ℕ) → LogState → Result (Option Moved) MoveFault → Bill
open_bill committed b r = bill_of b (most_open committed r) 0 (left_unanswered r)

module _ (committed : ℕ) (b e : LogState) (r : Result (Option Moved) MoveFault) (rises : bad_count b.table ≤ bad_count e.table) (pays : PaysOpen committed b e r) where
  totaled : b.device.failures + left_unanswered r ≤ e.device.failures
  totaled = let marks = pays.marks in omega (arith, marks, rises)

  abbrev p : ℕ
  p = b.device.geometry.pages

  split : (n : ℕ) → (p + 2) * n ≡ (p + 1) * n + n
  split n = omega arith

  pub pays_each : Pays (open_bill committed b r) b e r
  pays_each =
      let costs = pays.costs in
      let one = split (b.device.failures + left_unanswered r) in
      let two = split e.device.failures in
      let more = totaled in
      record { costs = omega (arith, costs, one, two, more); marks = pays.marks; answers = pays.answers; reads = pays.reads }

  -- a failure has an erase to spare
  pub pays_spare : bad_count b.table < bad_count e.table → most_open committed r ≡ 0 → left_unanswered r ≡ 0 → e.device.changes + (p + 2) * b.device.failures + 1 ≤ b.device.changes + (p + 2) * e.device.failures
  pays_spare more none answered =
      let costs = pays.costs in
      let marks = pays.marks in
      let all : (p + 1) * (b.device.failures + left_unanswered r) ≡ (p + 1) * b.device.failures = ap (λ n. (p + 1) * (b.device.failures + n)) answered ∙ omega arith in
      let one = split b.device.failures in
      let two = split e.device.failures in
      omega (arith, costs, marks, all, one, two, more, none, answered)

same_each : (a b : LogState) → Lasts a.device b.device → b.device.geometry.pages + 2 ≡ a.device.geometry.pages + 2
same_each a b lasts = ap (λ (g : Geometry). g.pages + 2) lasts.geometry

-- the next block and the move into it
pub pays_both : (committed count : ℕ) (a b e : LogState) (moved : Moved) → Lasts a.device b.device → bad_count b.table ≤ bad_count e.table → (next : PaysNext (committed + count) a b (Ok (tt {0}))) → PaysOpen committed b e (Ok (Some moved))
    → Pays {E = MoveFault} (bill_of a (committed + next.size + 1) 0 (left_unanswered (Ok (Some moved)))) a e (Ok (Some moved))
pays_both committed count a b e moved lasts rises next wrote =
    pays_on (committed + next.size + 1) 0 (bill_of a (next.size + 1) 0 0) (open_bill committed b (Ok (Some moved))) a b e (tt {0}) (Ok (Some moved)) (same_each a b lasts)
    (sufficient (a.device.geometry.pages + 2) next.size) refl next.pays (pays_each committed b e (Ok (Some moved)) rises wrote) where
      sufficient : (each size : ℕ) → size + 1 + committed ≤ committed + size + 1 + each * 0
      sufficient each size = omega arith

-- where the copy is trusted
pub pays_trusted : (committed count : ℕ) (a b e : LogState) → Lasts a.device b.device → bad_count b.table ≤ bad_count e.table → PaysNext (committed + count) a b (Ok (tt {0})) → PaysOpen committed b e (Ok (Some places.Trusted))
    → PaysGathering committed count a e (Ok (tt {0}))
pays_trusted committed count a b e lasts rises next wrote =
    let both = pays_both committed count a b e places.Trusted lasts rises next wrote in
    record { size = next.size; most = next.most; fits = next.fits; pays = record { costs = both.costs; marks = both.marks; answers = both.answers; reads = both.reads } }

-- where it is not its block is retired
pub pays_suspect : (w committed count : ℕ) (a b e f : LogState) (result : Result (Unit {0}) MoveFault) → Lasts a.device b.device → Lasts b.device e.device → bad_count b.table ≤ bad_count e.table
    → PaysNext (committed + count) a b (Ok (tt {0})) → PaysOpen committed b e (Ok (Some (places.Suspect w))) → Pays (bill_of e (e.device.geometry.pages + 2) 1 0) e f result → PaysGathering committed count a f result
pays_suspect w committed count a b e f result lasts later rises next wrote retired =
    let both = pays_both committed count a b e (places.Suspect w) lasts rises next wrote in
    let pages : e.device.geometry.pages + 2 ≡ a.device.geometry.pages + 2 = same_each b e later ∙ same_each a b lasts in
    let all = pays_on (committed + next.size + 1) 0 (bill_of a (committed + next.size + 1) 0 1) (bill_of e (e.device.geometry.pages + 2) 1 0) a e f (Some (places.Suspect w)) result pages
    (sufficient a.device.geometry.pages e.device.geometry.pages (committed + next.size + 1) (ap (λ (g : Geometry). g.pages) (later.geometry ∙ lasts.geometry))) refl both retired in
    record { size = next.size; most = next.most; fits = next.fits; pays = all } where
      sufficient : (m n k : ℕ) → n ≡ m → k + (n + 2) ≤ k + (m + 2) * 1
      sufficient m n k is = omega (arith, is)

-- where the open block was marked all is written into another
pub pays_again : (committed count : ℕ) (a b e f : LogState) (result : Result (Unit {0}) MoveFault) → Lasts a.device b.device → Lasts b.device e.device → bad_count b.table < bad_count e.table
    → PaysNext (committed + count) a b (Ok (tt {0})) → PaysOpen committed b e (Ok None) → Pays (bill_of e (committed + 1) 0 0) e f result → PaysGathering committed count a f result
pays_again committed count a b e f result lasts later more next wrote then =
    let spared = pays_spare committed b e (Ok None) (omega (arith, more)) wrote more refl refl in
    let first = next.pays.costs in
    let last = then.costs in
    let pages : b.device.geometry.pages ≡ a.device.geometry.pages = ap (λ (g : Geometry). g.pages) lasts.geometry in
    let pages' : e.device.geometry.pages ≡ a.device.geometry.pages = ap (λ (g : Geometry). g.pages) later.geometry ∙ pages in
    let one : (b.device.geometry.pages + 2) * b.device.failures ≡ (a.device.geometry.pages + 2) * b.device.failures = ap (λ n. (n + 2) * b.device.failures) pages in
    let two : (b.device.geometry.pages + 2) * e.device.failures ≡ (a.device.geometry.pages + 2) * e.device.failures = ap (λ n. (n + 2) * e.device.failures) pages in
    let three : (e.device.geometry.pages + 2) * (e.device.failures + 0) ≡ (a.device.geometry.pages + 2) * e.device.failures = ap (λ n. (n + 2) * (e.device.failures + 0)) pages' ∙ omega arith in
    let four : (e.device.geometry.pages + 2) * f.device.failures ≡ (a.device.geometry.pages + 2) * f.device.failures = ap (λ n. (n + 2) * f.device.failures) pages' in
    let m1 = next.pays.marks in
    let m2 = wrote.marks in
    let m3 = then.marks in
    let a1 = next.pays.answers in
    let a2 = wrote.answers in
    let r1 = next.pays.reads in
    let r2 = wrote.reads in
    let r3 = then.reads in
    record {
      size = next.size;
      most = next.most;
      fits = next.fits;
      pays = record {
        costs = omega (arith, first, last, spared, one, two, three, four);
        marks = omega (arith, m1, m2, m3);
        answers = on_ok_weaker result (λ a3. omega (arith, a1, a2, a3)) then.answers;
        reads = omega (arith, r1, r2, r3);
      };
    }

-- where it failed otherwise
pub pays_short : (committed count : ℕ) (a b e : LogState) (fault fault' : MoveFault) → Lasts a.device b.device → bad_count b.table ≤ bad_count e.table → PaysNext (committed + count) a b (Ok (tt {0})) → PaysOpen committed b e (Err fault)
    → PaysGathering committed count a e (Err fault')
pays_short committed count a b e fault fault' lasts rises next wrote =
    let each = pays_each committed b e (Err fault) rises wrote in
    let all = pays_on {T = Unit {0}} {E = MoveFault} (committed + next.size + 1) 0 (bill_of a (next.size + 1) 0 0) (open_bill committed b (Err fault)) a b e (tt {0}) (Err fault) (same_each a b lasts)
    (sufficient (a.device.geometry.pages + 2) next.size) refl next.pays each in
    record { size = next.size; most = next.most; fits = next.fits; pays = record { costs = all.costs; marks = all.marks; answers = tt; reads = all.reads } } where
      sufficient : (each size : ℕ) → size + 1 + committed ≤ committed + size + 1 + each * 0
      sufficient each size = omega arith

-- ---- ends

-- the copies are trusted
pub gathered_behind : (v count spare : ℕ) (b e : LogState) (y : Index) → 1 ≤ (b.table.entry v).committed → LiesBehind v count b e → bad_count e.table ≤ spare → IsConsistentLog spare e.device e.table y → e.device.gone ≡ false
    → IsGathered count spare e
gathered_behind v count spare b e y some lies within_limit consistent power =
    let there = lies.lies.there in
    let same : free_count e.table ≡ uncommitted_count e.table = free_where_held e.table lies.block lies.open_block (omega (arith, there, some)) in
    record { fits = lies.fits; within_limit = within_limit; free = omega (arith, same, consistent.tables.uncommitted); power = power }

-- their block is retired
pub gathered_retired : (v w committed count spare : ℕ) (b e f : LogState) (result : Result (Unit {0}) MoveFault) → committed ≡ (b.table.entry v).committed → 1 ≤ committed → LiesIn v w b.table e.table → committed + count ≤ f.table.geometry.pages
    → RetireEnds w spare f.device e.table f.table result → GatherEnds count spare f result
gathered_retired v w committed count spare b e f (Ok done) is some lies within_limit (out, power) =
    let there = lies.there in
    let away = out.moved (omega (arith, there, is, some)) in
    let next = away.1.next in
    record { fits = fits_open count away.0 committed f.table away.1.open_block (omega (arith, next, there, is)) within_limit; within_limit = out.within_limit; free = out.free; power = power }
gathered_retired v w committed count spare b e f (Err fault) is some lies within_limit why = why

-- they were moved into another block
pub gathered_again : (v committed count spare : ℕ) (e f : LogState) (result : Result (Unit {0}) MoveFault) → (e.table.entry v).committed ≡ committed → committed + count ≤ f.table.geometry.pages → CollectEnds v spare f.device e.table f.table result
    → GatherEnds count spare f result
gathered_again v committed count spare e f (Ok done) is within_limit (all, power) =
    record { fits = fits_open count all.opened.0 committed f.table all.opened.1 (all.opened.2 ∙ is) within_limit; within_limit = all.within_limit; free = all.free; power = power }
gathered_again v committed count spare e f (Err fault) is within_limit why = why
