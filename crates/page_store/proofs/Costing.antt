-- What a commit and its turns cost.
use Rattle.std.proofs.Common.{◌≡◌, ◌<◌, ◌≤◌, ℕ, ◌+◌, ◌-◌, ◌*◌, List, Option, Some, None, Ok, Err, refl, sym, ap, subst, ◌∙◌, arith}
use Rattle.std.specs.Option.{option_map_or}
use Rattle.std.proofs.Math.Nat.{mul-le-mul_right, mul-le-mul_left}
use Rattle.nand_model.specs.Calls.{Device, Lasts}
use Rattle.nand_model.specs.Counts.{Costs, ReadsFew}
use Rattle.nand_model.specs.declared.geometry.Geometry.{Geometry}
use Rattle.flash_tree.specs.declared.place.FreshPage.{FreshPage}
use Rattle.block_state.specs.Committed.{bad_count}
use Rattle.block_state.specs.Table.{Table, room}
use Rattle.transactions.specs.Checking.{LogState}
use Rattle.transactions.specs.Ready.{IsReady}
use Rattle.transactions.specs.laws.Ready.{none_waits}
use Rattle.flash_log.specs.Moving.{MarksFailures}
use Rattle.flash_log.specs.RoomMaking.{FitsOpen}
use Rattle.flash_log.specs.declared.room_fault.RoomFault.{RoomFault}
use Rattle.page_store.specs.Carrying.{AreWritable}
use Rattle.page_store.specs.Committing.{TakesNoBlock, TakesOneBlock}
use Rattle.page_store.specs.GroupWriting.{PaysAttempt, QuietAttempt, unanswered}
use Rattle.page_store.specs.declared.group_writing.Attempt.{Attempt}

-- ---- changes

-- what each failure costs more
each_more : (k m a b : ℕ) → k ≤ m → a ≤ b → k * b + m * a ≤ m * b + k * a
each_more k m a b within_limit le =
    let more : b ≡ a + (b - a) = omega (arith, le) in
    let times : k * (b - a) ≤ m * (b - a) = mul-le-mul_right (b - a) within_limit in
    let left : k * b ≡ k * a + k * (b - a) = ap (λ n. k * n) more ∙ (omega arith) in
    let right : m * b ≡ m * a + m * (b - a) = ap (λ n. m * n) more ∙ (omega arith) in
    omega (arith, times, left, right)

-- more may be in the count for each failure
pub costs_each : (n k m : ℕ) (d e : Device) → k ≤ m → Lasts d e → Costs n k 0 d e → Costs n m 0 d e
costs_each n k m d e within_limit lasts costs =
    let more = each_more k m d.failures e.failures within_limit lasts.failures in
    let one : k * (d.failures + 0) ≡ k * d.failures = omega arith in
    let two : m * (d.failures + 0) ≡ m * d.failures = omega arith in
    omega (arith, costs, more, one, two)

-- and more besides
pub costs_more : (m n k : ℕ) (d e : Device) → m ≤ n → Costs m k 0 d e → Costs n k 0 d e
costs_more m n k d e within_limit costs = omega (arith, within_limit, costs)

pub costs_on : (m n k : ℕ) (a b c : Device) → Costs m k 0 a b → Costs n k 0 b c → Costs (m + n) k 0 a c
costs_on m n k a b c first then =
    let one : k * (a.failures + 0) ≡ k * a.failures = omega arith in
    let two : k * (b.failures + 0) ≡ k * b.failures = omega arith in
    omega (arith, first, then, one, two)

pub costs_none : (k : ℕ) (d : Device) → Costs 0 k 0 d d
costs_none k d = let one : k * (d.failures + 0) ≡ k * d.failures = omega arith in omega (arith, one)

-- a failure pays for all that its turn did besides
pub costs_again : (n k m : ℕ) (d e : Device) → n + k ≤ m → d.failures < e.failures → Costs n k 0 d e → Costs 0 m 0 d e
costs_again n k m d e within_limit failed costs =
    let g : ℕ = e.failures - d.failures in
    let rise : e.failures ≡ d.failures + g = omega (arith, failed) in
    let some : 1 ≤ g = omega (arith, failed) in
    let all : (n + k) * g ≤ m * g = mul-le-mul_right g within_limit in
    let one : n * 1 ≤ n * g = mul-le-mul_left n some in
    let split : (n + k) * g ≡ n * g + k * g = omega arith in
    let of_k : k * e.failures ≡ k * d.failures + k * g = ap (λ f. k * f) rise ∙ (omega arith) in
    let of_m : m * e.failures ≡ m * d.failures + m * g = ap (λ f. m * f) rise ∙ (omega arith) in
    let k_none : k * (d.failures + 0) ≡ k * d.failures = omega arith in
    let m_none : m * (d.failures + 0) ≡ m * d.failures = omega arith in
    omega (arith, costs, all, one, split, of_k, of_m, k_none, m_none)

-- no more pages can be written than a block has
pub room_most : (t : Table) → room t ≤ t.geometry.pages
room_most t = go t.open_block where
  go : (o : Option ℕ) → option_map_or (λ b. t.geometry.pages - (t.entry b).next) o 0 ≤ t.geometry.pages
  go None = omega arith
  go (Some b) = omega arith

-- so pages that the open block has room for are no more than a block has
pub fits_block : (count : ℕ) (a b : LogState) → IsReady a.device a.table → b.device.geometry ≡ a.device.geometry → FitsOpen count a.table → count ≤ b.device.geometry.pages
fits_block count a b can_write same fits =
    let most = room_most a.table in
    let size : a.table.geometry.pages ≡ b.device.geometry.pages = ap (λ (g : Geometry). g.pages) (can_write.geometry ∙ sym same) in
    omega (arith, most, size, fits)

-- ---- bills

-- what an attempt costs
pub attempt_done : (count : ℕ) (a b : LogState) (attempt : Attempt) → bad_count b.table ≡ bad_count a.table → b.device.failures ≡ a.device.failures + unanswered (Ok attempt) → b.device.changes ≤ a.device.changes + count
    → ReadsFew 0 a.device b.device → QuietAttempt count a.device b.device (Ok attempt) → PaysAttempt count a b (Ok attempt)
attempt_done count a b attempt bad rise within_limit reads quiet = record {
  pays = record {
    costs = let more : (a.device.geometry.pages + 2) * (a.device.failures + unanswered (Ok attempt)) ≡ (a.device.geometry.pages + 2) * b.device.failures = ap (λ n. (a.device.geometry.pages + 2) * n) (sym rise) in omega (arith, within_limit, more);
    marks = omega (arith, bad, rise);
    answers = omega (arith, bad, rise);
    reads = reads;
  };
  quiet = quiet;
}

pub attempt_short : (count : ℕ) (a b : LogState) (fault : RoomFault) → bad_count b.table ≡ bad_count a.table → a.device.failures ≤ b.device.failures → b.device.changes ≤ a.device.changes + count
    → ReadsFew 1 a.device b.device → PaysAttempt count a b (Err fault)
attempt_short count a b fault bad rise within_limit reads = record {
  pays = record {
    costs =
        let more : (a.device.geometry.pages + 2) * a.device.failures ≤ (a.device.geometry.pages + 2) * b.device.failures = mul-le-mul_left (a.device.geometry.pages + 2) rise in
        let none : (a.device.geometry.pages + 2) * (a.device.failures + 0) ≡ (a.device.geometry.pages + 2) * a.device.failures = omega arith in
        omega (arith, within_limit, more, none);
    marks = omega (arith, bad, rise);
    answers = tt;
    reads = reads;
  };
  quiet = tt;
}

-- ---- all turns

-- The last turn comes after others: it is the first one, or each before it in the count a failure.
module _ (count now spare : ℕ) (a b c : LogState) (same : now ≡ count) (first : Lasts a.device b.device) (then : Lasts b.device c.device) (here : b.device.failures ≡ a.device.failures → b ≡ a)
    (costs : Costs 0 (3 * a.device.geometry.pages + 3) 0 a.device b.device) where
  at_first : c.device.failures ≡ a.device.failures → b ≡ a
  at_first none = let rise = first.failures in let rises = then.failures in here (omega (arith, rise, rises, none))

  pub costs_last : Costs (b.device.geometry.pages + 1 + now) (b.device.geometry.pages + 2) 0 b.device c.device → Costs (count + a.device.geometry.pages + 1) (3 * a.device.geometry.pages + 3) 0 a.device c.device
  costs_last turn =
      let p : ℕ = a.device.geometry.pages in
      let size : b.device.geometry.pages ≡ p = ap (λ (g : Geometry). g.pages) first.geometry in
      let one : Costs (p + 1 + now) (p + 2) 0 b.device c.device = subst (λ n. Costs (n + 1 + now) (n + 2) 0 b.device c.device) size turn in
      let more : Costs (p + 1 + now) (3 * p + 3) 0 b.device c.device = costs_each (p + 1 + now) (p + 2) (3 * p + 3) b.device c.device (omega arith) then one in
      let both : Costs (0 + (p + 1 + now)) (3 * p + 3) 0 a.device c.device = costs_on 0 (p + 1 + now) (3 * p + 3) a.device b.device c.device costs more in
      costs_more (0 + (p + 1 + now)) (count + p + 1) (3 * p + 3) a.device c.device (omega (arith, same)) both

  pub none_last : TakesNoBlock now b c → TakesNoBlock count a c
  none_last turn = subst (λ n. TakesNoBlock n a c) same (λ fits none. subst (λ (s : LogState). TakesNoBlock now s c) (at_first none) turn fits none)

  pub one_last : TakesOneBlock now spare b c → TakesOneBlock count spare a c
  one_last turn = subst (λ n. TakesOneBlock n spare a c) same (λ has none. subst (λ (s : LogState). TakesOneBlock now spare s c) (at_first none) turn has none)

-- a turn that ends with one more bad block had a failure
pub had_failure : (d e : LogState) → bad_count d.table < bad_count e.table → MarksFailures 0 0 d.device e.device d.table e.table → d.device.failures < e.device.failures
had_failure d e more marks = omega (arith, more, marks)

-- and so it is not as if none had been
pub had_none : (a d e : Device) → e.failures ≡ a.failures → a.failures ≤ d.failures → d.failures < e.failures → ⊥
had_none a d e still rise failed = omega (arith, still, rise, failed)

-- where the open block has room, no block may have a checkpoint
pub none_with_room : (n : ℕ) (d : Device) (t : Table) → IsReady d t → 1 ≤ n → n ≤ room t → t.checkpoint ≡ None
none_with_room n d t can_write some fits = go t.open_block refl where
  go : (o : Option ℕ) → t.open_block ≡ o → t.checkpoint ≡ None
  go None is =
      let none : room t ≡ 0 = ap (λ z. option_map_or (λ b. t.geometry.pages - (t.entry b).next) z 0) is in
      absurd (omega (arith, none, some, fits))
  go (Some b) is = none_waits d t b can_write is

-- pages that can be written can be it still
pub writable_on : (a b : Device) (pages : List FreshPage) → Lasts a b → AreWritable a pages → AreWritable b pages
writable_on a b pages lasts w = record {
  within_limit = w.within_limit;
  numbered = λ i p is. ((w.numbered i p is).0, λ honest. (w.numbered i p is).1 (sym lasts.honest ∙ honest));
  size = λ i p is. w.size i p is ∙ ap (λ (g : Geometry). g.bytes) (sym lasts.geometry);
}
