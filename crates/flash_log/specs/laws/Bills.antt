-- What calls of the log cost in turn.
use Rattle.std.proofs.Common.{◌≡◌, ◌≤◌, ℕ, ◌+◌, ◌*◌, Result, Ok, Err, OnOk, ap, ◌∙◌, arith}
use Rattle.std.proofs.lemmas.Result.{on_ok_weaker}
use Rattle.transactions.specs.Checking.{LogState}
use Rattle.flash_log.specs.Bills.{Bill, Pays}

on_ok_always : {T E P : Type 0} (r : Result T E) → P → OnOk r P
on_ok_always (Ok x) p = p
on_ok_always (Err e) p = tt

-- nothing is done
pub pays_none : {T E : Type 0} (changes each : ℕ) (a : LogState) (result : Result T E) → Pays (record { changes = changes; each = each; marks = 0; unanswered = 0 }) a a result
pays_none changes each a result = record {
  costs = let one : each * (a.device.failures + 0) ≡ each * a.device.failures = omega arith in omega (arith, one);
  marks = omega arith;
  answers = on_ok_always result (omega arith);
  reads = omega arith;
}

-- What calls in turn cost: what the first leaves unanswered the second answers.
pub pays_on : {T E S F : Type 0} (changes marks : ℕ) (first then : Bill) (a b c : LogState) (done : T) (result : Result S F) → then.each ≡ first.each
    → first.changes + then.changes ≤ changes + first.each * first.unanswered → first.marks + then.marks ≡ marks + first.unanswered
    → Pays {E = E} first a b (Ok done) → Pays then b c result → Pays (record { changes = changes; each = first.each; marks = marks; unanswered = then.unanswered }) a c result
pays_on changes marks first then a b c done result same within_limit all before after =
    let one : first.each * (a.device.failures + first.unanswered) ≡ first.each * a.device.failures + first.each * first.unanswered = omega arith in
    let two : then.each * (b.device.failures + then.unanswered) ≡ first.each * b.device.failures + first.each * then.unanswered = ap (λ n. n * (b.device.failures + then.unanswered)) same ∙ (omega arith) in
    let three : then.each * c.device.failures ≡ first.each * c.device.failures = ap (λ n. n * c.device.failures) same in
    let four : first.each * (a.device.failures + then.unanswered) ≡ first.each * a.device.failures + first.each * then.unanswered = omega arith in
    let answered = before.answers in
    record {
      costs = let costs = before.costs in let then_costs = after.costs in omega (arith, one, two, three, four, within_limit, costs, then_costs);
      marks = let marks = before.marks in let then_marks = after.marks in omega (arith, all, marks, then_marks);
      answers = on_ok_weaker result (λ then_answered. omega (arith, all, answered, then_answered)) after.answers;
      reads = let reads = before.reads in let then_reads = after.reads in omega (arith, reads, then_reads);
    }
