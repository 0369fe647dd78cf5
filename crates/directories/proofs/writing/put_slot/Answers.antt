use Rattle.std.proofs.Common.{◌≡◌, ◌≢◌, ◌<◌, ◌+◌, ◌-◌, ◌*◌, ◌/◌, ◌%◌, ◌∙◌, ℕ, List, get_or, sym, ap, arith}
use Rattle.std.proofs.Math.Nat.{div-add-mod'}
use Rattle.std.proofs.lemmas.List.{get_or-drop}
use Rattle.directories.proofs.writing.put_slot.Goals as goal

pub returns-clause-others : goal.returns-clause-others
returns-clause-others c = λ k other less.
    let n : ℕ = c.args.slots in
    let number : ℕ = c.in-Some.written.number in
    let here : number / n ≡ c.args.chunk = omega arith in
    let whole : number / n * n ≡ c.args.chunk * n = ap (λ j. j * n) here in
    let base : number / n * n + number % n ≡ number = div-add-mod' number n in
    let apart : c.args.chunk * n + k ≢ number = rw c.in-Some.is at other in
    c.write_slot.ensures.others k (λ same. apart (omega (arith, same, base, whole))) (omega (arith, less, c.requires.room))

pub returns-clause-past : goal.returns-clause-past
returns-clause-past c = λ m j below le.
    let here : c.in-Some.written.number / c.args.slots ≡ c.args.chunk = omega arith in
    let less : c.in-Some.written.number % c.args.slots < m = (rw c.in-Some.is at below) here in
    let a : ℕ = 272 * (c.in-Some.written.number % c.args.slots) + 272 in
    let split : a + (j - a) ≡ j = omega (arith, less, le) in
    ap (λ k. get_or c.write_slot.new.page k 0) (sym split) ∙ sym (get_or-drop a c.write_slot.new.page (j - a) 0) ∙ ap (λ (ys : List ℕ). get_or ys (j - a) 0) c.write_slot.ensures.past
    ∙ get_or-drop a c.args.page.now (j - a) 0 ∙ ap (λ k. get_or c.args.page.now k 0) split
