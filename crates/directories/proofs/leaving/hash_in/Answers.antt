use Rattle.std.proofs.Common.{◌≡◌, ◌+◌, ◌/◌, ◌∙◌, ap, sym, subst, arith}
use Rattle.pages.specs.Maps.{IsPageOf}
use Rattle.volume_terms.specs.Sizes.{page_slots}
use Rattle.directories.specs.Leaving.{IsFirstPage}
use Rattle.directories.proofs.Left.{written_by, none_by, none_short}
use Rattle.directories.proofs.leaving.hash_in.Goals as goal

pub returns-then-slots-eq0-clause-none : goal.returns-then-slots-eq0-clause-none
returns-then-slots-eq0-clause-none c = λ z size.
    let none : c.args.page_bytes / 272 ≡ 0 = c.if-slots-eq0.true in
    none_short c.args.pages.now c.args.directory c.args.slot c.args.page_bytes c.requires (omega (arith, none)) z

pub returns-in_err-page-clause-none : goal.returns-in_err-page-clause-none
returns-in_err-page-clause-none c = rw c.from_residual.ensures (λ z size i of.
    let slots : c.args.page_bytes / 272 ≡ page_slots z = ap (λ n. n / 272) (sym size) in
    let chunk : 1 + c.args.slot / page_slots z ≡ 1 + c.from.result = ap (λ n. 1 + n) (sym (c.from.ensures ∙ ap (λ n. c.args.slot / n) slots)) in
    absurd (c.in_err-page.ensures.none i (subst (λ k. IsPageOf c.args.pages.now c.args.directory k i) chunk of)))

pub returns-clause-hash : goal.returns-clause-hash
returns-clause-hash c = written_by c.args.pages.now c.args.directory c.args.slot c.args.page_bytes c.in_ok-page.page.now
    (subst (λ k. IsFirstPage c.args.pages.now c.args.directory (1 + k) c.in_ok-page.page.now) c.from.ensures c.in_ok-page.ensures.first)
    c.slot_of.result.now c.slot_of.ensures.bytes c.hash_of_slot.result c.hash_of_slot.ensures.hash

pub returns-clause-none : goal.returns-clause-none
returns-clause-none c = none_by c.args.pages.now c.args.directory c.args.slot c.args.page_bytes c.in_ok-page.page.now
    (subst (λ k. IsFirstPage c.args.pages.now c.args.directory (1 + k) c.in_ok-page.page.now) c.from.ensures c.in_ok-page.ensures.first)
    c.slot_of.result.now c.slot_of.ensures.bytes c.hash_of_slot.result c.hash_of_slot.ensures.none
