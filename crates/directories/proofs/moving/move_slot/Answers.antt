use Rattle.std.proofs.Common.{◌≡◌, ◌<◌, ◌≤◌, ◌+◌, ◌-◌, ◌/◌, ◌∙◌, ℕ, Option, sym, ap, subst, arith}
use Rattle.volume_terms.specs.Sizes.{page_slots}
use Rattle.pages.specs.Maps.{after_change}
use Rattle.pages.specs.State.{PagesState}
use Rattle.directories.specs.Directories.{HasOnly}
use Rattle.directories.specs.Moving.{MovesSlot, count_by, number_by}
use Rattle.directories.specs.Stores.{ObjectIn}
use Rattle.directories.specs.declared.head.DirectoryHead.{DirectoryHead}
use Rattle.directories.specs.declared.writing.Written.{Written}
use Rattle.directories.proofs.Written.{cut_change_is, moves_cut, only_behind, only_cut}
use Rattle.directories.proofs.moving.move_slot.Goals as goal

pub returns-in_default-clause-moves : goal.returns-in_default-clause-moves
returns-in_default-clause-moves g c = λ sound z size.
    let old : PagesState = g.P.Pages.state c.args.pages.now in
    let it : ObjectIn = record { sizes = z; pages = old.present; object = c.args.directory } in
    let n : ℕ = c.args.moving.before in
    let put : Option ℕ → Written = λ t. record { number = number_by t n; slot = c.args.slot.now } in
    let head : Option ℕ → DirectoryHead = λ t. record { spare = c.args.head.spare; length = count_by t n; moment = c.args.head.moment } in
    subst (λ (t : Option ℕ). MovesSlot it c.args.moving (put t) (head t) c.in_ok-change.change) (sym c.in_default.is) (c.in_ok-change.ensures.moves sound z size)

pub returns-in_default-clause-besides : goal.returns-in_default-clause-besides
returns-in_default-clause-besides g c = λ sound z size only.
    let old : PagesState = g.P.Pages.state c.args.pages.now in
    let n : ℕ = c.args.moving.before in
    subst (λ (t : Option ℕ). HasOnly z (after_change c.in_ok-change.change old.present) c.args.directory (count_by t n)) (sym c.in_default.is)
    (λ k behind. c.in_ok-change.ensures.pages sound z size old.present k behind ∙ only k behind)

pub returns-clause-change : goal.returns-clause-change
returns-clause-change g c = cut_change_is c.in_ok-change-2.change c.in_ok-cut.cut _ 3 c.in_ok-cut.ensures.pages c.in_ok-change-2.ensures.change.few

pub returns-clause-only : goal.returns-clause-only
returns-clause-only g c = only_cut c.args.directory _ _ c.in_ok-change-2.change c.in_ok-cut.cut c.in_ok-cut.ensures.pages c.in_ok-cut.ensures.cuts c.in_ok-change-2.ensures.change.only

pub returns-clause-moves : goal.returns-clause-moves
returns-clause-moves g c = λ sound z size.
    let old : PagesState = g.P.Pages.state c.args.pages.now in
    let it : ObjectIn = record { sizes = z; pages = old.present; object = c.args.directory } in
    let before : ℕ = c.args.moving.before in
    let last : ℕ = before - 1 in
    let number : ℕ = c.in-Some.number in
    let n : ℕ = c.page_bytes.result / 272 in
    let slots : n ≡ page_slots z = ap (λ k. k / 272) (c.page_bytes.ensures.bytes ∙ sym size) in
    let some : 1 ≤ n = omega (arith, c.page_bytes.ensures.least) in
    let within : c.args.moving.place < before = c.requires.within in
    let back : before ≡ last + 1 = omega (arith, within) in
    let target : number + 1 < before = rw c.in-Some.is at c.requires.target in
    let shorter : DirectoryHead = record { spare = c.args.head.spare; length = last; moment = c.args.head.moment } in
    let written : Written = record { number = number; slot = c.args.slot.now } in
    let put : Option ℕ → Written = λ t. record { number = number_by t before; slot = c.args.slot.now } in
    let head : Option ℕ → DirectoryHead = λ t. record { spare = c.args.head.spare; length = count_by t before; moment = c.args.head.moment } in
    subst (λ (t : Option ℕ). MovesSlot it c.args.moving (put t) (head t) c.in_ok-cut.cut) (sym c.in-Some.is)
    (moves_cut z old.present c.args.directory shorter c.in_ok-change-2.change c.in_ok-cut.cut c.in_ok-cut.ensures.pages c.in_ok-change-2.ensures.change.uncut n slots some c.in_ok-cut.ensures.cuts
    c.args.moving written (omega (arith, target)) back within (c.in_ok-change-2.ensures.moves sound z size))

pub returns-clause-besides : goal.returns-clause-besides
returns-clause-besides g c = λ sound z size only.
    let old : PagesState = g.P.Pages.state c.args.pages.now in
    let before : ℕ = c.args.moving.before in
    let last : ℕ = before - 1 in
    let n : ℕ = c.page_bytes.result / 272 in
    let slots : n ≡ page_slots z = ap (λ k. k / 272) (c.page_bytes.ensures.bytes ∙ sym size) in
    let some : 1 ≤ n = omega (arith, c.page_bytes.ensures.least) in
    let back : before ≡ last + 1 = omega (arith, c.requires.within) in
    subst (λ (t : Option ℕ). HasOnly z (after_change c.in_ok-cut.cut old.present) c.args.directory (count_by t before)) (sym c.in-Some.is)
    (only_behind z old.present c.args.directory last c.in_ok-change-2.change c.in_ok-cut.cut c.in_ok-cut.ensures.pages c.in_ok-change-2.ensures.change.uncut n slots some c.in_ok-cut.ensures.cuts
    (λ k. c.in_ok-change-2.ensures.pages sound z size k) (subst (HasOnly z old.present c.args.directory) back only))
