use Rattle.std.proofs.Common.{◌≡◌, ◌<◌, ◌+◌, ◌-◌, ◌∙◌, ℕ, length, refl, sym, subst, arith}
use Rattle.std.proofs.lemmas.Result.{err_from_is_err_and}
use Rattle.flash_tree.specs.Tree.{IsPageSize}
use Rattle.pages.specs.Changes.{IsChange}
use Rattle.pages.specs.Maps.{PageMap, after_change}
use Rattle.pages.specs.State.{PagesState}
use Rattle.pages.specs.laws.Faults.{lacks_memory}
use Rattle.pages.specs.declared.change.Change.{Change}
use Rattle.directories.specs.Directories.{HasOnly, SlotOf}
use Rattle.directories.specs.Slots.{AreSlots}
use Rattle.directories.specs.Writes.{LosesSlot}
use Rattle.directories.specs.declared.head.DirectoryHead.{DirectoryHead}
use Rattle.directories.proofs.Reported.{are_on}
use Rattle.directories.proofs.SlotLists.{taken_out}
use Rattle.directories.proofs.Sought.{reports_none, reports_some, was_named}
use Rattle.directories.proofs.taking.remove.Goals as goal

pub returns-in_err-sought-clause-fault : goal.returns-in_err-sought-clause-fault
returns-in_err-sought-clause-fault g c = λ z moment entries d.
    let r = err_from_is_err_and c.from_residual.result c.from_residual.ensures.1 in
    rw (r.1, r.2) (lacks_memory (g.P.Pages.state c.args.pages.now) (g.P.Pages.state c.seek.new.pages) _ (c.in_err-sought.ensures.fault z moment entries d))

pub returns-in_default-clause-named : goal.returns-in_default-clause-named
returns-in_default-clause-named g c = λ z moment entries d. rw c.in_default.is at (c.in_ok-sought.ensures.sought z moment entries d).found

pub returns-in_default-clause-reported : goal.returns-in_default-clause-reported
returns-in_default-clause-reported g c = λ sound z size.
    let t = c.in_ok-sought.ensures.reported sound z size in
    reports_none c.args.names.now z (g.P.Pages.state c.args.pages.now) c.args.directory c.in_ok-sought.sought.head t.0 c.args.name.now (rw c.in_default.is at t.1)

pub returns-in_err-change-clause-fault : goal.returns-in_err-change-clause-fault
returns-in_err-change-clause-fault g c = λ z moment entries d.
    let old : PagesState = g.P.Pages.state c.args.pages.now in
    let mid : PagesState = g.P.Pages.state c.seek.new.pages in
    let lookups = c.seek.ensures.lookups in
    let s = (c.in_ok-sought.ensures.reported d.sound z d.size).0 in
    let sized = g.met.P.Pages.sized c.args.pages.now in
    let n : ℕ = c.in_ok-sought.sought.head.length in
    let within : c.in-Some.found.place < n = rw c.in-Some.is at c.in_ok-sought.ensures.within in
    let back : n ≡ n - 1 + 1 = omega (arith, within) in
    let r = err_from_is_err_and c.from_residual-in_err-change.result c.from_residual-in_err-change.ensures.1 in
    rw (r.1, r.2) (c.in_err-change.ensures.fault (lookups.sound ∙ d.sound) z (d.size ∙ sym lookups.page_bytes)
    (subst (λ k. AreSlots (SlotOf z mid.present c.args.directory) 0 k) back (are_on old mid lookups z c.args.directory moment entries d sized c.in_ok-sought.sought.head s)))

pub returns-clause-named : goal.returns-clause-named
returns-clause-named g c = λ z moment entries d.
    was_named c.args.names.now (g.P.Pages.state c.args.pages.now) z c.args.directory moment entries d c.args.name.now c.in-Some.found (rw c.in-Some.is at (c.in_ok-sought.ensures.sought z moment entries d).found)

pub returns-clause-removes : goal.returns-clause-removes
returns-clause-removes g c = λ z moment entries d.
    let old : PagesState = g.P.Pages.state c.args.pages.now in
    let lookups = c.seek.ensures.lookups in
    let o : ℕ = c.args.directory in
    let sized = g.met.P.Pages.sized c.args.pages.now in
    let page_size : IsPageSize z.page_bytes = record { least = omega (arith, d.size, sized.0); most = omega (arith, d.size, sized.1) } in
    let sought = c.in_ok-sought.ensures.sought z moment entries d in
    let n : ℕ = c.in_ok-sought.sought.head.length in
    let found = rw c.in-Some.is at sought.found in
    let within : c.in-Some.found.place < n = rw c.in-Some.is at c.in_ok-sought.ensures.within in
    let change : Change = c.in_ok-change.change in
    let head : DirectoryHead = record { spare = c.in_ok-sought.sought.head.spare; length = n - 1; moment = c.args.moment } in
    let sound_then = lookups.sound ∙ d.sound in
    let size_then = d.size ∙ sym lookups.page_bytes in
    let loses = subst (λ (k : PageMap). LosesSlot z k change o head c.in-Some.found.place) lookups.present (c.in_ok-change.ensures.removes sound_then z size_then) in
    let turns = subst (λ (k : PageMap). HasOnly z k o (n - 1 + 1) → HasOnly z (after_change change k) o (n - 1)) lookups.present (c.in_ok-change.ensures.besides sound_then z size_then) in
    let count : length d.reads.slots ≡ n - 1 + 1 = omega (arith, within, sought.head.length_is, d.reads.size) in
    let is : IsChange change old.page_bytes 2 = subst (λ k. IsChange change k 2) lookups.page_bytes c.in_ok-change.ensures.change in
    taken_out z page_size old.present o moment entries d.reads c.args.name.now c.in-Some.found.place found.0 found.1 found.2 head count change loses c.args.moment old.page_bytes 2 sought.head.spare refl is d.size turns

pub returns-clause-reported : goal.returns-clause-reported
returns-clause-reported g c = λ sound z size.
    let t = c.in_ok-sought.ensures.reported sound z size in (
      c.in-Some.found.object,
      reports_some c.args.names.now z (g.P.Pages.state c.args.pages.now) c.args.directory c.in_ok-sought.sought.head t.0 c.args.name.now c.in-Some.found (rw c.in-Some.is at t.1),
    )
