use Rattle.std.proofs.Common.{◌≡◌, ◌∙◌, Some, None, sym, ap, subst}
use Rattle.std.proofs.lemmas.Result.{err_from_is_err_and}
use Rattle.std.specs.FinMap as map
use Rattle.posix_profile.specs.State.{Name, Objects, IsDirectory, entries_of}
use Rattle.posix_profile.specs.Changes.{with_name, without_name}
use Rattle.pages.specs.Maps.{after_change}
use Rattle.pages.specs.State.{PagesState}
use Rattle.pages.specs.declared.change.Change.{Change}
use Rattle.paged_objects.specs.Holding.{HoldsObjects}
use Rattle.paged_objects.specs.Naming.{WritesNames}
use Rattle.paged_objects.proofs.Entries.{named_number}
use Rattle.paged_objects.proofs.moving.move_name.Goals as goal

pub returns-in_err-slot-clause-fault : goal.returns-in_err-slot-clause-fault
returns-in_err-slot-clause-fault g c = λ z objects n can leads target name.
    absurd (c.in_err-slot.ensures.fault name (named_number z objects can c.args.from.directory c.args.number c.args.from.name.now leads))

pub returns-in_err-change-clause-fault : goal.returns-in_err-change-clause-fault
returns-in_err-change-clause-fault g c = λ z objects n can leads target name.
    let source : IsDirectory objects c.args.from.directory = (leads.moment, leads.entries, leads.directory_is) in
    let r = err_from_is_err_and c.from_residual-in_err-change.result c.from_residual-in_err-change.ensures.1 in
    rw (r.1, r.2) (c.in_err-change.ensures.fault z objects n can source target)

pub returns-in_default-clause-fault : goal.returns-in_default-clause-fault
returns-in_default-clause-fault g c = λ z objects n can leads target name.
    let source : IsDirectory objects c.args.from.directory = (leads.moment, leads.entries, leads.directory_is) in
    let reported : map.get (entries_of (map.get objects c.args.from.directory)) c.args.from.name.now ≡ None = rw c.in_default.is at (c.in_ok-change.ensures.named z objects n source) in
    let two : None ≡ Some c.args.number = sym reported ∙ ap (λ x. map.get (entries_of x) c.args.from.name.now) leads.directory_is ∙ leads.object_is in
    absurd cc

pub returns-clause-change : goal.returns-clause-change
returns-clause-change g c = c.in_ok-and_forget.ensures.change (g.P.Pages.state c.args.pages.now).page_bytes 4 (rw c.in-Some.is at c.in_ok-change.ensures.change)

pub returns-clause-moves : goal.returns-clause-moves
returns-clause-moves g c = λ replaced z objects n leads target.
    let p : PagesState = g.P.Pages.state c.args.pages.now in
    let source : IsDirectory objects c.args.from.directory = (leads.moment, leads.entries, leads.directory_is) in
    let change : Change = c.in-Some.change in
    let base : Objects = without_name objects c.args.moment c.args.from.directory c.args.from.name.now in
    let moved = rw c.in-Some.is at (c.in_ok-change.ensures.moves z objects n source target) in
    let named : HoldsObjects z (after_change change p.present) (with_name base c.args.moment c.args.to.directory c.args.to.name.now c.args.number) =
    subst (λ k. HoldsObjects z (after_change change p.present) (with_name base c.args.moment c.args.to.directory c.args.to.name.now k)) c.in_ok-slot.ensures.object
    (subst (λ (k : Name). HoldsObjects z (after_change change p.present) (with_name base c.args.moment c.args.to.directory k c.in_ok-slot.slot.object)) c.in_ok-slot.ensures.name moved) in
    c.in_ok-and_forget.ensures.forgets z p.present (with_name base c.args.moment c.args.to.directory c.args.to.name.now c.args.number) named

pub returns-clause-slots : goal.returns-clause-slots
returns-clause-slots g c = λ replaced z objects n leads target.
    let source : IsDirectory objects c.args.from.directory = (leads.moment, leads.entries, leads.directory_is) in
    let change : Change = c.in-Some.change in
    let base : Objects = without_name objects c.args.moment c.args.from.directory c.args.from.name.now in
    let moved = rw c.in-Some.is at (c.in_ok-change.ensures.slots z objects n source target) in
    let named : WritesNames z change objects (with_name base c.args.moment c.args.to.directory c.args.to.name.now c.args.number) =
    subst (λ k. WritesNames z change objects (with_name base c.args.moment c.args.to.directory c.args.to.name.now k)) c.in_ok-slot.ensures.object
    (subst (λ (k : Name). WritesNames z change objects (with_name base c.args.moment c.args.to.directory k c.in_ok-slot.slot.object)) c.in_ok-slot.ensures.name moved) in
    c.in_ok-and_forget.ensures.slots z objects (with_name base c.args.moment c.args.to.directory c.args.to.name.now c.args.number) named
