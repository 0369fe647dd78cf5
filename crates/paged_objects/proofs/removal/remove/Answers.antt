use Rattle.std.proofs.Common.{◌≡◌, ◌∙◌, ℕ, Some, None, sym, subst}
use Rattle.std.proofs.lemmas.Result.{err_from_is_err_and}
use Rattle.std.specs.FinMap as map
use Rattle.posix_profile.specs.State.{Entries, Dir, IsDirectory}
use Rattle.posix_profile.specs.Changes.{without_name}
use Rattle.pages.specs.Maps.{after_change}
use Rattle.pages.specs.State.{PagesState}
use Rattle.pages.specs.declared.change.Change.{Change}
use Rattle.paged_objects.specs.Holding.{HoldsObjects}
use Rattle.paged_objects.specs.laws.Holding.{directory_in, held_directory}
use Rattle.paged_objects.proofs.NamedHere.{named_in}
use Rattle.paged_objects.proofs.Holdings.{holds_directory, entries_are}
use Rattle.paged_objects.proofs.removal.remove.Goals as goal

pub returns-in_err-made-clause-fault : goal.returns-in_err-made-clause-fault
returns-in_err-made-clause-fault g c = λ z objects o n leads.
    let dir : IsDirectory objects c.args.at.directory = (leads.moment, leads.entries, leads.directory_is) in
    let r = err_from_is_err_and c.from_residual.result c.from_residual.ensures.1 in
    rw (r.1, r.2) (c.in_err-made.ensures.fault z dir.0 dir.1 (directory_in (g.P.Pages.state c.args.pages.now) z objects n.holds c.args.at.directory dir))

pub returns-in_default-clause-fault : goal.returns-in_default-clause-fault
returns-in_default-clause-fault g c = λ z objects o n leads.
    let dir : IsDirectory objects c.args.at.directory = (leads.moment, leads.entries, leads.directory_is) in
    let none : map.get leads.entries c.args.at.name.now ≡ None =
    rw c.in_default.is at (c.in_ok-made.ensures.named z dir.0 dir.1 (named_in c.args.names.now (g.P.Pages.state c.args.pages.now) z objects n c.args.at.directory dir)) in
    let two : None ≡ Some o = sym none ∙ leads.object_is in
    absurd cc

pub returns-clause-change : goal.returns-clause-change
returns-clause-change g c = c.in_ok-and_forget.ensures.change (g.P.Pages.state c.args.pages.now).page_bytes 2 (rw c.in-Some.is at c.in_ok-made.ensures.change)

pub returns-clause-removes : goal.returns-clause-removes
returns-clause-removes g c = λ removed z objects o n leads.
    let p : PagesState = g.P.Pages.state c.args.pages.now in
    let d : ℕ = c.args.at.directory in
    let dir : IsDirectory objects d = (leads.moment, leads.entries, leads.directory_is) in
    let here = named_in c.args.names.now p z objects n d dir in
    let change : Change = c.in-Some.change in
    let entries : Entries = map.remove leads.entries c.args.at.name.now in
    let only = rw c.in-Some.is at c.in_ok-made.ensures.only in
    let takes = rw c.in-Some.is at (c.in_ok-made.ensures.removes z dir.0 dir.1 here) in
    let one : HoldsObjects z (after_change change p.present) (map.insert objects d (Dir c.args.moment entries)) = holds_directory p z objects n.holds d dir change c.args.moment entries only takes.makes.becomes (takes.makes.ends (held_directory p z objects n.holds d dir).only) in
    let reported : HoldsObjects z (after_change change p.present) (without_name objects c.args.moment d c.args.at.name.now) =
    subst (λ (es : Entries). HoldsObjects z (after_change change p.present) (map.insert objects d (Dir c.args.moment (map.remove es c.args.at.name.now)))) (entries_are p z objects n.holds d dir) one in
    c.in_ok-and_forget.ensures.forgets z p.present (without_name objects c.args.moment d c.args.at.name.now) reported
