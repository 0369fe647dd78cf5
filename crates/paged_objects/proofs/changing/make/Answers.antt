use Rattle.std.proofs.Common.{◌≡◌, Ok, Err}
use Rattle.std.proofs.lemmas.Result.{err_from_is_err_and}
use Rattle.volume_terms.specs.Sizes.{Sizes}
use Rattle.volume_terms.specs.declared.fault.StoreFault.TheVariants as faults
use Rattle.object_store.specs.Changes.{made}
use Rattle.posix_profile.specs.Changes.{new_number}
use Rattle.object_store.specs.Reported.{table_sizes, Reports}
use Rattle.pages.specs.State.{PagesState}
use Rattle.paged_objects.specs.Ending.{EndsPages}
use Rattle.paged_objects.specs.Known.{ObjectsState, state_with}
use Rattle.paged_objects.specs.laws.Going.{stays_here, goes_here}
use Rattle.paged_objects.specs.laws.Lawful.{reports_on}
use Rattle.paged_objects.proofs.Ends.{not_made}
use Rattle.paged_objects.proofs.Meant.{has_named, can_make, can_have}
use Rattle.paged_objects.proofs.changing.make.Goals as goal

pub returns-in_err-prepare-clause-goes_on : goal.returns-in_err-prepare-clause-goes_on
returns-in_err-prepare-clause-goes_on g c = goes_here (g.P.Pages.state c.args.pages.now)

pub returns-in_err-prepare-clause-makes : goal.returns-in_err-prepare-clause-makes
returns-in_err-prepare-clause-makes g c = λ objects has make.
    let p : PagesState = g.P.Pages.state c.args.pages.now in
    let e = err_from_is_err_and c.from_residual.result c.from_residual.ensures.1 in
    rw (e.1, e.2) (not_made (state_with p c.args.table.now c.args.names.now) (state_with p c.prepare.new.table c.args.names.now) objects (made objects c.args.change.now) faults.NoMemory
    c.prepare.ensures.same (λ d h s it. it) (stays_here p))

pub returns-in_err-left-clause-makes : goal.returns-in_err-left-clause-makes
returns-in_err-left-clause-makes g c = λ objects has make.
    let p : PagesState = g.P.Pages.state c.args.pages.now in
    let r : PagesState = g.P.Pages.state c.change_pages.new.pages in
    let z : Sizes = table_sizes c.args.table.now in
    let a : ObjectsState = state_with p c.args.table.now c.args.names.now in
    let new = made objects c.args.change.now in
    let next : c.new_number-new.result ≡ new_number objects = c.new_number-new.ensures objects (reports_on c.args.table.now c.prepare.new.table objects c.prepare.ensures.same has.reports) in
    let ends : EndsPages z p r objects new (Err c.in_err-left.field-0.0) = c.in_err-left.ensures.makes z objects (has_named a objects has) make next in
    let e = err_from_is_err_and c.from_residual-in_err-left.result c.from_residual-in_err-left.ensures.1 in
    rw (e.1, e.2) (not_made a (state_with r c.prepare.new.table c.change_pages.new.names) objects new c.in_err-left.field-0.0 c.prepare.ensures.same c.change_pages.ensures.committed ends)

pub returns-clause-makes : goal.returns-clause-makes
returns-clause-makes g c = λ objects has make.
    let r : PagesState = g.P.Pages.state c.change_pages.new.pages in
    let z : Sizes = table_sizes c.args.table.now in
    let a : ObjectsState = state_with (g.P.Pages.state c.args.pages.now) c.args.table.now c.args.names.now in
    let same = c.prepare.ensures.same in
    let named = has_named a objects has in
    let reports = reports_on c.args.table.now c.prepare.new.table objects same has.reports in
    let next : c.new_number-new.result ≡ new_number objects = c.new_number-new.ensures objects reports in
    let ends : EndsPages z (g.P.Pages.state c.args.pages.now) r objects (made objects c.args.change.now) (Ok tt) = c.in_ok-left.ensures.makes z objects named make next in
    let reported : Reports c.apply.new.self (made objects c.args.change.now) =
    c.apply.ensures.reports objects reports (can_have z (table_sizes c.prepare.new.table) objects same.sizes has.pages.can) (can_make z (table_sizes c.prepare.new.table) objects c.args.change.now same.sizes make) in (
      ends.0,
      reported,
      c.drop_names.ensures z r.present objects (c.in_ok-left.ensures.names z objects named (c.kept_by-kept.ensures z objects reports make) make next) reported (c.in_ok-left.ensures.left z objects named make next),
      ends.1,
    )
