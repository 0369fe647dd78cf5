use Rattle.std.proofs.lemmas.Result.{err_from_is_err_and}
use Rattle.std.specs.FinMap as map
use Rattle.pages.specs.State.{PagesState}
use Rattle.paged_objects.specs.Known.{ObjectsState, state_with}
use Rattle.paged_objects.proofs.Ends.{cut_done, cut_failed}
use Rattle.paged_objects.proofs.changing.forget.Goals as goal

pub returns-clause-makes : goal.returns-clause-makes
returns-clause-makes g c = λ objects has make.
    let p : PagesState = g.P.Pages.state c.args.pages.now in
    let a : ObjectsState = state_with p c.args.table.now c.args.names.now in
    let b : ObjectsState = state_with (g.P.Pages.state c.cut.new.self) c.apply.new.self c.drop_directory.new.self in
    let sound = has.pages.represents.sound in
    cut_done a b objects c.args.number has.pages c.cut.ensures.goes_on (c.in_ok-cut.ensures.sound sound) (c.in_ok-cut.ensures.present sound) (c.cut.ensures.committed sound)
    (c.apply.ensures.reports objects has.reports has.pages.can make) has.named c.drop_directory.ensures

pub returns-in_err-cut-clause-makes : goal.returns-in_err-cut-clause-makes
returns-in_err-cut-clause-makes g c = λ objects has make.
    let p : PagesState = g.P.Pages.state c.args.pages.now in
    let a : ObjectsState = state_with p c.args.table.now c.args.names.now in
    let b : ObjectsState = state_with (g.P.Pages.state c.cut.new.self) c.args.table.now c.args.names.now in
    let sound = has.pages.represents.sound in
    let e = err_from_is_err_and c.from_residual.result c.from_residual.ensures.1 in
    rw (e.1, e.2) (cut_failed a b objects (map.remove objects c.args.number) c.in_err-cut.field-0.0 has.pages c.cut.ensures.goes_on (c.cut.ensures.committed sound) (c.in_err-cut.ensures.fault sound))
