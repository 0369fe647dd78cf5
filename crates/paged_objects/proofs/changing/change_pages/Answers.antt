use Rattle.std.proofs.Common.{◌≡◌, ◌≤◌, ◌∙◌, length, sym, ap, subst, arith, Ok, Err}
use Rattle.std.proofs.lemmas.Result.{err_from_is_err_and}
use Rattle.volume_terms.specs.Sizes.{buffer_pages}
use Rattle.object_store.specs.Changes.{made}
use Rattle.paged_objects.specs.Holding.{HoldsObjects}
use Rattle.paged_objects.specs.Plans.{most_pages}
use Rattle.pages.specs.Maps.{PageMap, after_change}
use Rattle.pages.specs.State.{PagesState}
use Rattle.pages.specs.Stores.{SamePages}
use Rattle.paged_objects.specs.laws.Going.{finds_stay, stays_goes, goes_on}
use Rattle.paged_objects.specs.laws.Lawful.{more_names}
use Rattle.paged_objects.proofs.Dropped.{left_by_change, leaves_at}
use Rattle.paged_objects.proofs.Ends.{has_after, ends_after, read_ends}
use Rattle.paged_objects.proofs.Planned.{few_pages}
use Rattle.paged_objects.proofs.changing.change_pages.Goals as goal

pub returns-in_err-planned-clause-goes_on : goal.returns-in_err-planned-clause-goes_on
returns-in_err-planned-clause-goes_on g c =
    stays_goes (g.P.Pages.state c.args.pages.now) (g.P.Pages.state c.plan_named.new.pages) (finds_stay _ _ c.plan_named.ensures.lookups)

pub returns-in_err-planned-clause-makes : goal.returns-in_err-planned-clause-makes
returns-in_err-planned-clause-makes g c = λ z objects has make is.
    let p : PagesState = g.P.Pages.state c.args.pages.now in
    let q : PagesState = g.P.Pages.state c.plan_named.new.pages in
    let e = err_from_is_err_and c.from_residual.result c.from_residual.ensures.1 in
    rw (e.1, e.2) (read_ends z p q objects (made objects c.args.change.now) c.in_err-planned.field-0.0 c.plan_named.ensures.lookups (c.in_err-planned.ensures.fault z objects has make is))

pub returns-in_err-take-clause-goes_on : goal.returns-in_err-take-clause-goes_on
returns-in_err-take-clause-goes_on g c =
    let p : PagesState = g.P.Pages.state c.args.pages.now in
    let q : PagesState = g.P.Pages.state c.plan_named.new.pages in
    goes_on p q (g.P.Pages.state c.take.new.pages) (stays_goes p q (finds_stay p q c.plan_named.ensures.lookups)) c.take.ensures.goes_on

pub returns-in_err-take-clause-makes : goal.returns-in_err-take-clause-makes
returns-in_err-take-clause-makes g c = λ z objects has make is.
    let p : PagesState = g.P.Pages.state c.args.pages.now in
    let q : PagesState = g.P.Pages.state c.plan_named.new.pages in
    let new = made objects c.args.change.now in
    let planned = c.in_ok-planned.planned in
    let holds : HoldsObjects z (after_change planned p.present) new = c.in_ok-planned.ensures.makes z objects has make is in
    let within_limit : length planned.pages.items ≤ most_pages p.page_bytes c.args.change.now = c.in_ok-planned.ensures.change.within_limit in
    let most : most_pages z.page_bytes c.args.change.now ≤ buffer_pages z = few_pages z objects c.args.change.now has.pages.can.numbers make.sensible in
    let same : most_pages p.page_bytes c.args.change.now ≡ most_pages z.page_bytes c.args.change.now = ap (λ d. most_pages d c.args.change.now) has.pages.represents.page_bytes in
    let sufficient : q.most ≡ buffer_pages z = c.plan_named.ensures.lookups.most ∙ has.pages.represents.most in
    let e = err_from_is_err_and c.from_residual-in_err-take.result c.from_residual-in_err-take.ensures.1 in
    rw (e.1, e.2) (ends_after z p q (g.P.Pages.state c.take.new.pages) objects new (Err c.in_err-take.field-0.0) (finds_stay p q c.plan_named.ensures.lookups)
    (c.in_err-take.ensures.makes z objects new (has_after z p q objects c.plan_named.ensures.lookups has.pages) (omega (arith, within_limit, most, same, sufficient))
    (subst (λ (m : PageMap). HoldsObjects z (after_change planned m) new) (sym c.plan_named.ensures.lookups.present) holds)))

pub returns-clause-goes_on : goal.returns-clause-goes_on
returns-clause-goes_on g c =
    let p : PagesState = g.P.Pages.state c.args.pages.now in
    let q : PagesState = g.P.Pages.state c.plan_named.new.pages in
    goes_on p q (g.P.Pages.state c.take.new.pages) (stays_goes p q (finds_stay p q c.plan_named.ensures.lookups)) c.take.ensures.goes_on

pub returns-clause-makes : goal.returns-clause-makes
returns-clause-makes g c = λ z objects has make is.
    let p : PagesState = g.P.Pages.state c.args.pages.now in
    let q : PagesState = g.P.Pages.state c.plan_named.new.pages in
    let new = made objects c.args.change.now in
    let planned = c.in_ok-planned.planned in
    let holds : HoldsObjects z (after_change planned p.present) new = c.in_ok-planned.ensures.makes z objects has make is in
    let within_limit : length planned.pages.items ≤ most_pages p.page_bytes c.args.change.now = c.in_ok-planned.ensures.change.within_limit in
    let most : most_pages z.page_bytes c.args.change.now ≤ buffer_pages z = few_pages z objects c.args.change.now has.pages.can.numbers make.sensible in
    let same : most_pages p.page_bytes c.args.change.now ≡ most_pages z.page_bytes c.args.change.now = ap (λ d. most_pages d c.args.change.now) has.pages.represents.page_bytes in
    let sufficient : q.most ≡ buffer_pages z = c.plan_named.ensures.lookups.most ∙ has.pages.represents.most in
    ends_after z p q (g.P.Pages.state c.take.new.pages) objects new (Ok tt) (finds_stay p q c.plan_named.ensures.lookups)
    (c.in_ok-take.ensures.makes z objects new (has_after z p q objects c.plan_named.ensures.lookups has.pages) (omega (arith, within_limit, most, same, sufficient))
    (subst (λ (m : PageMap). HoldsObjects z (after_change planned m) new) (sym c.plan_named.ensures.lookups.present) holds))

pub returns-clause-names : goal.returns-clause-names
returns-clause-names g c = λ z objects has kept make is.
    let p : PagesState = g.P.Pages.state c.args.pages.now in
    let q : PagesState = g.P.Pages.state c.plan_named.new.pages in
    let r : PagesState = g.P.Pages.state c.take.new.pages in
    let planned = c.in_ok-planned.planned in
    let there : SamePages r.present (after_change planned q.present) = c.in_ok-take.ensures.present (c.plan_named.ensures.lookups.sound ∙ has.pages.represents.sound) in
    let same : SamePages r.present (after_change planned p.present) = subst (λ (m : PageMap). SamePages r.present (after_change planned m)) c.plan_named.ensures.lookups.present there in
    more_names z c.plan_named.new.names c.plan_named.new.names (after_change planned p.present) r.present (made objects c.args.change.now) (λ d h s it. it) same (c.in_ok-planned.ensures.names z objects has kept make is)

pub returns-clause-left : goal.returns-clause-left
returns-clause-left g c = λ z objects has make is.
    let p : PagesState = g.P.Pages.state c.args.pages.now in
    let q : PagesState = g.P.Pages.state c.plan_named.new.pages in
    let r : PagesState = g.P.Pages.state c.take.new.pages in
    let planned = c.in_ok-planned.planned in
    let bytes : z.page_bytes ≡ c.page_bytes.result = sym (c.page_bytes.ensures.bytes ∙ c.plan_named.ensures.lookups.page_bytes ∙ has.pages.represents.page_bytes) in
    left_by_change z q.present r.present (made objects c.args.change.now) planned c.args.change.now c.left_by-left.result (c.in_ok-take.ensures.present (c.plan_named.ensures.lookups.sound ∙ has.pages.represents.sound))
    (leaves_at z planned c.args.change.now c.left_by-left.result c.page_bytes.result bytes c.left_by-left.ensures)
