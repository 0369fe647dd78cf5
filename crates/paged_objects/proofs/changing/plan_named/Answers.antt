use Rattle.std.proofs.Common.{◌≡◌, ◌∙◌, false, rules, sym, subst}
use Rattle.object_store.specs.Changes.{made}
use Rattle.paged_objects.specs.Holding.{HoldsObjects}
use Rattle.paged_objects.specs.Making.{changes_names}
use Rattle.paged_objects.specs.Naming.{HasNames, HoldsNamed, KeepsNames}
use Rattle.pages.specs.Maps.{PageMap, after_change}
use Rattle.pages.specs.State.{PagesState}
use Rattle.paged_objects.specs.laws.Showing.{holds_in}
use Rattle.paged_objects.proofs.Ends.{named_after, read_fault}
use Rattle.paged_objects.proofs.Kept.{keeps_names}
use Rattle.paged_objects.proofs.NamesStay.{names_stay}
use Rattle.paged_objects.proofs.changing.plan_named.Goals as goal

pub returns-in_ok-hash_names-in-Ok-clause-names : goal.returns-in_ok-hash_names-in-Ok-clause-names
returns-in_ok-hash_names-in-Ok-clause-names g c = λ z objects has kept make is.
    let p : PagesState = g.P.Pages.state c.args.pages.now in
    let q : PagesState = g.P.Pages.state c.plan.new.pages in
    let new = made objects c.args.change.now in
    let lookups = c.plan.ensures.lookups in
    let after = named_after c.args.names.now z p q objects lookups has in
    let here : HoldsNamed c.args.names.now p z objects = record { holds = holds_in z p objects has.pages.represents; hashes = has.named } in
    let holds : HoldsObjects z (after_change c.in-Ok.planned p.present) new = c.in-Ok.ensures.makes z objects here make is in
    let writes = c.in-Ok.ensures.slots z objects here make in
    let keeps : KeepsNames z p.present c.in-Ok.planned objects c.args.kept =
    keeps_names p z objects c.args.change.now c.in-Ok.planned c.args.kept kept (c.in-Ok.ensures.keeps z objects here make is) in
    subst (λ (m : PageMap). HasNames c.hash_names.new.names z (after_change c.in-Ok.planned m) new) lookups.present
    (c.in_ok-hash_names-in-Ok.ensures.hashes z objects new (record { holds = holds_in z q objects after.pages.represents; hashes = after.named }) writes
    (subst (λ (m : PageMap). KeepsNames z m c.in-Ok.planned objects c.args.kept) (sym lookups.present) keeps)
    (subst (λ (m : PageMap). HoldsObjects z (after_change c.in-Ok.planned m) new) (sym lookups.present) holds) has.pages.can.numbers make.fits)

pub returns-then-not-changes_names-clause-names : goal.returns-then-not-changes_names-clause-names
returns-then-not-changes_names-clause-names g c = λ z objects has kept make is.
    let p : PagesState = g.P.Pages.state c.args.pages.now in
    let none : changes_names c.args.change.now ≡ false = search rules in
    names_stay c.args.names.now z p.present c.in-Ok.planned objects c.args.change.now none c.in-Ok.ensures.only has.named

pub returns-in-Err-clause-fault : goal.returns-in-Err-clause-fault
returns-in-Err-clause-fault g c = λ z objects has make is.
    let p : PagesState = g.P.Pages.state c.args.pages.now in
    let q : PagesState = g.P.Pages.state c.plan.new.pages in
    let here : HoldsNamed c.args.names.now p z objects = record { holds = holds_in z p objects has.pages.represents; hashes = has.named } in
    rw c.fault_of.ensures (read_fault q c.in-Err.fault (g.met.P.PageStore.lost c.plan.new.pages (c.plan.ensures.lookups.sound ∙ has.pages.represents.sound))
    (c.in-Err.ensures.fault z objects here has.pages.can make is))
