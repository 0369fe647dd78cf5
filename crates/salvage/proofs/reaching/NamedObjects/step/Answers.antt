use Rattle.std.proofs.Common.{◌≡◌, ◌∙◌, ℕ, None, Some, slice_get, sym, ap, subst}
use Rattle.std.proofs.lemmas.Option.{slice_get-get_or}
use Rattle.std.proofs.lemmas.Result.{on_ok_weaker}
use Rattle.flash_tree.specs.Mount.{with_new}
use Rattle.pages.specs.Maps.{has}
use Rattle.pages.specs.State.{PagesState}
use Rattle.salvage.specs.Reaching.{Puts, objects_in}
use Rattle.salvage.specs.SeenBy.{seen_by}
use Rattle.salvage.specs.Reported.{ListsDirectory}
use Rattle.salvage.proofs.Going.{goes_on, stays_on}
use Rattle.salvage.proofs.Named.{led, leads}
use Rattle.salvage.proofs.Seeing.{page_size, single}
use Rattle.salvage.proofs.reaching.NamedObjects.step.Goals as goal

pub returns-in-Some-clause-knows : goal.returns-in-Some-clause-knows
returns-in-Some-clause-knows g c = on_ok_weaker c.put_all.result (λ (puts : Puts (objects_in c.deref.result.now) c.args.self.now c.put_all.new.self). puts.knows) c.put_all.ensures.puts

pub returns-in-Some-clause-goes : goal.returns-in-Some-clause-goes
returns-in-Some-clause-goes g c = λ from z is r.
    let old : PagesState = seen_by c.args.pages.now in
    let list = c.args.self.now.objects.items in
    let object : ℕ = c.index-object.result.now in
    let at : slice_get list c.args.place ≡ Some object = slice_get-get_or list c.args.place object c.requires.within ∙ ap Some (sym c.index-object.ensures) in
    let size = page_size z (g.N.Nand.state c.args.pages.now.device) c.args.pages.now.index c.args.pages.now.page.items is in
    let reported : ListsDirectory z (has old.present) object (Some c.in-Some.listing) = rw c.in-Some.is at c.in_ok-listing.ensures.lists z is in
    on_ok_weaker c.put_all.result
    (λ (puts : Puts (objects_in c.deref.result.now) c.args.self.now c.put_all.new.self).
    goes_on z (has old.present) from c.args.place object list (objects_in c.in-Some.listing.names.items) c.put_all.new.self.objects.items r at
    (led z size.most (has old.present) (single old.present) object (Some c.in-Some.listing) reported)
    (leads z size.most (has old.present) (single old.present) object (Some c.in-Some.listing) reported)
    (subst (λ xs. c.put_all.new.self.objects.items ≡ with_new list (objects_in xs)) c.deref.ensures.value puts.objects))
    c.put_all.ensures.puts

pub returns-in-None-clause-goes : goal.returns-in-None-clause-goes
returns-in-None-clause-goes g c = λ from z is r.
    let old : PagesState = seen_by c.args.pages.now in
    let list = c.args.self.now.objects.items in
    let object : ℕ = c.index-object.result.now in
    let at : slice_get list c.args.place ≡ Some object = slice_get-get_or list c.args.place object c.requires.within ∙ ap Some (sym c.index-object.ensures) in
    let reported : ListsDirectory z (has old.present) object None = rw c.in-None.is at c.in_ok-listing.ensures.lists z is in
    stays_on z (has old.present) from c.args.place object list r at (λ o l. reported l.fields l.has l.kind)
