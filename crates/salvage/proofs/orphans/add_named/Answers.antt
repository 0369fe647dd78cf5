use Rattle.std.proofs.Common.{ℕ, List, None, Some, subst}
use Rattle.std.proofs.lemmas.Result.{on_ok_weaker}
use Rattle.std.specs.List.{Contains}
use Rattle.pages.specs.Maps.{has}
use Rattle.pages.specs.State.{PagesState}
use Rattle.salvage.specs.Orphans.{Adds}
use Rattle.salvage.specs.Reached.{LeadsTo}
use Rattle.salvage.specs.Reaching.{objects_in}
use Rattle.salvage.specs.SeenBy.{seen_by}
use Rattle.salvage.specs.Reported.{ListsDirectory}
use Rattle.salvage.proofs.Elements.{at_place, place_of}
use Rattle.salvage.proofs.Named.{led, leads}
use Rattle.salvage.proofs.Seeing.{page_size, single}
use Rattle.salvage.proofs.Sets.{adds_none, adds_same}
use Rattle.salvage.proofs.orphans.add_named.Goals as goal

pub returns-in-Some-clause-adds : goal.returns-in-Some-clause-adds
returns-in-Some-clause-adds g c = λ z is.
    let old : PagesState = seen_by c.args.pages.now in
    let listing = c.in-Some.listing in
    let size = page_size z (g.N.Nand.state c.args.pages.now.device) c.args.pages.now.index c.args.pages.now.page.items is in
    let reported : ListsDirectory z (has old.present) c.args.directory (Some listing) = rw c.in-Some.is at c.in_ok-listing.ensures.lists z is in
    let objects : List ℕ = objects_in listing.names.items in
    on_ok_weaker c.add_all.result
    (λ (adds : Adds (Contains (objects_in c.deref.result.now)) c.args.named.now c.add_all.new.named).
    adds_same (Contains objects) (LeadsTo z (has old.present) c.args.directory) c.args.named.now c.add_all.new.named
    (λ q. (
      λ at. leads z size.most (has old.present) (single old.present) c.args.directory (Some listing) reported q (place_of objects q at),
      λ l. let p = led z size.most (has old.present) (single old.present) c.args.directory (Some listing) reported q l in at_place objects p.0 q p.1,
    ))
    (subst (λ xs. Adds (Contains (objects_in xs)) c.args.named.now c.add_all.new.named) c.deref.ensures.value adds))
    c.add_all.ensures.adds

pub returns-in-None-clause-adds : goal.returns-in-None-clause-adds
returns-in-None-clause-adds g c = λ z is.
    let old : PagesState = seen_by c.args.pages.now in
    let reported : ListsDirectory z (has old.present) c.args.directory None = rw c.in-None.is at c.in_ok-listing.ensures.lists z is in
    adds_none (LeadsTo z (has old.present) c.args.directory) c.args.named.now (λ q l. reported l.fields l.has l.kind)
