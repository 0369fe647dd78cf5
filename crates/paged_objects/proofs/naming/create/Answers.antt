use Rattle.std.proofs.Common.{◌/◌, ◌+◌, ◌≡◌, ◌≢◌, ◌∙◌, ℕ, None, sym, ap, subst, arith}
use Rattle.std.proofs.lemmas.Result.{err_from_is_err_and}
use Rattle.std.specs.FinMap as map
use Rattle.volume_terms.specs.Sizes.{root_number, page_slots}
use Rattle.posix_profile.specs.State.{Name, Entries, Object, Objects, IsDirectory}
use Rattle.posix_profile.specs.Changes.{new_number, with_object}
use Rattle.posix_profile.specs.laws.Number.{new_number_is, new_number_few}
use Rattle.object_store.specs.Changes.{empty_object}
use Rattle.pages.specs.Changes.{IsChange}
use Rattle.pages.specs.Maps.{PageMap, after_change}
use Rattle.pages.specs.State.{PagesState}
use Rattle.pages.specs.declared.change.Change.{Change}
use Rattle.directories.specs.Changing.{AddsSlot, IsNew, Makes, OfDir, with_slot}
use Rattle.paged_objects.specs.Holding.{HoldsIn, HoldsObjects}
use Rattle.paged_objects.specs.laws.Holding.{held, held_directory, directory_in, same_objects}
use Rattle.directories.specs.laws.Keys.{key_both}
use Rattle.paged_objects.proofs.Entries.{few_entries}
use Rattle.paged_objects.proofs.Growing.{count, less_new, named_more}
use Rattle.paged_objects.proofs.Holdings.{entries_are, holds_new, other_number}
use Rattle.paged_objects.proofs.Kept.{keeps_both}
use Rattle.paged_objects.proofs.Results.{lacks_memory_only}
use Rattle.paged_objects.proofs.naming.create.Goals as goal

pub returns-in_err-slot-clause-fault : goal.returns-in_err-slot-clause-fault
returns-in_err-slot-clause-fault g c = λ z objects h can is absent.
    let low = (new_number_is objects).low in
    let within_limit = new_number_few z can.numbers objects can.fit in
    absurd (c.in_err-slot.ensures.fault absent.name (omega (arith, is, low), omega (arith, is, within_limit)))

pub returns-in_err-named-clause-fault : goal.returns-in_err-named-clause-fault
returns-in_err-named-clause-fault g c = λ z objects h can is absent.
    let p : PagesState = g.P.Pages.state c.args.pages.now in
    let q : PagesState = g.P.Pages.state c.add.new.pages in
    let dir : IsDirectory objects c.args.at.directory = absent.directory in
    let within_limit = few_entries z objects can c.args.at.directory dir in
    let r = err_from_is_err_and c.from_residual-in_err-named.result c.from_residual-in_err-named.ensures.1 in
    let there : PagesState = g.P.Pages.state c.new_object.new.pages in
    let holds : HoldsIn there z objects = subst (λ (s : PagesState). HoldsIn s z objects) (sym c.new_object.ensures.same) h in
    rw (r.1, r.2) (lacks_memory_only (map.len dir.1) q _ (omega (arith, within_limit)) (c.in_err-named.ensures.fault z dir.0 dir.1 (directory_in there z objects holds c.args.at.directory dir)))

pub returns-clause-creates : goal.returns-clause-creates
returns-clause-creates g c = λ z objects h is absent.
    let p : PagesState = g.P.Pages.state c.args.pages.now in
    let m : PageMap = p.present in
    let d : ℕ = c.args.at.directory in
    let o : ℕ = c.args.number in
    let dir : IsDirectory objects d = absent.directory in
    let here = directory_in p z objects h d dir in
    let put : Name = c.in_ok-slot.slot.name.now in
    let got : ℕ = c.in_ok-slot.slot.object in
    let name : Name = c.args.at.name.now in
    let first : Change = c.in_ok-object.object in
    let second : Change = c.in_ok-named.named in
    let x : Object = empty_object c.args.kind c.args.moment in
    let none : map.get dir.1 put ≡ None = ap (map.get dir.1) c.in_ok-slot.ensures.name ∙ ap (λ (es : Entries). map.get es name) (entries_are p z objects h d dir) ∙ absent.absent in
    let new = new_number_is objects in
    let free : map.get objects o ≡ None = ap (map.get objects) is ∙ new.free in
    let other : o ≢ root_number = λ root. omega (arith, is, new.low, root) in
    let made = c.in_ok-object.ensures.holds z m h.size other (held z m objects h.holds o None free) in
    let adds = subst (λ (s : PagesState). OfDir s d (λ a. IsNew a.entries c.in_ok-slot.slot → Makes a c.args.moment (with_slot a.entries c.in_ok-slot.slot) second)) c.new_object.ensures.same
    c.in_ok-named.ensures.adds z dir.0 dir.1 here none in
    let both : HoldsObjects z (after_change second (after_change first m)) (with_object objects c.args.moment d name x) =
    holds_new p z objects h d dir x o is first second c.args.moment put name got c.in_ok-slot.ensures.name c.in_ok-slot.ensures.object c.in_ok-object.ensures.only c.in_ok-named.ensures.only made
    adds.becomes (adds.ends (held_directory p z objects h d dir).only) in
    same_objects z (after_change second (after_change first m)) (after_change c.in_ok-change.change m) (with_object objects c.args.moment d name x) both (λ q k. c.in_ok-change.ensures.pages m q k)

pub returns-clause-change : goal.returns-clause-change
returns-clause-change g c =
    let p : PagesState = g.P.Pages.state c.args.pages.now in
    let a : IsChange c.in_ok-object.object p.page_bytes 1 = c.in_ok-object.ensures.change in
    let b : IsChange c.in_ok-named.named p.page_bytes 2 = subst (λ (s : PagesState). IsChange c.in_ok-named.named s.page_bytes 2) c.new_object.ensures.same c.in_ok-named.ensures.change in
    record {
      apart = c.in_ok-change.ensures.apart a.apart b.apart;
      size = c.in_ok-change.ensures.size p.page_bytes a.size b.size;
      within_limit = omega (arith, c.in_ok-change.ensures.within_limit, a.within_limit, b.within_limit);
    }

pub returns-clause-slots : goal.returns-clause-slots
returns-clause-slots g c = λ z objects h absent.
    let p : PagesState = g.P.Pages.state c.args.pages.now in
    let d : ℕ = c.args.at.directory in
    let dir : IsDirectory objects d = absent.directory in
    let slot = subst (λ (s : PagesState). OfDir s d (λ a. AddsSlot a c.in_ok-named.named)) c.new_object.ensures.same c.in_ok-named.ensures.slot
    z dir.0 dir.1 (directory_in p z objects h d dir) in
    let reported : map.len dir.1 ≡ count objects d = ap map.len (entries_are p z objects h d dir) in
    let base : Objects = map.insert objects (new_number objects) (empty_object c.args.kind c.args.moment) in
    named_more z c.in_ok-change.change objects base c.args.moment d c.args.at.name.now (new_number objects) (less_new objects (new_number objects) c.args.moment c.args.kind)
    (λ s low high. key_both c.in_ok-object.object c.in_ok-named.named c.in_ok-change.change c.in_ok-change.ensures.pages d (1 + s / page_slots z) (slot.more s (omega (arith, reported, low)) (omega (arith, reported, high))))

pub returns-clause-keeps : goal.returns-clause-keeps
returns-clause-keeps g c = λ z objects h is absent.
    let p : PagesState = g.P.Pages.state c.args.pages.now in
    let d : ℕ = c.args.at.directory in
    let o : ℕ = c.args.number in
    let dir : IsDirectory objects d = absent.directory in
    let free : map.get objects o ≡ None = ap (map.get objects) is ∙ (new_number_is objects).free in
    let slot = subst (λ (s : PagesState). OfDir s d (λ a. AddsSlot a c.in_ok-named.named)) c.new_object.ensures.same c.in_ok-named.ensures.slot
    z dir.0 dir.1 (directory_in p z objects h d dir) in
    let reported : map.len dir.1 ≡ count objects d = ap map.len (entries_are p z objects h d dir) in
    keeps_both z p.present c.in_ok-object.object c.in_ok-named.named c.in_ok-change.change o d (count objects d) (other_number p z objects h d dir o free) c.in_ok-object.ensures.only c.in_ok-change.ensures.pages
    (λ s e less at. slot.stays s e (omega (arith, reported, less)) at)
