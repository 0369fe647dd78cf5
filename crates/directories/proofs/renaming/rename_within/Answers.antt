use Rattle.std.proofs.Common.{◌≡◌, ◌∙◌, ℕ, length, refl, sym, subst, arith}
use Rattle.std.proofs.lemmas.Result.{err_from_is_err_and}
use Rattle.std.specs.FinMap as map
use Rattle.flash_tree.specs.Tree.{IsPageSize}
use Rattle.name_index.specs.Hashes.{fnv1a}
use Rattle.name_index.specs.Names.{Holds}
use Rattle.pages.specs.Changes.{IsChange}
use Rattle.pages.specs.Maps.{PageMap, after_change}
use Rattle.pages.specs.State.{PagesState}
use Rattle.pages.specs.laws.Changes.{others_keep}
use Rattle.pages.specs.laws.Faults.{lacks_memory}
use Rattle.pages.specs.laws.State.{finds_on}
use Rattle.pages.specs.declared.change.Change.{Change}
use Rattle.directories.specs.Directories.{HasOnly, SlotOf}
use Rattle.directories.specs.Moving.{MovesSlot, count_by, header_by, written_by}
use Rattle.directories.specs.Named.{FindsHeld}
use Rattle.directories.specs.declared.head.DirectoryHead.{DirectoryHead}
use Rattle.directories.specs.declared.moving.Moving.{Moving}
use Rattle.directories.proofs.Held.{asks_first, asks_two}
use Rattle.directories.proofs.Moved.{moves_name}
use Rattle.directories.proofs.Reported.{are_on}
use Rattle.directories.proofs.Results.{memory_room}
use Rattle.directories.proofs.Sought.{dir, sought_in, was_named}
use Rattle.directories.proofs.Written.{moved_below}
use Rattle.directories.proofs.renaming.rename_within.Goals as goal

pub move_slot-requires-clause-target : goal.move_slot-requires-clause-target
move_slot-requires-clause-target g c =
    moved_below c.in_ok-sought.sought.found c.in-Some.found.place c.in_ok-sought.sought.head.length c.moved_to.result c.moved_to.ensures (rw c.in-Some.is at c.in_ok-found.ensures.within) c.in_ok-sought.ensures.within

pub returns-in_err-sought-clause-issued : goal.returns-in_err-sought-clause-issued
returns-in_err-sought-clause-issued g c =
    asks_first c.args.names.now c.args.directory c.args.directory c.args.to.now.name.now c.args.from.now (g.P.Pages.state c.args.pages.now).issued (g.P.Pages.state c.seek.new.pages).issued c.seek.ensures.issued

pub returns-in_err-sought-clause-fault : goal.returns-in_err-sought-clause-fault
returns-in_err-sought-clause-fault g c = λ z moment entries d.
    let old : PagesState = g.P.Pages.state c.args.pages.now in
    let mid : PagesState = g.P.Pages.state c.seek.new.pages in
    let r = err_from_is_err_and c.from_residual.result c.from_residual.ensures.1 in
    rw (r.1, r.2) (memory_room (map.len (map.remove entries c.args.from.now)) mid _ (lacks_memory old mid _ (c.in_err-sought.ensures.fault z moment entries (dir c.args.names.now old z c.args.directory moment entries d))))

pub returns-in_err-found-clause-issued : goal.returns-in_err-found-clause-issued
returns-in_err-found-clause-issued g c =
    asks_two c.args.names.now c.args.directory c.args.to.now.name.now c.args.from.now (g.P.Pages.state c.args.pages.now).issued (g.P.Pages.state c.seek.new.pages).issued (g.P.Pages.state c.search_held.new.pages).issued _
    c.seek.ensures.issued c.search_held.ensures.issued (omega arith)

pub returns-in_err-found-clause-fault : goal.returns-in_err-found-clause-fault
returns-in_err-found-clause-fault g c = λ z moment entries d.
    let old : PagesState = g.P.Pages.state c.args.pages.now in
    let mid : PagesState = g.P.Pages.state c.seek.new.pages in
    let next : PagesState = g.P.Pages.state c.search_held.new.pages in
    let lookups = c.seek.ensures.lookups in
    let s = (c.in_ok-sought.ensures.reported d.sound z d.size).0 in
    let sized = g.met.P.Pages.sized c.args.pages.now in
    let here = dir c.args.names.now old z c.args.directory moment entries d in
    let r = err_from_is_err_and c.from_residual-in_err-found.result c.from_residual-in_err-found.ensures.1 in
    rw (r.1, r.2) (memory_room (map.len (map.remove entries c.args.from.now)) next _ (lacks_memory mid next _ (c.in_err-found.ensures.fault (lookups.sound ∙ d.sound) z (d.size ∙ sym lookups.page_bytes)
    (are_on old mid lookups z c.args.directory moment entries here sized c.in_ok-sought.sought.head s))))

pub returns-in_default-clause-issued : goal.returns-in_default-clause-issued
returns-in_default-clause-issued g c =
    asks_two c.args.names.now c.args.directory c.args.to.now.name.now c.args.from.now (g.P.Pages.state c.args.pages.now).issued (g.P.Pages.state c.seek.new.pages).issued (g.P.Pages.state c.search_held.new.pages).issued _
    c.seek.ensures.issued c.search_held.ensures.issued (omega arith)

pub returns-in_default-clause-named : goal.returns-in_default-clause-named
returns-in_default-clause-named g c = λ z moment entries d.
    let old : PagesState = g.P.Pages.state c.args.pages.now in
    let lookups = c.seek.ensures.lookups in
    let o : ℕ = c.args.directory in
    let head = c.in_ok-sought.sought.head in
    let sized = g.met.P.Pages.sized c.args.pages.now in
    let s = (c.in_ok-sought.ensures.reported d.sound z d.size).0 in
    let held = subst (λ (m : PageMap). FindsHeld (Holds c.args.names.now o (fnv1a c.args.from.now)) (SlotOf z m o) head.length c.args.from.now c.in_ok-found.field-0) lookups.present
    (c.in_ok-found.ensures.reported (lookups.sound ∙ d.sound) z (d.size ∙ sym lookups.page_bytes)) in
    rw c.in_default.is at (sought_in c.args.names.now old z o moment entries d sized head s c.args.from.now c.in_ok-found.field-0 held).found

pub returns-in_err-change-clause-issued : goal.returns-in_err-change-clause-issued
returns-in_err-change-clause-issued g c =
    asks_two c.args.names.now c.args.directory c.args.to.now.name.now c.args.from.now (g.P.Pages.state c.args.pages.now).issued (g.P.Pages.state c.seek.new.pages).issued (g.P.Pages.state c.search_held.new.pages).issued _
    c.seek.ensures.issued c.search_held.ensures.issued c.move_slot.ensures.issued

pub returns-in_err-change-clause-fault : goal.returns-in_err-change-clause-fault
returns-in_err-change-clause-fault g c = λ z moment entries d.
    let old : PagesState = g.P.Pages.state c.args.pages.now in
    let next : PagesState = g.P.Pages.state c.search_held.new.pages in
    let finds = finds_on _ _ _ c.seek.ensures.lookups c.search_held.ensures.lookups in
    let s = (c.in_ok-sought.ensures.reported d.sound z d.size).0 in
    let sized = g.met.P.Pages.sized c.args.pages.now in
    let here = dir c.args.names.now old z c.args.directory moment entries d in
    let r = err_from_is_err_and c.from_residual-in_err-change.result c.from_residual-in_err-change.ensures.1 in
    rw (r.1, r.2) (memory_room (map.len (map.remove entries c.args.from.now)) (g.P.Pages.state c.move_slot.new.pages) _ (c.in_err-change.ensures.fault (finds.sound ∙ d.sound) z (d.size ∙ sym finds.page_bytes)
    (are_on old next finds z c.args.directory moment entries here sized c.in_ok-sought.sought.head s)))

pub returns-clause-issued : goal.returns-clause-issued
returns-clause-issued g c =
    asks_two c.args.names.now c.args.directory c.args.to.now.name.now c.args.from.now (g.P.Pages.state c.args.pages.now).issued (g.P.Pages.state c.seek.new.pages).issued (g.P.Pages.state c.search_held.new.pages).issued _
    c.seek.ensures.issued c.search_held.ensures.issued c.move_slot.ensures.issued

pub returns-clause-others : goal.returns-clause-others
returns-clause-others g c = λ o k other. others_keep c.in_ok-change.change c.args.directory c.in_ok-change.ensures.only (g.P.Pages.state c.args.pages.now).present o k other

pub returns-clause-named : goal.returns-clause-named
returns-clause-named g c = λ z moment entries d.
    let old : PagesState = g.P.Pages.state c.args.pages.now in
    let lookups = c.seek.ensures.lookups in
    let o : ℕ = c.args.directory in
    let head = c.in_ok-sought.sought.head in
    let sized = g.met.P.Pages.sized c.args.pages.now in
    let s = (c.in_ok-sought.ensures.reported d.sound z d.size).0 in
    let held = subst (λ (m : PageMap). FindsHeld (Holds c.args.names.now o (fnv1a c.args.from.now)) (SlotOf z m o) head.length c.args.from.now c.in_ok-found.field-0) lookups.present
    (c.in_ok-found.ensures.reported (lookups.sound ∙ d.sound) z (d.size ∙ sym lookups.page_bytes)) in
    was_named c.args.names.now old z o moment entries d c.args.from.now c.in-Some.found (rw c.in-Some.is at (sought_in c.args.names.now old z o moment entries d sized head s c.args.from.now c.in_ok-found.field-0 held).found)

pub returns-clause-moves : goal.returns-clause-moves
returns-clause-moves g c = λ z moment entries d.
    let old : PagesState = g.P.Pages.state c.args.pages.now in
    let lookups = c.seek.ensures.lookups in
    let finds = finds_on _ _ _ lookups c.search_held.ensures.lookups in
    let o : ℕ = c.args.directory in
    let sought = c.in_ok-sought.ensures.sought z moment entries d in
    let head = c.in_ok-sought.sought.head in
    let n : ℕ = head.length in
    let sized = g.met.P.Pages.sized c.args.pages.now in
    let page_size : IsPageSize z.page_bytes = record { least = omega (arith, d.size, sized.0); most = omega (arith, d.size, sized.1) } in
    let s = (c.in_ok-sought.ensures.reported d.sound z d.size).0 in
    let held = subst (λ (m : PageMap). FindsHeld (Holds c.args.names.now o (fnv1a c.args.from.now)) (SlotOf z m o) n c.args.from.now c.in_ok-found.field-0) lookups.present
    (c.in_ok-found.ensures.reported (lookups.sound ∙ d.sound) z (d.size ∙ sym lookups.page_bytes)) in
    let found = rw c.in-Some.is at (sought_in c.args.names.now old z o moment entries d sized head s c.args.from.now c.in_ok-found.field-0 held).found in
    let moving : Moving = record { place = c.in-Some.found.place; before = n; target = c.moved_to.result } in
    let base : DirectoryHead = record { spare = head.spare; length = n; moment = c.args.moment } in
    let change : Change = c.in_ok-change.change in
    let sound_then = finds.sound ∙ d.sound in
    let size_then = d.size ∙ sym finds.page_bytes in
    let moves = subst (λ (k : PageMap). MovesSlot (record { sizes = z; pages = k; object = o }) moving (written_by moving c.args.to.now) (header_by moving base) change) finds.present
    (c.in_ok-change.ensures.moves sound_then z size_then) in
    let turns = subst (λ (k : PageMap). HasOnly z k o n → HasOnly z (after_change change k) o (count_by c.moved_to.result n)) finds.present (c.in_ok-change.ensures.besides sound_then z size_then) in
    let count : n ≡ length d.reads.slots = sought.head.length_is ∙ d.reads.size in
    let is : IsChange change old.page_bytes 3 = subst (λ k. IsChange change k 3) finds.page_bytes c.in_ok-change.ensures.change in
    moves_name z page_size old.present o moment entries d.reads moving c.args.to.now base change moves count found.0 found.1 c.args.from.now found.2
    c.in_ok-sought.sought.found sought.found c.moved_to.ensures c.args.moment sought.head.spare refl old.page_bytes 3 is d.size turns
