use Rattle.std.proofs.Common.{◌≡◌, ◌≤◌, ◌∙◌, ℕ, None, Some, length, refl, sym, subst, arith}
use Rattle.std.proofs.lemmas.Result.{err_from_is_err_and}
use Rattle.flash_tree.specs.Tree.{IsPageSize}
use Rattle.volume_terms.specs.Sizes.{page_slots}
use Rattle.pages.specs.State.{PagesState}
use Rattle.pages.specs.laws.Faults.{says_more}
use Rattle.directories.specs.Directories.{SlotOf}
use Rattle.directories.specs.Slots.{AreSlots}
use Rattle.directories.specs.Writes.{longer, pushing}
use Rattle.directories.specs.declared.head.DirectoryHead.{DirectoryHead}
use Rattle.directories.specs.declared.writing.Writing.{Writing}
use Rattle.directories.proofs.Put.{puts_name}
use Rattle.directories.proofs.Results.{memory_room, on_all, on_err}
use Rattle.directories.proofs.Lists.{entries_len}
use Rattle.directories.proofs.Reading.{slots_are}
use Rattle.directories.proofs.renaming.put_at.Goals as goal

pub returns-in_default-clause-puts : goal.returns-in_default-clause-puts
returns-in_default-clause-puts g c = λ z moment entries d says found.
    let old : PagesState = g.P.Pages.state c.args.pages.now in
    let sized = g.met.P.Pages.sized c.args.pages.now in
    let page_size : IsPageSize z.page_bytes = record { least = omega (arith, d.size, sized.0); most = omega (arith, d.size, sized.1) } in
    let some : 1 ≤ page_slots z = omega (arith, d.size, sized.0) in
    let absent = rw c.in_default.is at found in
    let head = c.args.sought.head in
    let len : head.length ≡ length d.reads.slots = says.length_is ∙ d.reads.size in
    on_all _ _ _ _ c.push_slot.result
    (λ change only w pages. puts_name z page_size old.present c.args.directory moment entries d.reads (pushing head c.args.slot.now) (longer head c.args.moment) change w len refl None len (omega (arith, len)) absent (omega arith) refl
    c.args.moment says.spare refl some pages old.page_bytes 2 only.few d.size)
    c.push_slot.ensures.change
    (c.push_slot.ensures.writes d.sound z d.size)
    (c.push_slot.ensures.pages d.sound z d.size)

pub returns-in_default-clause-fault : goal.returns-in_default-clause-fault
returns-in_default-clause-fault g c = λ z moment entries d says found.
    let old : PagesState = g.P.Pages.state c.args.pages.now in
    let len : c.args.sought.head.length ≡ length d.reads.slots = says.length_is ∙ d.reads.size in
    let count = len ∙ sym (entries_len d.reads.slots d.reads.once entries d.reads.entries_are) in
    on_err _ _ c.push_slot.result
    (λ fault is. says_more _ _ _ _ _ _ (g.P.Pages.state c.push_slot.new.pages) fault (λ x. x) (λ x. x) (λ full. sym count ∙ full) is)
    (c.push_slot.ensures.fault d.sound z d.size (subst (AreSlots (SlotOf z old.present c.args.directory) 0) (sym len) (slots_are old z c.args.directory moment entries d)))

pub returns-in_err-change-clause-fault : goal.returns-in_err-change-clause-fault
returns-in_err-change-clause-fault g c = λ z moment entries d says found.
    let old : PagesState = g.P.Pages.state c.args.pages.now in
    let len : c.args.sought.head.length ≡ length d.reads.slots = says.length_is ∙ d.reads.size in
    let r = err_from_is_err_and c.from_residual.result c.from_residual.ensures.1 in
    rw (r.1, r.2) (memory_room _ (g.P.Pages.state c.write.new.pages) _
    (c.in_err-change.ensures.fault d.sound z d.size (subst (AreSlots (SlotOf z old.present c.args.directory) 0) (sym len) (slots_are old z c.args.directory moment entries d))))

pub returns-clause-puts : goal.returns-clause-puts
returns-clause-puts g c = λ z moment entries d says found.
    let old : PagesState = g.P.Pages.state c.args.pages.now in
    let sized = g.met.P.Pages.sized c.args.pages.now in
    let page_size : IsPageSize z.page_bytes = record { least = omega (arith, d.size, sized.0); most = omega (arith, d.size, sized.1) } in
    let some : 1 ≤ page_slots z = omega (arith, d.size, sized.0) in
    let there = rw c.in-Some.is at found in
    let within = rw c.in-Some.is at c.requires.within in
    let n : ℕ = c.args.sought.head.length in
    let len : n ≡ length d.reads.slots = says.length_is ∙ d.reads.size in
    let place : ℕ = c.in-Some.found.place in
    let writing : Writing = record { first = record { number = place; slot = c.args.slot.now }; second = None; before = n; afterwards = n } in
    let head : DirectoryHead = record { spare = c.args.sought.head.spare; length = n; moment = c.args.moment } in
    puts_name z page_size old.present c.args.directory moment entries d.reads writing head c.in_ok-change.change (c.in_ok-change.ensures.writes d.sound z d.size) len refl (Some place) refl len (there.0, there.1, there.2)
    within refl c.args.moment says.spare refl some (c.in_ok-change.ensures.pages d.sound z d.size) old.page_bytes 2 c.in_ok-change.ensures.change.few d.size
