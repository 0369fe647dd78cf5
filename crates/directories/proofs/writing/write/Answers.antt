use Rattle.std.proofs.Common.{◌≡◌, ◌/◌, ◌∙◌, length, sym, ap, subst}
use Rattle.std.proofs.lemmas.Result.{err_from_is_err_and}
use Rattle.volume_terms.specs.Sizes.{page_slots}
use Rattle.pages.specs.Maps.{PageMap}
use Rattle.pages.specs.State.{PagesState}
use Rattle.pages.specs.declared.change.Change.{Change}
use Rattle.directories.specs.Directories.{SlotOf}
use Rattle.directories.specs.HeadPages.{IsHeadPage}
use Rattle.directories.specs.Slots.{AreSlots}
use Rattle.directories.specs.Stores.{ObjectIn}
use Rattle.directories.specs.Writes.{AreOnOne, IsOnOther, IsSlotPage, IsSlotsPage}
use Rattle.directories.proofs.Written.{pair_apart, pair_in, pair_pages, triple_apart, triple_in, triple_pages}
use Rattle.directories.proofs.writing.write.Goals as goal

pub returns-in_err-second-clause-fault : goal.returns-in_err-second-clause-fault
returns-in_err-second-clause-fault g c = λ sound z size are.
    let lookups = c.slot_page.ensures.looks.lookups in
    let same = c.spare_page.ensures.same in
    let p = err_from_is_err_and c.from_residual-in_err-second.result c.from_residual-in_err-second.ensures.1 in
    let present = ap (λ (s : PagesState). s.present) same ∙ lookups.present in
    rw (p.1, p.2) (c.in_err-second.ensures.fault (ap (λ (s : PagesState). s.sound) same ∙ lookups.sound ∙ sound) z (size ∙ sym (ap (λ (s : PagesState). s.page_bytes) same ∙ lookups.page_bytes))
    (subst (λ (k : PageMap). AreSlots (SlotOf z k c.args.directory) 0 c.args.writing.before) (sym present) are))

pub returns-in_default-clause-writes : goal.returns-in_default-clause-writes
returns-in_default-clause-writes g c = λ sound z size.
    let old : PagesState = g.P.Pages.state c.args.pages.now in
    let it : ObjectIn = record { sizes = z; pages = old.present; object = c.args.directory } in
    let change : Change = record { pages = c.in_ok-pages.pages; cuts = c.new.result } in
    let bytes : length c.in_ok-frame.frame.items ≡ old.page_bytes = c.in_ok-frame.ensures.size ∙ c.slot_page.ensures.looks.lookups.page_bytes in
    let head_is = subst (λ n. IsHeadPage c.head_page-head.result n c.args.directory c.args.head) bytes c.head_page-head.ensures in
    let head_here = subst (λ n. IsHeadPage c.head_page-head.result n c.args.directory c.args.head) (sym size) head_is in
    let apart = pair_apart c.args.directory old.page_bytes c.args.head change c.new.ensures.items c.head_page-head.result head_is c.args.writing.first.number c.in_ok-first.first c.in_ok-first.ensures.sized c.in_ok-pages.ensures.items in
    let slots = ap (λ k. k / 272) (c.page_bytes.ensures.bytes ∙ sym size) in
    let one : AreOnOne (page_slots z) c.args.writing = subst (λ n. AreOnOne n c.args.writing) slots (rw c.in_default.is at c.on_other_page.ensures.one) in
    pair_in it c.args.writing c.args.head change c.new.ensures.items apart c.head_page-head.result head_here c.in_ok-first.first (c.in_ok-first.ensures.page sound z size) c.in_ok-pages.ensures.items one

pub returns-in_default-clause-pages : goal.returns-in_default-clause-pages
returns-in_default-clause-pages g c = λ sound z size.
    let old : PagesState = g.P.Pages.state c.args.pages.now in
    let it : ObjectIn = record { sizes = z; pages = old.present; object = c.args.directory } in
    let change : Change = record { pages = c.in_ok-pages.pages; cuts = c.new.result } in
    let bytes : length c.in_ok-frame.frame.items ≡ old.page_bytes = c.in_ok-frame.ensures.size ∙ c.slot_page.ensures.looks.lookups.page_bytes in
    let head_is = subst (λ n. IsHeadPage c.head_page-head.result n c.args.directory c.args.head) bytes c.head_page-head.ensures in
    let head_here = subst (λ n. IsHeadPage c.head_page-head.result n c.args.directory c.args.head) (sym size) head_is in
    let apart = pair_apart c.args.directory old.page_bytes c.args.head change c.new.ensures.items c.head_page-head.result head_is c.args.writing.first.number c.in_ok-first.first c.in_ok-first.ensures.sized c.in_ok-pages.ensures.items in
    let slots = ap (λ k. k / 272) (c.page_bytes.ensures.bytes ∙ sym size) in
    let one : AreOnOne (page_slots z) c.args.writing = subst (λ n. AreOnOne n c.args.writing) slots (rw c.in_default.is at c.on_other_page.ensures.one) in
    pair_pages it c.args.writing c.args.head change c.new.ensures.items apart c.head_page-head.result head_here c.in_ok-first.first (c.in_ok-first.ensures.page sound z size) c.in_ok-pages.ensures.items one

pub returns-clause-writes : goal.returns-clause-writes
returns-clause-writes g c = λ sound z size.
    let old : PagesState = g.P.Pages.state c.args.pages.now in
    let it : ObjectIn = record { sizes = z; pages = old.present; object = c.args.directory } in
    let change : Change = record { pages = c.in_ok-pages-2.pages; cuts = c.new-2.result } in
    let lookups = c.slot_page.ensures.looks.lookups in
    let same = c.spare_page.ensures.same in
    let bytes : length c.in_ok-frame.frame.items ≡ old.page_bytes = c.in_ok-frame.ensures.size ∙ lookups.page_bytes in
    let head_is = subst (λ n. IsHeadPage c.head_page-head.result n c.args.directory c.args.head) bytes c.head_page-head.ensures in
    let head_here = subst (λ n. IsHeadPage c.head_page-head.result n c.args.directory c.args.head) (sym size) head_is in
    let other : IsOnOther (old.page_bytes / 272) c.args.writing c.in-Some.number = subst (λ n. IsOnOther n c.args.writing c.in-Some.number) (ap (λ k. k / 272) c.page_bytes.ensures.bytes) (rw c.in-Some.is at c.on_other_page.ensures.other) in
    let on_other : IsOnOther (page_slots z) c.args.writing c.in-Some.number = subst (λ k. IsOnOther (k / 272) c.args.writing c.in-Some.number) (sym size) other in
    let second_bytes : (g.P.Pages.state c.spare_page.new.pages).page_bytes ≡ old.page_bytes = ap (λ (s : PagesState). s.page_bytes) same ∙ lookups.page_bytes in
    let second_sized : IsSlotsPage c.args.directory old.page_bytes c.in-Some.number c.in_ok-second.second = subst (λ n. IsSlotsPage c.args.directory n c.in-Some.number c.in_ok-second.second) second_bytes c.in_ok-second.ensures.sized in
    let apart = triple_apart c.args.directory old.page_bytes c.args.head change c.new-2.ensures.items c.head_page-head.result head_is c.args.writing.first.number c.in_ok-first.first c.in_ok-first.ensures.sized
    c.in-Some.number c.in_ok-second.second second_sized other.other c.in_ok-pages-2.ensures.items in
    let second = subst (λ (k : PageMap). IsSlotPage (record { sizes = z; pages = k; object = c.args.directory }) c.args.writing (c.in-Some.number / page_slots z) c.in_ok-second.second)
    (ap (λ (s : PagesState). s.present) same ∙ lookups.present)
    (c.in_ok-second.ensures.page (ap (λ (s : PagesState). s.sound) same ∙ lookups.sound ∙ sound) z (size ∙ sym second_bytes)) in
    triple_in it c.args.writing c.args.head change c.new-2.ensures.items apart c.head_page-head.result head_here c.in_ok-first.first (c.in_ok-first.ensures.page sound z size)
    c.in_ok-second.second c.in-Some.number second on_other c.in_ok-pages-2.ensures.items

pub returns-clause-pages : goal.returns-clause-pages
returns-clause-pages g c = λ sound z size.
    let old : PagesState = g.P.Pages.state c.args.pages.now in
    let it : ObjectIn = record { sizes = z; pages = old.present; object = c.args.directory } in
    let change : Change = record { pages = c.in_ok-pages-2.pages; cuts = c.new-2.result } in
    let lookups = c.slot_page.ensures.looks.lookups in
    let same = c.spare_page.ensures.same in
    let bytes : length c.in_ok-frame.frame.items ≡ old.page_bytes = c.in_ok-frame.ensures.size ∙ lookups.page_bytes in
    let head_is = subst (λ n. IsHeadPage c.head_page-head.result n c.args.directory c.args.head) bytes c.head_page-head.ensures in
    let head_here = subst (λ n. IsHeadPage c.head_page-head.result n c.args.directory c.args.head) (sym size) head_is in
    let other : IsOnOther (old.page_bytes / 272) c.args.writing c.in-Some.number = subst (λ n. IsOnOther n c.args.writing c.in-Some.number) (ap (λ k. k / 272) c.page_bytes.ensures.bytes) (rw c.in-Some.is at c.on_other_page.ensures.other) in
    let on_other : IsOnOther (page_slots z) c.args.writing c.in-Some.number = subst (λ k. IsOnOther (k / 272) c.args.writing c.in-Some.number) (sym size) other in
    let second_bytes : (g.P.Pages.state c.spare_page.new.pages).page_bytes ≡ old.page_bytes = ap (λ (s : PagesState). s.page_bytes) same ∙ lookups.page_bytes in
    let second_sized : IsSlotsPage c.args.directory old.page_bytes c.in-Some.number c.in_ok-second.second = subst (λ n. IsSlotsPage c.args.directory n c.in-Some.number c.in_ok-second.second) second_bytes c.in_ok-second.ensures.sized in
    let apart = triple_apart c.args.directory old.page_bytes c.args.head change c.new-2.ensures.items c.head_page-head.result head_is c.args.writing.first.number c.in_ok-first.first c.in_ok-first.ensures.sized
    c.in-Some.number c.in_ok-second.second second_sized other.other c.in_ok-pages-2.ensures.items in
    let second = subst (λ (k : PageMap). IsSlotPage (record { sizes = z; pages = k; object = c.args.directory }) c.args.writing (c.in-Some.number / page_slots z) c.in_ok-second.second)
    (ap (λ (s : PagesState). s.present) same ∙ lookups.present)
    (c.in_ok-second.ensures.page (ap (λ (s : PagesState). s.sound) same ∙ lookups.sound ∙ sound) z (size ∙ sym second_bytes)) in
    triple_pages it c.args.writing c.args.head change c.new-2.ensures.items apart c.head_page-head.result head_here c.in_ok-first.first (c.in_ok-first.ensures.page sound z size)
    c.in_ok-second.second c.in-Some.number second on_other c.in_ok-pages-2.ensures.items

pub returns-clause-beside : goal.returns-clause-beside
returns-clause-beside g c = λ sound z size. c.in_ok-first.ensures.beside sound z size
