use Rattle.std.proofs.Common.{◌≡◌, ◌≤◌, ◌+◌, ◌∙◌, None, Some, sym, ap}
use Rattle.volume_terms.specs.Sizes.{page_slots}
use Rattle.volume_terms.specs.laws.Rounding.{slots_fit}
use Rattle.pages.specs.State.{PagesState}
use Rattle.salvage.specs.SeenBy.{seen_by}
use Rattle.salvage.specs.Reported.{pairs_of}
use Rattle.salvage.proofs.Slots.{all_lost}
use Rattle.salvage.proofs.listing.read_chunk.Goals as goal

pub returns-in_ok-read_page-in-Present-clause-lists : goal.returns-in_ok-read_page-in-Present-clause-lists
returns-in_ok-read_page-in-Present-clause-lists g c = λ z is first.
    let old : PagesState = seen_by c.args.pages.now in
    let found = rw c.in-Present.is at c.in_ok-look.ensures.page is.sound in
    let page : old.present c.args.directory (1 + c.args.chunk) ≡ Some c.page.result.now = found ∙ ap Some (sym c.page.ensures.bytes) in
    c.in_ok-read_page-in-Present.ensures.lists z old.present c.args.directory c.args.chunk page (is.size ∙ sym c.look.ensures.lookups.page_bytes ∙ sym c.page.ensures.size) first

pub returns-in-Absent-clause-lists : goal.returns-in-Absent-clause-lists
returns-in-Absent-clause-lists g c = λ z is first.
    let old : PagesState = seen_by c.args.pages.now in
    let absent : old.present c.args.directory (1 + c.args.chunk) ≡ None = rw c.in-Absent.is at c.in_ok-look.ensures.page is.sound in
    let fits : c.args.count ≤ page_slots z = slots_fit z.page_bytes old.page_bytes c.args.count is.size c.requires.room in
    all_lost z old.present c.args.directory c.args.chunk c.args.count (pairs_of c.args.listing.now) c.args.listing.now.lost fits absent first
