use Rattle.std.proofs.Common.{◌≡◌, ◌∙◌, List, ℕ, Some, length, sym, ap}
use Rattle.pages.specs.State.{PagesState}
use Rattle.salvage.specs.SeenBy.{seen_by}
use Rattle.salvage.proofs.Saying.{no_header, says_info}
use Rattle.salvage.proofs.header.read_info.Goals as goal

pub returns-in-Present-clause-info : goal.returns-in-Present-clause-info
returns-in-Present-clause-info g c = λ z is.
    let old : PagesState = seen_by c.args.pages.now in
    let page : List ℕ = c.page.result.now in
    let found = rw c.in-Present.is at c.in_ok-look.ensures.page is.sound in
    let there : old.present c.args.object 0 ≡ Some page = found ∙ ap Some (sym c.page.ensures.bytes) in
    let size : z.page_bytes ≡ length page = is.size ∙ sym c.look.ensures.lookups.page_bytes ∙ sym c.page.ensures.size in
    says_info z old.present c.args.object page size there c.info_of.result c.info_of.ensures.reported c.info_of.ensures.none

pub returns-in-Absent-clause-info : goal.returns-in-Absent-clause-info
returns-in-Absent-clause-info g c = λ z is.
    let old : PagesState = seen_by c.args.pages.now in
    no_header z old.present c.args.object (rw c.in-Absent.is at c.in_ok-look.ensures.page is.sound)
