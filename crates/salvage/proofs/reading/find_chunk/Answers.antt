use Rattle.std.proofs.Common.{◌≡◌, ◌∙◌, List, ℕ, Some, length, sym, ap}
use Rattle.pages.specs.State.{PagesState}
use Rattle.salvage.specs.SeenBy.{seen_by}
use Rattle.salvage.proofs.Saying.{no_header, says_chunk}
use Rattle.salvage.proofs.reading.find_chunk.Goals as goal

pub returns-in-Present-clause-says : goal.returns-in-Present-clause-says
returns-in-Present-clause-says g c = λ z is.
    let old : PagesState = seen_by c.args.pages.now in
    let page : List ℕ = c.page.result.now in
    let found = rw c.in-Present.is at c.in_ok-look.ensures.page is.sound in
    let there : old.present c.args.file 0 ≡ Some page = found ∙ ap Some (sym c.page.ensures.bytes) in
    let size : z.page_bytes ≡ length page = is.size ∙ sym c.look.ensures.lookups.page_bytes ∙ sym c.page.ensures.size in
    says_chunk z old.present c.args.file page size there c.args.chunk c.chunk_in.result c.chunk_in.ensures.reported c.chunk_in.ensures.none

pub returns-in-Absent-clause-says : goal.returns-in-Absent-clause-says
returns-in-Absent-clause-says g c = λ z is.
    let old : PagesState = seen_by c.args.pages.now in
    λ f h. absurd (no_header z old.present c.args.file (rw c.in-Absent.is at c.in_ok-look.ensures.page is.sound) f h)
