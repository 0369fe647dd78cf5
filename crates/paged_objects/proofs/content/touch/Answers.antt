use Rattle.std.proofs.Common.{◌≡◌, ◌≤◌, ℕ, List, [], IfOk, length, max, ◌∙◌, ap, subst, sym, arith}
use Rattle.std.proofs.lemmas.Result.{err_from_is_err_and}
use Rattle.volume_terms.specs.Sizes.{most_file_bytes}
use Rattle.posix_profile.specs.Changes.{with_bytes, resized, written}
use Rattle.pages.specs.Maps.{PageMap, after_change}
use Rattle.pages.specs.State.{PagesState}
use Rattle.pages.specs.laws.Faults.{lacks_memory}
use Rattle.std.specs.FinMap as map
use Rattle.object_store.specs.Facts.{bytes_of}
use Rattle.paged_objects.specs.Holding.{HoldsObjects}
use Rattle.paged_objects.specs.laws.Holding.{file_in, holds_on}
use Rattle.paged_objects.proofs.Contents.{file_fits, bytes_are, written_none}
use Rattle.paged_objects.proofs.content.touch.Goals as goal

pub returns-in_err-info-clause-fault : goal.returns-in_err-info-clause-fault
returns-in_err-info-clause-fault g c = λ z objects h file fits.
    let r = err_from_is_err_and c.from_residual.result c.from_residual.ensures.1 in
    rw (r.1, r.2) (lacks_memory (g.P.Pages.state c.args.pages.now) (g.P.Pages.state c.read_info.new.pages) _ (c.in_err-info.ensures.fault z file.0 file.1 (file_in (g.P.Pages.state c.args.pages.now) z objects h c.args.number file)))

pub returns-clause-touches : goal.returns-clause-touches
returns-clause-touches g c = λ z objects h file.
    let p : PagesState = g.P.Pages.state c.args.pages.now in
    let q : PagesState = g.P.Pages.state c.read_info.new.pages in
    let o : ℕ = c.args.number in
    let bytes = bytes_are p z objects h o file in
    let len : c.in_ok-info.info.length ≡ length file.1 = c.in_ok-info.ensures.length z file.0 file.1 (file_in p z objects h o file) in
    let most : c.max.result ≡ max (length file.1) c.args.offset = grind (arith, c.max.ensures, len) in
    let all : resized file.1 c.max.result ≡ written file.1 c.args.offset [] = ap (resized file.1) most ∙ written_none file.1 c.args.offset in
    subst (λ (xs : List ℕ). IfOk c.resize.result (λ change. HoldsObjects z (after_change change p.present) (with_bytes objects c.args.moment o (written xs c.args.offset [])))) bytes
    (subst (λ (xs : List ℕ). IfOk c.resize.result (λ change. HoldsObjects z (after_change change p.present) (with_bytes objects c.args.moment o xs))) all
    (subst (λ (xs : List ℕ). IfOk c.resize.result (λ change. HoldsObjects z (after_change change p.present) (with_bytes objects c.args.moment o (resized xs c.max.result)))) (sym bytes)
    (subst (λ (m : PageMap). IfOk c.resize.result (λ change. HoldsObjects z (after_change change m) (with_bytes objects c.args.moment o (resized (bytes_of (map.get objects o)) c.max.result)))) c.read_info.ensures.looks.lookups.present
    (c.resize.ensures.resizes z objects (holds_on p q z objects c.read_info.ensures.looks.lookups h) file))))

pub returns-clause-fault : goal.returns-clause-fault
returns-clause-fault g c = λ z objects h file fits.
    let p : PagesState = g.P.Pages.state c.args.pages.now in
    let q : PagesState = g.P.Pages.state c.read_info.new.pages in
    let o : ℕ = c.args.number in
    let len : c.in_ok-info.info.length ≡ length file.1 = c.in_ok-info.ensures.length z file.0 file.1 (file_in p z objects h o file) in
    let there : length file.1 ≤ most_file_bytes z.page_bytes = file_fits p z objects h o file in
    c.resize.ensures.fault z objects (holds_on p q z objects c.read_info.ensures.looks.lookups h) file (grind (arith, c.max.ensures, len, there, fits))
