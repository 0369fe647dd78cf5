use Rattle.std.proofs.Common.{◌≡◌, ◌-◌, ◌∙◌, ℕ, List, length, drop, replicate, sym, ap}
use Rattle.std.proofs.lemmas.List.{length-replicate}
use Rattle.file_io.proofs.HeadBits.{empty_header, fewer_zeros}
use Rattle.file_io.proofs.head.create.Goals as goal

pub head_page-requires-clause-valid : goal.head_page-requires-clause-valid
head_page-requires-clause-valid g c = λ bytes.
    let page : List ℕ = c.in_ok-page.page.items in
    let d : ℕ = (g.P.Pages.state c.args.pages.now).page_bytes in
    let zeros : page ≡ replicate d 0 = c.in_ok-page.ensures.zeros in
    let long : length page ≡ d = ap length zeros ∙ length-replicate {A = ℕ} d 0 in
    empty_header (length page) c.args.moment (drop 32 page) (ap (drop 32) zeros ∙ fewer_zeros 32 d ∙ ap (λ n. replicate (n - 32) 0) (sym long)) c.ranges.moment.fits
