use Rattle.std.proofs.Common.{◌≡◌, ◌<◌, ◌+◌, ◌-◌, ◌*◌, ◌∙◌, ℕ, List, sym, ap, subst, length, max, min, take, drop, arith, rules}
use Rattle.std.proofs.lemmas.List.{with_items_is, places}
use Rattle.std.proofs.lemmas.Result.{err_from_is_err_and}
use Rattle.std.specs.Vec.{with_items}
use Rattle.pages.specs.State.{PagesState}
use Rattle.posix_profile.specs.Changes.{written}
use Rattle.file_io.specs.Chunks.{HoldsChunk, overwritten}
use Rattle.file_io.proofs.ChunkPages.{whole_holds, over_holds}
use Rattle.file_io.proofs.writing.written_bytes.Goals as goal

pub returns-then-to-from-clause-holds : goal.returns-then-to-from-clause-holds
returns-then-to-from-clause-holds g c = λ z moment all f head.
    let old : PagesState = g.P.Pages.state c.args.pages.now in
    let d : ℕ = c.from-page_bytes.result in
    let k : ℕ = c.args.index in
    let size_old : d ≡ old.page_bytes = c.from-page_bytes.ensures ∙ c.page_bytes.ensures.bytes in
    let begins : k * d < c.args.offset + length c.args.bytes.now = subst (λ n. k * n < c.args.offset + length c.args.bytes.now) (sym size_old) c.requires.meets.begins in
    let ends : c.args.offset < k * d + d = subst (λ n. c.args.offset < k * n + n) (sym size_old) c.requires.meets.ends in
    let n : ℕ = length c.args.bytes.now in
    let from : c.max-from.result ≡ max c.args.offset (k * d) = c.max-from.ensures in
    let to : c.min-to.result ≡ min (c.args.offset + n) (k * d + d) = c.min-to.ensures in
    let count : c.min-to.result - c.args.offset - (c.max-from.result - c.args.offset) ≡ c.min-to.result - c.max-from.result = omega (arith, from, to) in
    let copied : c.in_ok-filled_page.field-0.items ≡ take (c.min-to.result - c.args.offset - (c.max-from.result - c.args.offset)) (drop (c.max-from.result - c.args.offset) c.args.bytes.now) = search rules in
    let part : c.in_ok-filled_page.field-0.items ≡ take (c.min-to.result - c.max-from.result) (drop (c.max-from.result - c.args.offset) c.args.bytes.now) = copied ∙ ap (λ n. take n (drop (c.max-from.result - c.args.offset) c.args.bytes.now)) count in
    subst (λ n. HoldsChunk n (written all c.args.offset c.args.bytes.now) k c.in_ok-filled_page.field-0.items) size_old
    (whole_holds d k c.args.offset c.args.bytes.now all c.max-from.result c.min-to.result from to begins ends c.requires.write.some c.in_ok-filled_page.field-0.items part c.if-to-from.true)

pub returns-in_err-page-clause-fault : goal.returns-in_err-page-clause-fault
returns-in_err-page-clause-fault g c = λ z moment all f head.
    let p = err_from_is_err_and c.from_residual-in_err-page.result c.from_residual-in_err-page.ensures.1 in
    rw (p.1, p.2) (c.in_err-page.ensures.fault z moment all f head)

pub returns-clause-holds : goal.returns-clause-holds
returns-clause-holds g c = λ z moment all f head.
    let old : PagesState = g.P.Pages.state c.args.pages.now in
    let d : ℕ = c.from-page_bytes.result in
    let k : ℕ = c.args.index in
    let size_old : d ≡ old.page_bytes = c.from-page_bytes.ensures ∙ c.page_bytes.ensures.bytes in
    let begins : k * d < c.args.offset + length c.args.bytes.now = subst (λ n. k * n < c.args.offset + length c.args.bytes.now) (sym size_old) c.requires.meets.begins in
    let ends : c.args.offset < k * d + d = subst (λ n. c.args.offset < k * n + n) (sym size_old) c.requires.meets.ends in
    let n : ℕ = length c.args.bytes.now in
    let from : c.max-from.result ≡ max c.args.offset (k * d) = c.max-from.ensures in
    let to : c.min-to.result ≡ min (c.args.offset + n) (k * d + d) = c.min-to.ensures in
    let was : HoldsChunk d all k c.in_ok-page.page.items = subst (λ n. HoldsChunk n all k c.in_ok-page.page.items) (sym size_old) (c.in_ok-page.ensures.holds z moment all f head) in
    let count : c.min-to.result - c.args.offset - (c.max-from.result - c.args.offset) ≡ c.min-to.result - c.max-from.result = omega (arith, from, to) in
    let part : List ℕ = take (c.min-to.result - c.args.offset - (c.max-from.result - c.args.offset)) (drop (c.max-from.result - c.args.offset) c.args.bytes.now) in
    let part_is : part ≡ take (c.min-to.result - c.max-from.result) (drop (c.max-from.result - c.args.offset) c.args.bytes.now) = ap (λ n. take n (drop (c.max-from.result - c.args.offset) c.args.bytes.now)) count in
    let over : c.overwrite.new.buffer ≡ overwritten c.in_ok-page.page.items (c.max-from.result - k * d) part = c.overwrite.ensures.bytes ∙ ap (λ (xs : List ℕ). overwritten xs (c.max-from.result - k * d) part) c.deref_mut.ensures.value in
    let items : (with_items c.in_ok-page.page c.overwrite.new.buffer).items ≡ c.overwrite.new.buffer = with_items_is c.in_ok-page.page c.overwrite.new.buffer (search (rules, places)) in
    let holds = over_holds d k c.args.offset c.args.bytes.now all c.max-from.result c.min-to.result from to begins ends c.requires.write.some part part_is c.in_ok-page.page.items was in
    subst (λ n. HoldsChunk n (written all c.args.offset c.args.bytes.now) k (with_items c.in_ok-page.page c.overwrite.new.buffer).items) size_old
    (subst (λ (xs : List ℕ). HoldsChunk d (written all c.args.offset c.args.bytes.now) k xs) (sym (items ∙ over)) holds)
