use Rattle.std.proofs.Common.{◌≡◌, ◌≤◌, ◌+◌, ◌-◌, ◌*◌, ◌∙◌, ℕ, List, sym, ap, subst, length, replicate, get_or, Some, true, false, arith, rules}
use Rattle.std.proofs.lemmas.List.{with_items_is, places}
use Rattle.std.proofs.lemmas.Result.{err_from_is_err_and}
use Rattle.std.specs.Vec.{with_items}
use Rattle.page_tags.specs.Headers.{is_present}
use Rattle.pages.specs.laws.Faults.{lacks_memory}
use Rattle.pages.specs.State.{PagesState}
use Rattle.file_io.specs.Chunks.{HoldsChunk}
use Rattle.file_io.proofs.ChunkPages.{absent_holds, chunk_there, present_holds}
use Rattle.file_io.proofs.chunk.chunk_bytes.Goals as goal

pub returns-then-not-is_present-clause-holds : goal.returns-then-not-is_present-clause-holds
returns-then-not-is_present-clause-holds g c = λ z moment all f head.
    let old : PagesState = g.P.Pages.state c.args.pages.now in
    let d : ℕ = c.from-page_bytes.result in
    let size_old : d ≡ old.page_bytes = c.from-page_bytes.ensures ∙ c.page_bytes.ensures.bytes in
    let some : 1 ≤ d = omega (arith, c.from-page_bytes.ensures, c.page_bytes.ensures.least) in
    let off : c.is_present.result ≡ false = search rules in
    let unset : is_present f.reads.fields.bits (1 + c.args.index) ≡ false = ap (λ (xs : List ℕ). is_present xs (1 + c.args.index)) (sym (c.bits.ensures ∙ head.bits)) ∙ sym c.is_present.ensures ∙ off in
    let zeros : c.in_ok-blank_page.field-0.items ≡ replicate d 0 = search rules in
    subst (λ n. HoldsChunk n all c.args.index c.in_ok-blank_page.field-0.items) size_old
    (subst (λ (xs : List ℕ). HoldsChunk d all c.args.index xs) (sym zeros) (absent_holds old z c.args.object moment all f d (size_old ∙ sym f.size) some c.args.index unset))

pub returns-in_err-load-clause-fault : goal.returns-in_err-load-clause-fault
returns-in_err-load-clause-fault g c = λ z moment all f head.
    let old : PagesState = g.P.Pages.state c.args.pages.now in
    let d : ℕ = c.from-page_bytes.result in
    let size_old : d ≡ old.page_bytes = c.from-page_bytes.ensures ∙ c.page_bytes.ensures.bytes in
    let some : 1 ≤ d = omega (arith, c.from-page_bytes.ensures, c.page_bytes.ensures.least) in
    let on : c.is_present.result ≡ true = search rules in
    let set : is_present f.reads.fields.bits (1 + c.args.index) ≡ true = ap (λ (xs : List ℕ). is_present xs (1 + c.args.index)) (sym (c.bits.ensures ∙ head.bits)) ∙ sym c.is_present.ensures ∙ on in
    let page = chunk_there old z c.args.object moment all f d (size_old ∙ sym f.size) some c.args.index set in
    let p = err_from_is_err_and c.from_residual-in_err-load.result c.from_residual-in_err-load.ensures.1 in
    rw (p.1, p.2) (lacks_memory (g.P.Pages.state c.args.pages.now) (g.P.Pages.state c.load.new.pages) _ (c.in_err-load.ensures.fault f.sound page.0 page.1))

pub returns-clause-holds : goal.returns-clause-holds
returns-clause-holds g c = λ z moment all f head.
    let old : PagesState = g.P.Pages.state c.args.pages.now in
    let d : ℕ = c.from-page_bytes.result in
    let size_old : d ≡ old.page_bytes = c.from-page_bytes.ensures ∙ c.page_bytes.ensures.bytes in
    let some : 1 ≤ d = omega (arith, c.from-page_bytes.ensures, c.page_bytes.ensures.least) in
    let on : c.is_present.result ≡ true = search rules in
    let set : is_present f.reads.fields.bits (1 + c.args.index) ≡ true = ap (λ (xs : List ℕ). is_present xs (1 + c.args.index)) (sym (c.bits.ensures ∙ head.bits)) ∙ sym c.is_present.ensures ∙ on in
    let page : List ℕ = (g.P.Pages.state c.load.new.pages).lent in
    let there : old.present c.args.object (1 + c.args.index) ≡ Some page = c.in_ok-load.ensures.page f.sound in
    let copied : c.in_ok-bytes.bytes.items ≡ page = search rules in
    let was : c.deref_mut.result.now ≡ page = c.deref_mut.ensures.value ∙ copied in
    let len : length c.clear_from.new.bytes ≡ d = search rules in
    let items : (with_items c.in_ok-bytes.bytes c.clear_from.new.bytes).items ≡ c.clear_from.new.bytes = with_items_is c.in_ok-bytes.bytes c.clear_from.new.bytes (search (rules, places)) in
    let used : c.saturating_sub-used.result ≡ length all - c.args.index * d = c.saturating_sub-used.ensures ∙ ap (λ n. n - c.args.index * d) (head.length_is ∙ f.reads.size) in
    let holds : HoldsChunk d all c.args.index c.clear_from.new.bytes =
    present_holds old z c.args.object moment all f d (size_old ∙ sym f.size) some c.args.index set page c.clear_from.new.bytes there len c.saturating_sub-used.result used
    (λ i less. c.clear_from.ensures.before i less ∙ ap (λ (xs : List ℕ). get_or xs i 0) was) c.clear_from.ensures.after in
    subst (λ n. HoldsChunk n all c.args.index (with_items c.in_ok-bytes.bytes c.clear_from.new.bytes).items) size_old
    (subst (λ (xs : List ℕ). HoldsChunk d all c.args.index xs) (sym items) holds)
