use Rattle.std.proofs.Common.{◌≡◌, ◌+◌, ◌/◌, ◌∙◌, ℕ, List, [], ◌∷◌, true, refl, sym, ap, subst, arith, rules}
use Rattle.std.proofs.lemmas.Result.{err_from_is_err_and}
use Rattle.page_tags.specs.Headers.{is_present}
use Rattle.pages.specs.State.{PagesState}
use Rattle.flash_tree.specs.declared.place.FreshPage.{FreshPage}
use Rattle.file_io.specs.Heads.{bits_in}
use Rattle.file_io.specs.Chunks.{AreOf, HoldChunks, IsTail}
use Rattle.file_io.proofs.PageLists.{of_one, hold_none, hold_push, of_chunk}
use Rattle.file_io.proofs.chunk.tail_pages.Goals as goal

pub returns-in_err-bytes-clause-fault : goal.returns-in_err-bytes-clause-fault
returns-in_err-bytes-clause-fault g c = λ z moment all f head.
    let p = err_from_is_err_and c.from_residual.result c.from_residual.ensures.1 in
    rw (p.1, p.2) (c.in_err-bytes.ensures.fault z moment all f head)

pub returns-clause-of : goal.returns-clause-of
returns-clause-of g c =
    let old : PagesState = g.P.Pages.state c.args.pages.now in
    let d : ℕ = c.from-page_bytes.result in
    let len : ℕ = c.args.head.now.length in
    let bits : List ℕ = (bits_in c.args.head.now) in
    let size_old : d ≡ old.page_bytes = c.from-page_bytes.ensures ∙ c.page_bytes.ensures.bytes in
    let q : FreshPage = record { key = record { object = c.args.object; chunk = 1 + len / d }; bytes = c.in_ok-bytes.bytes } in
    let items : c.in_ok-vec.field-0.items ≡ q ∷ [] = c.in_ok-vec.ensures.items in
    let on : c.is_present.result ≡ true = search rules in
    let set : is_present bits (1 + len / d) ≡ true = ap (λ (xs : List ℕ). is_present xs (1 + len / d)) (sym c.bits.ensures) ∙ sym c.is_present.ensures ∙ on in
    let this : IsTail d len bits c.args.before (1 + len / d) = record { chunk = refl; partly = omega arith; before = omega arith; there = set } in
    subst (λ n. AreOf c.args.object (IsTail n len bits c.args.before) c.in_ok-vec.field-0.items) size_old
    (subst (λ (xs : List FreshPage). AreOf c.args.object (IsTail d len bits c.args.before) xs) (sym items) (of_one c.args.object (IsTail d len bits c.args.before) q refl this (λ k is. is.chunk)))

pub returns-clause-hold : goal.returns-clause-hold
returns-clause-hold g c = λ z moment all f head.
    let old : PagesState = g.P.Pages.state c.args.pages.now in
    let d : ℕ = c.from-page_bytes.result in
    let len : ℕ = c.args.head.now.length in
    let q : FreshPage = record { key = record { object = c.args.object; chunk = 1 + len / d }; bytes = c.in_ok-bytes.bytes } in
    let items : c.in_ok-vec.field-0.items ≡ q ∷ [] = c.in_ok-vec.ensures.items in
    subst (λ (xs : List FreshPage). HoldChunks old.page_bytes all xs) (sym items)
    (hold_push old.page_bytes all [] q (hold_none old.page_bytes all) (of_chunk old.page_bytes all q (len / d) refl (c.in_ok-bytes.ensures.holds z moment all f head)))
