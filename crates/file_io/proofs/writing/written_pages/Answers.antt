use Rattle.std.proofs.Common.{◌≡◌, ◌⊎◌, ◌≤◌, ◌<◌, ◌+◌, ◌-◌, ◌*◌, ◌/◌, ◌%◌, ◌++◌, ◌∙◌, ℕ, List, [], ◌∷◌, min, Some, inl, refl, sym, ap, subst, length, arith, rules}
use Rattle.std.proofs.lemmas.List.{length-append}
use Rattle.std.proofs.lemmas.Result.{err_from_is_err_and}
use Rattle.posix_profile.specs.Changes.{written}
use Rattle.pages.specs.Changes.{AreSized}
use Rattle.pages.specs.State.{PagesState}
use Rattle.pages.specs.laws.State.{finds_on}
use Rattle.flash_tree.specs.declared.place.FreshPage.{FreshPage}
use Rattle.file_io.specs.Heads.{bits_in}
use Rattle.file_io.specs.Chunks.{AreOf, HoldsChunk, HoldChunks, IsPartCommitted, IsPartLast, IsTail, IsWritten}
use Rattle.pages.specs.Maps.{PageMap}
use Rattle.file_io.specs.Files.{HasPages}
use Rattle.file_io.specs.Parts.{MeetsChunk}
use Rattle.file_io.proofs.FilePages.{later}
use Rattle.file_io.proofs.Filling.{tail_before, among_none, among_more, among_this, among_only, among_fresh, asked_tail, asked_more}
use Rattle.file_io.proofs.CommittedPages.{there_more, committed_pages}
use Rattle.file_io.proofs.PageLists.{each_push, of_push, of_same, hold_push, of_chunk}
use Rattle.file_io.proofs.Ranges.{begins_before, chunks_order, ends_behind}
use Rattle.file_io.proofs.writing.written_pages.Goals as goal

pub returns-in_err-fresh-clause-issued : goal.returns-in_err-fresh-clause-issued
returns-in_err-fresh-clause-issued g c =
    let old : PagesState = g.P.Pages.state c.args.pages.now in
    let d : ℕ = c.from-page_bytes.result in
    let size_old : d ≡ old.page_bytes = c.from-page_bytes.ensures ∙ c.page_bytes.ensures.bytes in
    let tail = asked_tail old.page_bytes c.args.offset c.args.head.now.length old.issued (g.P.Pages.state c.tail_pages.new.pages).issued c.tail_pages.ensures.issued
    (λ le. c.tail_pages.ensures.none_issued (subst (λ n. c.args.offset / n ≤ c.args.head.now.length / old.page_bytes) (sym size_old) le)) in
    omega (arith, tail)

pub returns-in_err-fresh-clause-fault : goal.returns-in_err-fresh-clause-fault
returns-in_err-fresh-clause-fault g c = λ z moment all f head.
    let p = err_from_is_err_and c.from_residual.result c.from_residual.ensures.1 in
    rw (p.1, p.2) (c.in_err-fresh.ensures.fault z moment all f head)

pub loop-index-init : goal.loop-index-init
loop-index-init g c =
    let old : PagesState = g.P.Pages.state c.args.pages.now in
    let d : ℕ = c.from-page_bytes.result in
    let len : ℕ = c.args.head.now.length in
    let bits : List ℕ = (bits_in c.args.head.now) in
    let first : ℕ = c.args.offset / d in
    let fresh : List FreshPage = c.in_ok-fresh.fresh.items in
    let size_old : d ≡ old.page_bytes = c.from-page_bytes.ensures ∙ c.page_bytes.ensures.bytes in
    let of : AreOf c.args.object (IsTail d len bits first) fresh = subst (λ n. AreOf c.args.object (IsTail n len bits first) fresh) (sym size_old) c.in_ok-fresh.ensures.of in
    let tail = asked_tail d c.args.offset len old.issued (g.P.Pages.state c.tail_pages.new.pages).issued c.tail_pages.ensures.issued
    (λ le. c.tail_pages.ensures.none_issued (subst (λ n. first ≤ len / n) size_old le)) in
    record {
      lookups = c.tail_pages.ensures.looks.lookups;
      power = c.in_ok-fresh.ensures.looks.power;
      issued = omega (arith, tail);
      reported = λ sound k low less. absurd (omega (arith, low, less));
      of = of_same c.args.object (IsTail d len bits first) (IsWritten d len bits first first) fresh (λ k is. inl is) (λ k. among_none d len bits first k) of;
      within_limit = omega (arith, c.in_ok-fresh.ensures.within_limit);
      sized = subst (AreSized fresh) (sym size_old) c.in_ok-fresh.ensures.sized;
      hold = λ z moment all f head. tail_before c.args.object d len bits c.args.offset c.args.bytes.now all fresh of
          (subst (λ n. HoldChunks n all fresh) (sym size_old) (c.in_ok-fresh.ensures.hold z moment all f head));
    }

pub written_bytes-requires-clause-meets : goal.written_bytes-requires-clause-meets
written_bytes-requires-clause-meets g c =
    let now : PagesState = g.P.Pages.state c.loop-index.pages in
    let d : ℕ = c.from-page_bytes.result in
    let k : ℕ = c.loop-index.index in
    let n : ℕ = length c.args.bytes.now in
    let size_now : d ≡ now.page_bytes = c.from-page_bytes.ensures ∙ c.page_bytes.ensures.bytes ∙ sym c.loop-index.invariant.lookups.page_bytes in
    let some : 1 ≤ d = omega (arith, c.from-page_bytes.ensures, c.page_bytes.ensures.least) in
    subst (λ x. MeetsChunk x k c.args.offset (c.args.offset + n)) size_now (record {
      begins = begins_before d k (c.args.offset + n) (omega (arith, c.requires.write.some)) c.loop-index-test.true;
      ends = ends_behind d k c.args.offset some c.loop-index.auto.index;
    })

pub returns-in_err-page-clause-looks : goal.returns-in_err-page-clause-looks
returns-in_err-page-clause-looks g c = record { lookups = finds_on _ _ _ c.loop-index.invariant.lookups c.written_bytes.ensures.looks.lookups; power = search rules; why = search rules }

-- how many pages were looked up up to this chunk
within : (d size off n k start was got : ℕ) → d ≡ size → 1 ≤ d → 1 ≤ n → off / d ≤ k → k < (off + n - 1) / d + 1 → got ≤ was + 1 → (off ≤ k * d → k * d + d ≤ off + n → got ≡ was)
    → was ≤ start + min (min 1 (off % d)) (k - off / d) + min (min 1 ((off + n) % d)) (k - ((off + n - 1) / d + 1 - 1))
    → got ≤ start + min 1 (off % size) + min 1 ((off + n) % size)
within d size off n k start was got is some any low high most none before =
    subst (λ x. got ≤ start + min 1 (off % x) + min 1 ((off + n) % x)) is (omega (arith, asked_more d off n k start was got some any low high most none before))

pub returns-in_err-page-clause-issued : goal.returns-in_err-page-clause-issued
returns-in_err-page-clause-issued g c =
    let old : PagesState = g.P.Pages.state c.args.pages.now in
    let now : PagesState = g.P.Pages.state c.loop-index.pages in
    let d : ℕ = c.from-page_bytes.result in
    let k : ℕ = c.loop-index.index in
    let size_old : d ≡ old.page_bytes = c.from-page_bytes.ensures ∙ c.page_bytes.ensures.bytes in
    let size_now : d ≡ now.page_bytes = size_old ∙ sym c.loop-index.invariant.lookups.page_bytes in
    within d old.page_bytes c.args.offset (length c.args.bytes.now) k (old.issued + min 1 (c.args.offset - c.args.head.now.length)) now.issued (g.P.Pages.state c.written_bytes.new.pages).issued size_old
    (omega (arith, c.from-page_bytes.ensures, c.page_bytes.ensures.least)) c.requires.write.some c.loop-index.auto.index c.loop-index-test.true c.written_bytes.ensures.issued
    (λ a b. c.written_bytes.ensures.none_issued (subst (λ x. c.args.offset ≤ k * x) size_now a) (subst (λ x. k * x + x ≤ c.args.offset + length c.args.bytes.now) size_now b)) c.loop-index.invariant.issued

pub returns-in_err-page-clause-fault : goal.returns-in_err-page-clause-fault
returns-in_err-page-clause-fault g c = λ z moment all f head.
    let old : PagesState = g.P.Pages.state c.args.pages.now in
    let now : PagesState = g.P.Pages.state c.loop-index.pages in
    let p = err_from_is_err_and c.from_residual-in_err-page.result c.from_residual-in_err-page.ensures.1 in
    rw (p.1, p.2) (c.in_err-page.ensures.fault z moment all (later old now z c.args.object moment all c.loop-index.invariant.lookups f) head)

pub returns-in_err-push-clause-issued : goal.returns-in_err-push-clause-issued
returns-in_err-push-clause-issued g c =
    let old : PagesState = g.P.Pages.state c.args.pages.now in
    let now : PagesState = g.P.Pages.state c.loop-index.pages in
    let d : ℕ = c.from-page_bytes.result in
    let k : ℕ = c.loop-index.index in
    let size_old : d ≡ old.page_bytes = c.from-page_bytes.ensures ∙ c.page_bytes.ensures.bytes in
    let size_now : d ≡ now.page_bytes = size_old ∙ sym c.loop-index.invariant.lookups.page_bytes in
    within d old.page_bytes c.args.offset (length c.args.bytes.now) k (old.issued + min 1 (c.args.offset - c.args.head.now.length)) now.issued (g.P.Pages.state c.written_bytes.new.pages).issued size_old
    (omega (arith, c.from-page_bytes.ensures, c.page_bytes.ensures.least)) c.requires.write.some c.loop-index.auto.index c.loop-index-test.true c.written_bytes.ensures.issued
    (λ a b. c.written_bytes.ensures.none_issued (subst (λ x. c.args.offset ≤ k * x) size_now a) (subst (λ x. k * x + x ≤ c.args.offset + length c.args.bytes.now) size_now b)) c.loop-index.invariant.issued

pub loop-index-preserved : goal.loop-index-preserved
loop-index-preserved g c =
    let old : PagesState = g.P.Pages.state c.args.pages.now in
    let now : PagesState = g.P.Pages.state c.loop-index.pages in
    let d : ℕ = c.from-page_bytes.result in
    let k : ℕ = c.loop-index.index in
    let o : ℕ = c.args.object in
    let len : ℕ = c.args.head.now.length in
    let bits : List ℕ = (bits_in c.args.head.now) in
    let first : ℕ = c.args.offset / d in
    let fresh : List FreshPage = c.loop-index.fresh.items in
    let size_old : d ≡ old.page_bytes = c.from-page_bytes.ensures ∙ c.page_bytes.ensures.bytes in
    let size_now : d ≡ now.page_bytes = size_old ∙ sym c.loop-index.invariant.lookups.page_bytes in
    let low : first ≤ k = c.loop-index.auto.index in
    let q : FreshPage = record { key = record { object = o; chunk = 1 + k }; bytes = c.in_ok-page.page } in
    let items : c.push.new.self.items ≡ fresh ++ q ∷ [] = c.in_ok-push.ensures.items in
    let size : length c.in_ok-page.page.items ≡ d = c.in_ok-page.ensures.size ∙ sym size_now in
    let count : length c.push.new.self.items ≡ length fresh + 1 = ap length items ∙ length-append fresh (q ∷ []) in
    record {
      lookups = finds_on _ _ _ c.loop-index.invariant.lookups c.written_bytes.ensures.looks.lookups;
      power = c.in_ok-page.ensures.looks.power ∙ c.loop-index.invariant.power;
      issued = asked_more d c.args.offset (length c.args.bytes.now) k (old.issued + min 1 (c.args.offset - len)) now.issued (g.P.Pages.state c.written_bytes.new.pages).issued
          (omega (arith, c.from-page_bytes.ensures, c.page_bytes.ensures.least)) c.requires.write.some low c.loop-index-test.true c.written_bytes.ensures.issued
          (λ a b. c.written_bytes.ensures.none_issued (subst (λ x. c.args.offset ≤ k * x) size_now a) (subst (λ x. k * x + x ≤ c.args.offset + length c.args.bytes.now) size_now b)) c.loop-index.invariant.issued;
      reported = λ sound. there_more old.present o bits (λ i. (i * d < c.args.offset) ⊎ (c.args.offset + length c.args.bytes.now < i * d + d)) first k (c.loop-index.invariant.reported sound) (λ part set.
          let p = c.in_ok-page.ensures.reported (c.loop-index.invariant.lookups.sound ∙ sound)
          (subst (λ x. (k * x < c.args.offset) ⊎ (c.args.offset + length c.args.bytes.now < k * x + x)) size_now part) set in
          (p.0, subst (λ (m : PageMap). m o (1 + k) ≡ Some p.0) c.loop-index.invariant.lookups.present p.1));
      of = subst (λ (xs : List FreshPage). AreOf o (IsWritten d len bits first (k + 1)) xs) (sym items)
          (of_push o (IsWritten d len bits first k) (IsWritten d len bits first (k + 1)) fresh q c.loop-index.invariant.of refl
          (λ is. among_fresh d len bits first k (1 + k) low refl is) (λ n is. among_more d len bits first k n is) (among_this d len bits first k (1 + k) low refl) (λ n is. among_only d len bits first k n (1 + k) refl is));
      within_limit = omega (arith, count, c.loop-index.invariant.within_limit);
      sized = subst (λ (xs : List FreshPage). AreSized xs d) (sym items) (each_push (λ i p. length p.bytes.items ≡ d) fresh q c.loop-index.invariant.sized (λ i. size));
      hold = λ z moment all f head. subst (λ (xs : List FreshPage). HoldChunks d (written all c.args.offset c.args.bytes.now) xs) (sym items)
          (hold_push d (written all c.args.offset c.args.bytes.now) fresh q (c.loop-index.invariant.hold z moment all f head)
          (of_chunk d (written all c.args.offset c.args.bytes.now) q k refl
          (subst (λ x. HoldsChunk x (written all c.args.offset c.args.bytes.now) k c.in_ok-page.page.items) (sym size_now)
          (c.in_ok-page.ensures.holds z moment all (later old now z o moment all c.loop-index.invariant.lookups f) head))));
    }

pub returns-clause-of : goal.returns-clause-of
returns-clause-of g c =
    let old : PagesState = g.P.Pages.state c.args.pages.now in
    let d : ℕ = c.from-page_bytes.result in
    let len : ℕ = c.args.head.now.length in
    let bits : List ℕ = (bits_in c.args.head.now) in
    let fresh : List FreshPage = c.loop-index.fresh.items in
    let n : ℕ = c.args.offset + length c.args.bytes.now - 1 in
    let size_old : d ≡ old.page_bytes = c.from-page_bytes.ensures ∙ c.page_bytes.ensures.bytes in
    let order : c.args.offset / d ≤ n / d + 1 = chunks_order d c.args.offset (c.args.offset + length c.args.bytes.now) (omega (arith, c.requires.write.some)) in
    let up : c.loop-index.index ≤ n / d + 1 = c.loop-index.auto.index-end order in
    let is : c.loop-index.index ≡ n / d + 1 = omega (arith, up, c.loop-index-test.false) in
    subst (λ x. AreOf c.args.object (IsWritten x len bits (c.args.offset / x) (n / x + 1)) fresh) size_old
    (subst (λ e. AreOf c.args.object (IsWritten d len bits (c.args.offset / d) e) fresh) is c.loop-index.invariant.of)

pub returns-clause-hold : goal.returns-clause-hold
returns-clause-hold g c = λ z moment all f head.
    let old : PagesState = g.P.Pages.state c.args.pages.now in
    let size_old : c.from-page_bytes.result ≡ old.page_bytes = c.from-page_bytes.ensures ∙ c.page_bytes.ensures.bytes in
    subst (λ x. HoldChunks x (written all c.args.offset c.args.bytes.now) c.loop-index.fresh.items) size_old (c.loop-index.invariant.hold z moment all f head)

pub returns-clause-reported : goal.returns-clause-reported
returns-clause-reported g c = λ sound.
    let old : PagesState = g.P.Pages.state c.args.pages.now in
    let d : ℕ = c.from-page_bytes.result in
    let o : ℕ = c.args.object in
    let len : ℕ = c.args.head.now.length in
    let bits : List ℕ = (bits_in c.args.head.now) in
    let off : ℕ = c.args.offset in
    let n : ℕ = length c.args.bytes.now in
    let size_old : d ≡ old.page_bytes = c.from-page_bytes.ensures ∙ c.page_bytes.ensures.bytes in
    let past : (off + n - 1) / d + 1 ≤ c.loop-index.index = c.loop-index-test.false in
    subst (λ x. HasPages old.present o bits (IsPartCommitted x len off n)) size_old
    (committed_pages old.present o bits d len off n (omega (arith, c.from-page_bytes.ensures, c.page_bytes.ensures.least))
    (λ k low less part. c.loop-index.invariant.reported sound k low (omega (arith, less, past)) part)
    (λ before. subst (λ x. HasPages old.present o bits (IsPartLast x len)) (sym size_old) (c.in_ok-fresh.ensures.reported sound (subst (λ x. len / x < off / d) size_old before))))

pub returns-in_err-push-clause-looks : goal.returns-in_err-push-clause-looks
returns-in_err-push-clause-looks g c = record { lookups = finds_on _ _ _ c.loop-index.invariant.lookups c.written_bytes.ensures.looks.lookups; power = search rules; why = search rules }
