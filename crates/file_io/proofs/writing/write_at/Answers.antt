use Rattle.std.proofs.Common.{◌≡◌, ◌≤◌, ◌+◌, ◌-◌, ◌*◌, ◌/◌, ◌%◌, ◌++◌, ◌∙◌, ℕ, List, [], ◌∷◌, true, false, min, refl, sym, ap, subst, length, drop, length-drop, arith, rules}
use Rattle.std.proofs.lemmas.List.{length-append, with_items_is, places}
use Rattle.std.proofs.lemmas.Result.{err_from_is_err_and}
use Rattle.std.specs.Vec.{with_items}
use Rattle.page_tags.specs.laws.Byte.{IsBytes-drop}
use Rattle.page_tags.specs.HeaderFields.{file_fields}
use Rattle.page_tags.specs.Headers.{IsHeader, is_present}
use Rattle.posix_profile.specs.Changes.{written}
use Rattle.pages.specs.Changes.{AreSized}
use Rattle.pages.specs.Maps.{after_change}
use Rattle.pages.specs.State.{PagesState}
use Rattle.pages.specs.declared.change.Change.{Change}
use Rattle.flash_tree.specs.declared.place.FreshPage.{FreshPage}
use Rattle.file_io.specs.Heads.{bits_in}
use Rattle.file_io.specs.Files.{Becomes}
use Rattle.file_io.specs.Chunks.{AreOf, HoldChunks, IsAmong, IsWritten}
use Rattle.file_io.proofs.FilePages.{later}
use Rattle.file_io.proofs.Filling.{among_chunks}
use Rattle.file_io.proofs.CommittedPages.{committed_at_entry, committed_none}
use Rattle.file_io.proofs.PageLists.{each_push}
use Rattle.file_io.proofs.WholeWrites.{write_valid, chunks_few, only_of, no_cuts, OrHeader, header_push, write_same, write_new}
use Rattle.file_io.proofs.writing.write_at.Goals as goal
use Rattle.file_io.proofs.writing.write_at.Goals.{else-head-moment-via-then-head-moment+then-to-head+else-has_all, else-head-moment-via-then-head-moment+else-to-head, else-head-moment-via-else-head-moment}

-- the pages looked up, with the header
asked_up : (size of_file len long off n old now got : ℕ) → size ≡ of_file → len ≡ long → now ≤ old + 1 → got ≤ now + min 1 (off - len) + min 1 (off % size) + min 1 ((off + n) % size)
    → got ≤ old + 1 + min 1 (off - long) + min 1 (off % of_file) + min 1 ((off + n) % of_file)
asked_up size of_file len long off n old now got same is one issued =
    subst (λ x. got ≤ old + 1 + min 1 (off - long) + min 1 (off % x) + min 1 ((off + n) % x)) same (omega (arith, is, one, issued))

-- the pages of a write
few_pages : (d size off n count chunks : ℕ) → d ≡ size → 1 ≤ size → 1 ≤ n → n ≤ chunks * size → count + off / d ≤ (off + n - 1) / d + 2 → count ≤ chunks + 2
few_pages d size off n count chunks same some any within_limit most =
    let le = chunks_few d off n chunks (omega (arith, same, some)) any (subst (λ x. n ≤ chunks * x) (sym same) within_limit) in
    omega (arith, le, most)

pub returns-in_err-head-clause-fault : goal.returns-in_err-head-clause-fault
returns-in_err-head-clause-fault g c = λ z before all f.
    let p = err_from_is_err_and c.from_residual.result c.from_residual.ensures.1 in
    rw (p.1, p.2) (c.in_err-head.ensures.fault z before all f)

pub returns-in_err-change-clause-issued : goal.returns-in_err-change-clause-issued
returns-in_err-change-clause-issued g c = λ z before all f.
    let head = c.in_ok-head.ensures.head z before all f in
    asked_up (g.P.Pages.state c.read_head.new.pages).page_bytes z.page_bytes c.in_ok-head.head.length (length all) c.args.offset (length c.args.bytes.now) (g.P.Pages.state c.args.pages.now).issued (g.P.Pages.state c.read_head.new.pages).issued (g.P.Pages.state c.written_pages.new.pages).issued
    (c.read_head.ensures.looks.lookups.page_bytes ∙ sym f.size) (head.length_is ∙ f.reads.size) c.read_head.ensures.issued c.written_pages.ensures.issued

pub returns-in_err-change-clause-fault : goal.returns-in_err-change-clause-fault
returns-in_err-change-clause-fault g c = λ z before all f.
    let old : PagesState = g.P.Pages.state c.args.pages.now in
    let now : PagesState = g.P.Pages.state c.read_head.new.pages in
    let p = err_from_is_err_and c.from_residual-in_err-change.result c.from_residual-in_err-change.ensures.1 in
    rw (p.1, p.2) (c.in_err-change.ensures.fault z before all (later old now z c.args.object before all c.read_head.ensures.looks.lookups f) (c.in_ok-head.ensures.head z before all f))

pub returns-then-has_all-clause-writes : goal.returns-then-has_all-clause-writes
returns-then-has_all-clause-writes g c = λ z before all f any.
    let old : PagesState = g.P.Pages.state c.args.pages.now in
    let now : PagesState = g.P.Pages.state c.read_head.new.pages in
    let d : ℕ = c.from-size.result in
    let off : ℕ = c.args.offset in
    let n : ℕ = length c.args.bytes.now in
    let size_now : d ≡ now.page_bytes = c.from-size.ensures ∙ c.page_bytes.ensures.bytes in
    let size : d ≡ z.page_bytes = size_now ∙ c.read_head.ensures.looks.lookups.page_bytes ∙ sym f.size in
    let some : 1 ≤ d = omega (arith, c.from-size.ensures, c.page_bytes.ensures.least) in
    let head = c.in_ok-head.ensures.head z before all f in
    let len : ℕ = c.in_ok-head.head.length in
    let bits : List ℕ = (bits_in c.in_ok-head.head) in
    let pages : List FreshPage = c.in_ok-change.field-0.items in
    let of : AreOf c.args.object (IsWritten d len bits (off / d) ((off + n - 1) / d + 1)) pages =
    subst (λ x. AreOf c.args.object (IsWritten x len bits (off / x) ((off + n - 1) / x + 1)) pages) (sym size_now) c.in_ok-change.ensures.of in
    let hold : HoldChunks d (written all off c.args.bytes.now) pages =
    subst (λ x. HoldChunks x (written all off c.args.bytes.now) pages) (sym size_now) (c.in_ok-change.ensures.hold z before all (later old now z c.args.object before all c.read_head.ensures.looks.lookups f) head) in
    let change : Change = record { pages = c.in_ok-change.field-0; cuts = c.none-change.result.cuts } in
    subst (λ x. Becomes z old.present (after_change change old.present) c.args.object f.reads.fields (off / x) ((off + n - 1) / x + 1) c.args.moment (written all off c.args.bytes.now)) size
    (write_same old z c.args.object before all f d size some len (head.length_is ∙ f.reads.size) bits head.bits off c.args.bytes.now any c.args.moment pages of hold change refl c.none-change.ensures.cuts
    (sym head.moment ∙ c.if-head-moment.true) c.if-to-head.true (λ k low high. ap (λ (xs : List ℕ). is_present xs (1 + k)) (sym c.bits.ensures) ∙ c.has_all.ensures.all c.if-has_all.true k low high))

pub returns-then-has_all-clause-only : goal.returns-then-has_all-clause-only
returns-then-has_all-clause-only g c =
    let now : PagesState = g.P.Pages.state c.read_head.new.pages in
    let off : ℕ = c.args.offset in
    let n : ℕ = length c.args.bytes.now in
    let change : Change = record { pages = c.in_ok-change.field-0; cuts = c.none-change.result.cuts } in
    only_of change c.args.object (IsWritten now.page_bytes c.in_ok-head.head.length (bits_in c.in_ok-head.head) (off / now.page_bytes) ((off + n - 1) / now.page_bytes + 1)) c.in_ok-change.ensures.of
    (no_cuts change.cuts.items c.none-change.ensures.cuts c.args.object)

pub returns-then-has_all-clause-change : goal.returns-then-has_all-clause-change
returns-then-has_all-clause-change g c = λ chunks within_limit.
    let old : PagesState = g.P.Pages.state c.args.pages.now in
    let now : PagesState = g.P.Pages.state c.read_head.new.pages in
    let some : 1 ≤ old.page_bytes = omega (arith, c.page_bytes.ensures.least, c.page_bytes.ensures.bytes, c.read_head.ensures.looks.lookups.page_bytes) in
    let any : 1 ≤ length c.args.bytes.now = search rules in
    let count = few_pages now.page_bytes old.page_bytes c.args.offset (length c.args.bytes.now) (length c.in_ok-change.field-0.items) chunks c.read_head.ensures.looks.lookups.page_bytes some any within_limit c.in_ok-change.ensures.within_limit in
    record {
      apart = c.in_ok-change.ensures.of.apart;
      size = subst (AreSized c.in_ok-change.field-0.items) c.read_head.ensures.looks.lookups.page_bytes c.in_ok-change.ensures.sized;
      within_limit = omega (arith, count);
    }

pub returns-then-has_all-clause-quiet : goal.returns-then-has_all-clause-quiet
returns-then-has_all-clause-quiet g c = λ z before all f when fits set i is.
    let now : PagesState = g.P.Pages.state c.read_head.new.pages in
    let off : ℕ = c.args.offset in
    let n : ℕ = length c.args.bytes.now in
    let one = (c.in_ok-change.ensures.of.each i is.page is.there).1 in
    among_chunks now.page_bytes c.in_ok-head.head.length (bits_in c.in_ok-head.head) (off / now.page_bytes) ((off + n - 1) / now.page_bytes + 1) is.page.key.chunk is.chunk one

pub head_page-requires-clause-valid : goal.head_page-requires-clause-valid
head_page-requires-clause-valid g c = λ bytes.
    let old : PagesState = g.P.Pages.state c.args.pages.now in
    let d : ℕ = c.from-size.result in
    let size_old : d ≡ old.page_bytes = c.from-size.ensures ∙ c.page_bytes.ensures.bytes ∙ c.read_head.ensures.looks.lookups.page_bytes in
    let len : ℕ = c.in_ok-head.head.length in
    let bits : List ℕ = (bits_in c.in_ok-head.head) in
    let valid : IsHeader d (file_fields len c.in_ok-head.head.moment bits) = subst (λ x. IsHeader x (file_fields len c.in_ok-head.head.moment bits)) (sym size_old) c.in_ok-head.ensures.valid in
    let page : List ℕ = (with_items c.in_ok-head.head.page c.mark_in.new.page).items in
    let items : page ≡ c.mark_in.new.page = with_items_is c.in_ok-head.head.page c.mark_in.new.page (search (rules, places)) in
    let was : c.deref_mut.result.now ≡ c.in_ok-head.head.page.items = c.deref_mut.ensures.value in
    let same : length c.mark_in.new.page ≡ length c.deref_mut.result.now = search rules in
    let committed : length page ≡ length c.in_ok-head.head.page.items = ap length items ∙ same ∙ ap length was in
    let long : length page ≡ d = committed ∙ c.in_ok-head.ensures.size ∙ sym size_old in
    let room : length (drop 32 page) ≡ length bits = length-drop 32 page ∙ ap (λ n. n - 32) committed ∙ sym (length-drop 32 c.in_ok-head.head.page.items) in
    let fits : c.args.offset + length c.args.bytes.now ≤ 8 * (d - 32) * d = subst (λ x. c.args.offset + length c.args.bytes.now ≤ 8 * (x - 32) * x) (sym size_old) c.requires in
    let any : 1 ≤ length c.args.bytes.now = search rules in
    subst (λ x. IsHeader x (file_fields c.max-length.result c.args.moment (drop 32 page))) (sym long)
    (write_valid d len c.in_ok-head.head.moment bits valid (omega (arith, c.from-size.ensures, c.page_bytes.ensures.least)) c.args.offset (length c.args.bytes.now) c.args.moment c.max-length.result (drop 32 page)
    any fits c.ranges.moment.fits c.max-length.ensures room (IsBytes-drop 32 page bytes)
    (λ k outside. ap (λ (xs : List ℕ). is_present (drop 32 xs) (1 + k)) items ∙ c.mark_in.ensures.others k outside ∙ ap (λ (xs : List ℕ). is_present (drop 32 xs) (1 + k)) was))

pub returns-in_err-push-clause-issued : goal.returns-in_err-push-clause-issued
returns-in_err-push-clause-issued g c = λ z before all f.
    let head = c.in_ok-head.ensures.head z before all f in
    asked_up (g.P.Pages.state c.read_head.new.pages).page_bytes z.page_bytes c.in_ok-head.head.length (length all) c.args.offset (length c.args.bytes.now) (g.P.Pages.state c.args.pages.now).issued (g.P.Pages.state c.read_head.new.pages).issued (g.P.Pages.state c.written_pages.new.pages).issued
    (c.read_head.ensures.looks.lookups.page_bytes ∙ sym f.size) (head.length_is ∙ f.reads.size) c.read_head.ensures.issued c.written_pages.ensures.issued

pub returns-clause-issued : goal.returns-clause-issued
returns-clause-issued g c = λ z before all f.
    let head = c.in_ok-head.ensures.head z before all f in
    asked_up (g.P.Pages.state c.read_head.new.pages).page_bytes z.page_bytes c.in_ok-head.head.length (length all) c.args.offset (length c.args.bytes.now) (g.P.Pages.state c.args.pages.now).issued (g.P.Pages.state c.read_head.new.pages).issued (g.P.Pages.state c.written_pages.new.pages).issued
    (c.read_head.ensures.looks.lookups.page_bytes ∙ sym f.size) (head.length_is ∙ f.reads.size) c.read_head.ensures.issued c.written_pages.ensures.issued

pub returns-clause-writes : goal.returns-clause-writes
returns-clause-writes g c = λ z before all f any.
    let old : PagesState = g.P.Pages.state c.args.pages.now in
    let now : PagesState = g.P.Pages.state c.read_head.new.pages in
    let d : ℕ = c.from-size.result in
    let off : ℕ = c.args.offset in
    let n : ℕ = length c.args.bytes.now in
    let size_now : d ≡ now.page_bytes = c.from-size.ensures ∙ c.page_bytes.ensures.bytes in
    let size : d ≡ z.page_bytes = size_now ∙ c.read_head.ensures.looks.lookups.page_bytes ∙ sym f.size in
    let some : 1 ≤ d = omega (arith, c.from-size.ensures, c.page_bytes.ensures.least) in
    let head = c.in_ok-head.ensures.head z before all f in
    let len : ℕ = c.in_ok-head.head.length in
    let bits : List ℕ = (bits_in c.in_ok-head.head) in
    let pages : List FreshPage = c.in_ok-change.field-0.items in
    let of : AreOf c.args.object (IsWritten d len bits (off / d) ((off + n - 1) / d + 1)) pages =
    subst (λ x. AreOf c.args.object (IsWritten x len bits (off / x) ((off + n - 1) / x + 1)) pages) (sym size_now) c.in_ok-change.ensures.of in
    let hold : HoldChunks d (written all off c.args.bytes.now) pages =
    subst (λ x. HoldChunks x (written all off c.args.bytes.now) pages) (sym size_now) (c.in_ok-change.ensures.hold z before all (later old now z c.args.object before all c.read_head.ensures.looks.lookups f) head) in
    let change : Change = record { pages = c.push.new.self; cuts = c.none-change.result.cuts } in
    let q : FreshPage = c.head_page.result in
    let items : c.push.new.self.items ≡ pages ++ q ∷ [] = c.in_ok-push.ensures.items in
    let page : List ℕ = (with_items c.in_ok-head.head.page c.mark_in.new.page).items in
    let page_is : page ≡ c.mark_in.new.page = with_items_is c.in_ok-head.head.page c.mark_in.new.page (search (rules, places)) in
    let was : c.deref_mut.result.now ≡ c.in_ok-head.head.page.items = c.deref_mut.ensures.value in
    let same : length c.mark_in.new.page ≡ length c.deref_mut.result.now = search rules in
    let long : length page ≡ d = ap length page_is ∙ same ∙ ap length was ∙ c.in_ok-head.ensures.size ∙ sym (size_now ∙ c.read_head.ensures.looks.lookups.page_bytes) in
    let now_bits : List ℕ = drop 32 page in
    let valid : IsHeader d (file_fields c.max-length.result c.args.moment now_bits) = subst (λ x. IsHeader x (file_fields c.max-length.result c.args.moment now_bits)) long c.head_page.ensures.valid in
    subst (λ x. Becomes z old.present (after_change change old.present) c.args.object f.reads.fields (off / x) ((off + n - 1) / x + 1) c.args.moment (written all off c.args.bytes.now)) size
    (write_new old z c.args.object before all f d size some len (head.length_is ∙ f.reads.size) bits head.bits off c.args.bytes.now any c.args.moment pages of hold change q c.max-length.result now_bits items c.none-change.ensures.cuts
    c.head_page.ensures.object c.head_page.ensures.chunk c.head_page.ensures.header valid c.max-length.ensures
    (λ k low high. ap (λ (xs : List ℕ). is_present (drop 32 xs) (1 + k)) page_is ∙ c.mark_in.ensures.here k low high)
    (λ k outside. ap (λ (xs : List ℕ). is_present (drop 32 xs) (1 + k)) page_is ∙ c.mark_in.ensures.others k outside ∙ ap (λ (xs : List ℕ). is_present (drop 32 xs) (1 + k)) was))

pub returns-clause-only : goal.returns-clause-only
returns-clause-only g c =
    let now : PagesState = g.P.Pages.state c.read_head.new.pages in
    let off : ℕ = c.args.offset in
    let n : ℕ = length c.args.bytes.now in
    let d : ℕ = now.page_bytes in
    let len : ℕ = c.in_ok-head.head.length in
    let bits : List ℕ = (bits_in c.in_ok-head.head) in
    let IsOne : ℕ → Type 0 = IsWritten d len bits (off / d) ((off + n - 1) / d + 1) in
    let pages : List FreshPage = c.in_ok-change.field-0.items in
    let q : FreshPage = c.head_page.result in
    let change : Change = record { pages = c.push.new.self; cuts = c.none-change.result.cuts } in
    let items : c.push.new.self.items ≡ pages ++ q ∷ [] = c.in_ok-push.ensures.items in
    let of = header_push c.args.object IsOne pages q c.in_ok-change.ensures.of (among_chunks d len bits (off / d) ((off + n - 1) / d + 1) 0 refl) c.head_page.ensures.object c.head_page.ensures.chunk in
    only_of change c.args.object (OrHeader IsOne) (subst (λ (xs : List FreshPage). AreOf c.args.object (OrHeader IsOne) xs) (sym items) of) (no_cuts change.cuts.items c.none-change.ensures.cuts c.args.object)

pub returns-clause-change : goal.returns-clause-change
returns-clause-change g c = λ chunks within_limit.
    let old : PagesState = g.P.Pages.state c.args.pages.now in
    let now : PagesState = g.P.Pages.state c.read_head.new.pages in
    let off : ℕ = c.args.offset in
    let n : ℕ = length c.args.bytes.now in
    let d : ℕ = now.page_bytes in
    let len : ℕ = c.in_ok-head.head.length in
    let bits : List ℕ = (bits_in c.in_ok-head.head) in
    let IsOne : ℕ → Type 0 = IsWritten d len bits (off / d) ((off + n - 1) / d + 1) in
    let pages : List FreshPage = c.in_ok-change.field-0.items in
    let q : FreshPage = c.head_page.result in
    let items : c.push.new.self.items ≡ pages ++ q ∷ [] = c.in_ok-push.ensures.items in
    let of = header_push c.args.object IsOne pages q c.in_ok-change.ensures.of (among_chunks d len bits (off / d) ((off + n - 1) / d + 1) 0 refl) c.head_page.ensures.object c.head_page.ensures.chunk in
    let same : d ≡ old.page_bytes = c.read_head.ensures.looks.lookups.page_bytes in
    let some : 1 ≤ old.page_bytes = omega (arith, c.page_bytes.ensures.least, c.page_bytes.ensures.bytes, same) in
    let any : 1 ≤ n = search rules in
    let count = few_pages d old.page_bytes off n (length pages) chunks same some any within_limit c.in_ok-change.ensures.within_limit in
    let page : List ℕ = (with_items c.in_ok-head.head.page c.mark_in.new.page).items in
    let page_is : page ≡ c.mark_in.new.page = with_items_is c.in_ok-head.head.page c.mark_in.new.page (search (rules, places)) in
    let committed : length c.mark_in.new.page ≡ length c.deref_mut.result.now = search rules in
    let size : length q.bytes.items ≡ old.page_bytes = c.head_page.ensures.size ∙ ap length page_is ∙ committed ∙ ap length c.deref_mut.ensures.value ∙ c.in_ok-head.ensures.size in
    let long : length c.push.new.self.items ≡ length pages + 1 = ap length items ∙ length-append pages (q ∷ []) in
    record {
      apart = (subst (λ (xs : List FreshPage). AreOf c.args.object (OrHeader IsOne) xs) (sym items) of).apart;
      size = subst (λ (xs : List FreshPage). AreSized xs old.page_bytes) (sym items)
          (each_push (λ i p. length p.bytes.items ≡ old.page_bytes) pages q (subst (AreSized pages) same c.in_ok-change.ensures.sized) (λ i. size));
      within_limit = omega (arith, long, count);
    }

pub returns-clause-quiet : goal.returns-clause-quiet
returns-clause-quiet g c = λ z before all f when fits set i is.
    let old : PagesState = g.P.Pages.state c.args.pages.now in
    let head = c.in_ok-head.ensures.head z before all f in
    let d : ℕ = c.from-size.result in
    let size : d ≡ z.page_bytes = c.from-size.ensures ∙ c.page_bytes.ensures.bytes ∙ c.read_head.ensures.looks.lookups.page_bytes ∙ sym f.size in
    elim c.else-head-moment.branch [
      | else-head-moment-via-then-head-moment+then-to-head+else-has_all w ↦
          let lack = w.has_all.ensures.lacks w.if-has_all.false in
          let among : IsAmong (c.args.offset / z.page_bytes) ((c.args.offset + length c.args.bytes.now - 1) / z.page_bytes + 1) (1 + lack.0) =
          subst (λ x. IsAmong (c.args.offset / x) ((c.args.offset + length c.args.bytes.now - 1) / x + 1) (1 + lack.0)) size (record { from = omega (arith, lack.1); to = omega (arith, lack.2) }) in
          let two : true ≡ false = sym (set (1 + lack.0) among) ∙ ap (λ (xs : List ℕ). is_present xs (1 + lack.0)) (sym (w.bits.ensures ∙ head.bits)) ∙ lack.3 in
          absurd cc
      | else-head-moment-via-then-head-moment+else-to-head w ↦ absurd (omega (arith, w.if-to-head.false, fits, head.length_is, f.reads.size))
      | else-head-moment-via-else-head-moment w ↦ absurd (w.if-head-moment.false (head.moment ∙ f.reads.when ∙ sym when))
    ]

pub returns-then-has_all-clause-reported : goal.returns-then-has_all-clause-reported
returns-then-has_all-clause-reported g c = λ sound.
    let lookups = c.read_head.ensures.looks.lookups in
    committed_at_entry (g.P.Pages.state c.args.pages.now) (g.P.Pages.state c.read_head.new.pages) lookups c.args.object c.in_ok-head.head (c.in_ok-head.ensures.reported sound) c.args.offset (length c.args.bytes.now)
    (c.in_ok-change.ensures.reported (lookups.sound ∙ sound))

pub returns-clause-reported : goal.returns-clause-reported
returns-clause-reported g c = λ sound.
    let lookups = c.read_head.ensures.looks.lookups in
    committed_at_entry (g.P.Pages.state c.args.pages.now) (g.P.Pages.state c.read_head.new.pages) lookups c.args.object c.in_ok-head.head (c.in_ok-head.ensures.reported sound) c.args.offset (length c.args.bytes.now)
    (c.in_ok-change.ensures.reported (lookups.sound ∙ sound))

pub returns-then-is_empty-clause-reported : goal.returns-then-is_empty-clause-reported
returns-then-is_empty-clause-reported g c = λ sound.
    let old : PagesState = g.P.Pages.state c.args.pages.now in
    let s = c.in_ok-head.ensures.reported sound in
    let none : length c.args.bytes.now ≡ 0 = search rules in
    (s.0, committed_none old.present c.args.object s.0.fields.bits old.page_bytes s.0.fields.length c.args.offset (length c.args.bytes.now) none)

pub returns-in_err-push-clause-looks : goal.returns-in_err-push-clause-looks
returns-in_err-push-clause-looks g c = record { lookups = search rules; power = search rules; why = search rules }

pub returns-clause-looks : goal.returns-clause-looks
returns-clause-looks g c = record { lookups = search rules; power = search rules; why = search rules }
