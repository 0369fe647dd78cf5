use Rattle.std.proofs.Common.{◌≡◌, ◌<◌, ◌≤◌, ◌+◌, ◌-◌, ◌*◌, ◌/◌, ◌++◌, ◌∙◌, ℕ, List, [], ◌∷◌, min, inl, inr, sym, ap, subst, length, drop, length-drop, arith, rules}
use Rattle.std.proofs.lemmas.Bool.{cases_lt}
use Rattle.std.proofs.lemmas.List.{length-append, with_items_is, places}
use Rattle.std.proofs.lemmas.Result.{err_from_is_err_and}
use Rattle.std.specs.Vec.{with_items}
use Rattle.page_tags.specs.laws.Byte.{IsBytes-drop}
use Rattle.page_tags.specs.HeaderFields.{file_fields}
use Rattle.page_tags.specs.Headers.{IsHeader, is_present}
use Rattle.pages.specs.Changes.{AreSized}
use Rattle.pages.specs.State.{PagesState}
use Rattle.pages.specs.declared.change.Change.{Change}
use Rattle.flash_tree.specs.declared.place.FreshPage.{FreshPage}
use Rattle.file_io.specs.Heads.{bits_in}
use Rattle.file_io.specs.Chunks.{AreOf, HoldChunks, IsTail}
use Rattle.file_io.proofs.FilePages.{later}
use Rattle.file_io.proofs.CommittedPages.{last_at_entry, grows_past}
use Rattle.file_io.proofs.PageLists.{each_push}
use Rattle.file_io.proofs.WholeWrites.{only_of, OrHeader, header_push}
use Rattle.file_io.proofs.Resized.{resize_same, resize_new, resize_valid}
use Rattle.file_io.proofs.resizing.set_length.Goals as goal
use Rattle.file_io.proofs.resizing.set_length.Goals.{else-head-len-via-then-head-len+else-head-moment, else-head-len-via-else-head-len}

-- the pages looked up
asked_up : (len long n limit size old now got : ℕ) → len ≡ long → now ≤ old + 1 → got ≤ now + 1 → (n ≤ len → limit ≡ 0) → (limit ≤ len / size → got ≡ now) → got ≤ old + 1 + min 1 (n - long)
asked_up len long n limit size old now got same one most stays none = elim (cases_lt len n) [
  | inl more ↦ omega (arith, same, one, most, more)
  | inr less ↦ let is : got ≡ now = none (omega (arith, stays less)) in omega (arith, is, one)
]

pub returns-in_err-head-clause-fault : goal.returns-in_err-head-clause-fault
returns-in_err-head-clause-fault g c = λ z before all f.
    let p = err_from_is_err_and c.from_residual.result c.from_residual.ensures.1 in
    rw (p.1, p.2) (c.in_err-head.ensures.fault z before all f)

pub returns-then-head-moment-clause-sets : goal.returns-then-head-moment-clause-sets
returns-then-head-moment-clause-sets g c = λ z before all f.
    let old : PagesState = g.P.Pages.state c.args.pages.now in
    let d : ℕ = c.from-size.result in
    let size : d ≡ z.page_bytes = c.from-size.ensures ∙ c.page_bytes.ensures.bytes ∙ c.read_head.ensures.looks.lookups.page_bytes ∙ sym f.size in
    let some : 1 ≤ d = omega (arith, c.from-size.ensures, c.page_bytes.ensures.least) in
    let head = c.in_ok-head.ensures.head z before all f in
    resize_same old z c.args.object before all f d size some c.in_ok-head.head.length (head.length_is ∙ f.reads.size) (bits_in c.in_ok-head.head) head.bits c.args.len c.args.moment
    (sym c.if-head-len.true) (sym head.moment ∙ c.if-head-moment.true) c.none-change.result c.none-change.ensures.pages c.none-change.ensures.cuts

pub returns-in_err-change-clause-issued : goal.returns-in_err-change-clause-issued
returns-in_err-change-clause-issued g c = λ z before all f.
    let head = c.in_ok-head.ensures.head z before all f in
    asked_up c.in_ok-head.head.length (length all) c.args.len c.tail_limit-limit.result (g.P.Pages.state c.read_head.new.pages).page_bytes (g.P.Pages.state c.args.pages.now).issued (g.P.Pages.state c.read_head.new.pages).issued (g.P.Pages.state c.tail_pages.new.pages).issued
    (head.length_is ∙ f.reads.size) c.read_head.ensures.issued c.tail_pages.ensures.issued c.tail_limit-limit.ensures.cuts c.tail_pages.ensures.none_issued

pub returns-in_err-change-clause-fault : goal.returns-in_err-change-clause-fault
returns-in_err-change-clause-fault g c = λ z before all f.
    let old : PagesState = g.P.Pages.state c.args.pages.now in
    let now : PagesState = g.P.Pages.state c.read_head.new.pages in
    let p = err_from_is_err_and c.from_residual-in_err-change.result c.from_residual-in_err-change.ensures.1 in
    rw (p.1, p.2) (c.in_err-change.ensures.fault z before all (later old now z c.args.object before all c.read_head.ensures.looks.lookups f) (c.in_ok-head.ensures.head z before all f))

pub returns-in_err-change-2-clause-issued : goal.returns-in_err-change-2-clause-issued
returns-in_err-change-2-clause-issued g c = λ z before all f.
    let head = c.in_ok-head.ensures.head z before all f in
    asked_up c.in_ok-head.head.length (length all) c.args.len c.tail_limit-limit.result (g.P.Pages.state c.read_head.new.pages).page_bytes (g.P.Pages.state c.args.pages.now).issued (g.P.Pages.state c.read_head.new.pages).issued (g.P.Pages.state c.tail_pages.new.pages).issued
    (head.length_is ∙ f.reads.size) c.read_head.ensures.issued c.tail_pages.ensures.issued c.tail_limit-limit.ensures.cuts c.tail_pages.ensures.none_issued

pub head_page-requires-clause-valid : goal.head_page-requires-clause-valid
head_page-requires-clause-valid g c = λ bytes.
    let old : PagesState = g.P.Pages.state c.args.pages.now in
    let d : ℕ = c.from-size.result in
    let size_old : d ≡ old.page_bytes = c.from-size.ensures ∙ c.page_bytes.ensures.bytes ∙ c.read_head.ensures.looks.lookups.page_bytes in
    let len : ℕ = c.in_ok-head.head.length in
    let bits : List ℕ = (bits_in c.in_ok-head.head) in
    let valid : IsHeader d (file_fields len c.in_ok-head.head.moment bits) = subst (λ x. IsHeader x (file_fields len c.in_ok-head.head.moment bits)) (sym size_old) c.in_ok-head.ensures.valid in
    let page : List ℕ = (with_items c.in_ok-head.head.page c.cut_chunks.new.page).items in
    let items : page ≡ c.cut_chunks.new.page = with_items_is c.in_ok-head.head.page c.cut_chunks.new.page (search (rules, places)) in
    let was : c.deref_mut.result.now ≡ c.in_ok-head.head.page.items = c.deref_mut.ensures.value in
    let same : length c.cut_chunks.new.page ≡ length c.deref_mut.result.now = search rules in
    let committed : length page ≡ length c.in_ok-head.head.page.items = ap length items ∙ same ∙ ap length was in
    let long : length page ≡ d = committed ∙ c.in_ok-head.ensures.size ∙ sym size_old in
    let room : length (drop 32 page) ≡ length bits = length-drop 32 page ∙ ap (λ n. n - 32) committed ∙ sym (length-drop 32 c.in_ok-head.head.page.items) in
    let fits : c.args.len ≤ 8 * (d - 32) * d = subst (λ x. c.args.len ≤ 8 * (x - 32) * x) (sym size_old) c.requires in
    subst (λ x. IsHeader x (file_fields c.args.len c.args.moment (drop 32 page))) (sym long)
    (resize_valid d len c.in_ok-head.head.moment bits valid c.args.len c.args.moment (drop 32 page) fits c.ranges.moment.fits room (IsBytes-drop 32 page bytes)
    (λ k low high. ap (λ (xs : List ℕ). is_present (drop 32 xs) (1 + k)) items ∙ c.in_ok-change-2.ensures.cleared k low high)
    (λ k outside. ap (λ (xs : List ℕ). is_present (drop 32 xs) (1 + k)) items ∙ c.cut_chunks.ensures.others k outside ∙ ap (λ (xs : List ℕ). is_present (drop 32 xs) (1 + k)) was))

pub returns-in_err-push-clause-issued : goal.returns-in_err-push-clause-issued
returns-in_err-push-clause-issued g c = λ z before all f.
    let head = c.in_ok-head.ensures.head z before all f in
    asked_up c.in_ok-head.head.length (length all) c.args.len c.tail_limit-limit.result (g.P.Pages.state c.read_head.new.pages).page_bytes (g.P.Pages.state c.args.pages.now).issued (g.P.Pages.state c.read_head.new.pages).issued (g.P.Pages.state c.tail_pages.new.pages).issued
    (head.length_is ∙ f.reads.size) c.read_head.ensures.issued c.tail_pages.ensures.issued c.tail_limit-limit.ensures.cuts c.tail_pages.ensures.none_issued

pub returns-clause-issued : goal.returns-clause-issued
returns-clause-issued g c = λ z before all f.
    let head = c.in_ok-head.ensures.head z before all f in
    asked_up c.in_ok-head.head.length (length all) c.args.len c.tail_limit-limit.result (g.P.Pages.state c.read_head.new.pages).page_bytes (g.P.Pages.state c.args.pages.now).issued (g.P.Pages.state c.read_head.new.pages).issued (g.P.Pages.state c.tail_pages.new.pages).issued
    (head.length_is ∙ f.reads.size) c.read_head.ensures.issued c.tail_pages.ensures.issued c.tail_limit-limit.ensures.cuts c.tail_pages.ensures.none_issued

pub returns-clause-sets : goal.returns-clause-sets
returns-clause-sets g c = λ z before all f.
    let old : PagesState = g.P.Pages.state c.args.pages.now in
    let now : PagesState = g.P.Pages.state c.read_head.new.pages in
    let d : ℕ = c.from-size.result in
    let size_now : d ≡ now.page_bytes = c.from-size.ensures ∙ c.page_bytes.ensures.bytes in
    let size : d ≡ z.page_bytes = size_now ∙ c.read_head.ensures.looks.lookups.page_bytes ∙ sym f.size in
    let some : 1 ≤ d = omega (arith, c.from-size.ensures, c.page_bytes.ensures.least) in
    let head = c.in_ok-head.ensures.head z before all f in
    let len : ℕ = c.in_ok-head.head.length in
    let bits : List ℕ = (bits_in c.in_ok-head.head) in
    let limit : ℕ = c.tail_limit-limit.result in
    let pages : List FreshPage = c.in_ok-change.field-0.items in
    let of : AreOf c.args.object (IsTail d len bits limit) pages = subst (λ x. AreOf c.args.object (IsTail x len bits limit) pages) (sym size_now) c.in_ok-change.ensures.of in
    let hold : HoldChunks d all pages =
    subst (λ x. HoldChunks x all pages) (sym size_now) (c.in_ok-change.ensures.hold z before all (later old now z c.args.object before all c.read_head.ensures.looks.lookups f) head) in
    let change : Change = record { pages = c.push.new.self; cuts = c.in_ok-change-2.field-0 } in
    let q : FreshPage = c.head_page.result in
    let items : c.push.new.self.items ≡ pages ++ q ∷ [] = c.in_ok-push.ensures.items in
    let page : List ℕ = (with_items c.in_ok-head.head.page c.cut_chunks.new.page).items in
    let page_is : page ≡ c.cut_chunks.new.page = with_items_is c.in_ok-head.head.page c.cut_chunks.new.page (search (rules, places)) in
    let was : c.deref_mut.result.now ≡ c.in_ok-head.head.page.items = c.deref_mut.ensures.value in
    let same : length c.cut_chunks.new.page ≡ length c.deref_mut.result.now = search rules in
    let long : length page ≡ d = ap length page_is ∙ same ∙ ap length was ∙ c.in_ok-head.ensures.size ∙ sym (size_now ∙ c.read_head.ensures.looks.lookups.page_bytes) in
    let now_bits : List ℕ = drop 32 page in
    let valid : IsHeader d (file_fields c.args.len c.args.moment now_bits) = subst (λ x. IsHeader x (file_fields c.args.len c.args.moment now_bits)) long c.head_page.ensures.valid in
    resize_new old z c.args.object before all f d size some len (head.length_is ∙ f.reads.size) bits head.bits c.args.len c.args.moment limit c.tail_limit-limit.ensures.grows c.tail_limit-limit.ensures.cuts pages of hold
    change c.in_ok-change-2.ensures.cuts q items c.head_page.ensures.object c.head_page.ensures.chunk now_bits c.head_page.ensures.header valid
    (λ k low high. ap (λ (xs : List ℕ). is_present (drop 32 xs) (1 + k)) page_is ∙ c.in_ok-change-2.ensures.cleared k low high)
    (λ k outside. ap (λ (xs : List ℕ). is_present (drop 32 xs) (1 + k)) page_is ∙ c.cut_chunks.ensures.others k outside ∙ ap (λ (xs : List ℕ). is_present (drop 32 xs) (1 + k)) was)

pub returns-clause-same : goal.returns-clause-same
returns-clause-same g c = λ z before all f when is.
    let head = c.in_ok-head.ensures.head z before all f in
    elim c.else-head-len.branch [
      | else-head-len-via-then-head-len+else-head-moment w ↦ absurd (w.if-head-moment.false (head.moment ∙ f.reads.when ∙ sym when))
      | else-head-len-via-else-head-len w ↦ absurd (w.if-head-len.false (head.length_is ∙ f.reads.size ∙ sym is))
    ]

pub returns-clause-only : goal.returns-clause-only
returns-clause-only g c =
    let now : PagesState = g.P.Pages.state c.read_head.new.pages in
    let IsOne : ℕ → Type 0 = IsTail now.page_bytes c.in_ok-head.head.length (bits_in c.in_ok-head.head) c.tail_limit-limit.result in
    let pages : List FreshPage = c.in_ok-change.field-0.items in
    let q : FreshPage = c.head_page.result in
    let change : Change = record { pages = c.push.new.self; cuts = c.in_ok-change-2.field-0 } in
    let items : c.push.new.self.items ≡ pages ++ q ∷ [] = c.in_ok-push.ensures.items in
    let of = header_push c.args.object IsOne pages q c.in_ok-change.ensures.of (λ tail. omega (arith, tail.chunk)) c.head_page.ensures.object c.head_page.ensures.chunk in
    only_of change c.args.object (OrHeader IsOne) (subst (λ (xs : List FreshPage). AreOf c.args.object (OrHeader IsOne) xs) (sym items) of) (λ p k i is. (c.in_ok-change-2.ensures.cuts.only p k i is).0)

pub returns-clause-change : goal.returns-clause-change
returns-clause-change g c =
    let old : PagesState = g.P.Pages.state c.args.pages.now in
    let now : PagesState = g.P.Pages.state c.read_head.new.pages in
    let IsOne : ℕ → Type 0 = IsTail now.page_bytes c.in_ok-head.head.length (bits_in c.in_ok-head.head) c.tail_limit-limit.result in
    let pages : List FreshPage = c.in_ok-change.field-0.items in
    let q : FreshPage = c.head_page.result in
    let items : c.push.new.self.items ≡ pages ++ q ∷ [] = c.in_ok-push.ensures.items in
    let of = header_push c.args.object IsOne pages q c.in_ok-change.ensures.of (λ tail. omega (arith, tail.chunk)) c.head_page.ensures.object c.head_page.ensures.chunk in
    let same : now.page_bytes ≡ old.page_bytes = c.read_head.ensures.looks.lookups.page_bytes in
    let page : List ℕ = (with_items c.in_ok-head.head.page c.cut_chunks.new.page).items in
    let page_is : page ≡ c.cut_chunks.new.page = with_items_is c.in_ok-head.head.page c.cut_chunks.new.page (search (rules, places)) in
    let committed : length c.cut_chunks.new.page ≡ length c.deref_mut.result.now = search rules in
    let size : length q.bytes.items ≡ old.page_bytes = c.head_page.ensures.size ∙ ap length page_is ∙ committed ∙ ap length c.deref_mut.ensures.value ∙ c.in_ok-head.ensures.size in
    let long : length c.push.new.self.items ≡ length pages + 1 = ap length items ∙ length-append pages (q ∷ []) in
    record {
      apart = (subst (λ (xs : List FreshPage). AreOf c.args.object (OrHeader IsOne) xs) (sym items) of).apart;
      size = subst (λ (xs : List FreshPage). AreSized xs old.page_bytes) (sym items)
          (each_push (λ i p. length p.bytes.items ≡ old.page_bytes) pages q (subst (AreSized pages) same c.in_ok-change.ensures.sized) (λ i. size));
      within_limit = omega (arith, long, c.in_ok-change.ensures.within_limit);
    }

pub returns-then-head-moment-clause-reported : goal.returns-then-head-moment-clause-reported
returns-then-head-moment-clause-reported g c = λ sound.
    let s = c.in_ok-head.ensures.reported sound in
    (s.0, λ more. absurd (omega (arith, more, s.1.length_is, c.if-head-len.true)))

pub returns-clause-reported : goal.returns-clause-reported
returns-clause-reported g c = λ sound.
    let old : PagesState = g.P.Pages.state c.args.pages.now in
    let now : PagesState = g.P.Pages.state c.read_head.new.pages in
    let d : ℕ = c.from-size.result in
    let lookups = c.read_head.ensures.looks.lookups in
    let size_now : d ≡ now.page_bytes = c.from-size.ensures ∙ c.page_bytes.ensures.bytes in
    let some : 1 ≤ d = omega (arith, c.from-size.ensures, c.page_bytes.ensures.least) in
    let s = c.in_ok-head.ensures.reported sound in (
      s.0,
      λ more.
          let grows : c.in_ok-head.head.length < c.args.len = omega (arith, more, s.1.length_is) in
          let limit : c.tail_limit-limit.result ≡ (c.args.len + d - 1) / d = c.tail_limit-limit.ensures.grows grows in
          let before : c.in_ok-head.head.length / now.page_bytes < c.tail_limit-limit.result =
          subst (λ x. c.in_ok-head.head.length / x < c.tail_limit-limit.result) size_now (subst (λ n. c.in_ok-head.head.length / d < n) (sym limit) (grows_past d c.in_ok-head.head.length c.args.len some grows)) in
          last_at_entry old now lookups c.args.object c.in_ok-head.head s (c.in_ok-change.ensures.reported (lookups.sound ∙ sound) before),
    )

pub returns-in_err-push-clause-looks : goal.returns-in_err-push-clause-looks
returns-in_err-push-clause-looks g c = record { lookups = search rules; power = search rules; why = search rules }

pub returns-clause-looks : goal.returns-clause-looks
returns-clause-looks g c = record { lookups = search rules; power = search rules; why = search rules }
