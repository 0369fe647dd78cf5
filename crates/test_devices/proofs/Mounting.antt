-- From what a scan reports to the table and the index.
use Rattle.std.specs.Prelude.{◌≡◌, ◌⊎◌, ◌<◌, ◌≤◌, ◌^◌, ℕ, List, length, Some, None, true, false, Contains, IsSome}
use Rattle.std.proofs.Common.{suc, zero, refl, sym, ◌∙◌, ap, subst, inl, inr, arith, get_or}
use Rattle.std.proofs.lemmas.Bool.{cases_eq}
use Rattle.std.proofs.lemmas.List.Elements.{Contains-get_or, All-contains}
use Rattle.std.proofs.lemmas.Option.{get_or_from_slice_get, slice_get-get_or}
use Rattle.nand_model.specs.Flash.{Flash}
use Rattle.nand_model.specs.Calls.{Device}
use Rattle.nand_model.specs.Changes.{OnlyReads}
use Rattle.nand_model.specs.declared.geometry.Geometry.{Geometry}
use Rattle.page_tags.specs.Tags.{IsTag}
use Rattle.flash_tree.specs.Newest.{Spot, IsNewest, Numbers, AreAbove, AreGreatest}
use Rattle.mount_scan.specs.Copies.{copy_at}
use Rattle.mount_scan.specs.declared.page_copy.PageCopy.{PageCopy}
use Rattle.block_state.specs.Table.{Table}
use Rattle.chunk_index.specs.declared.form.CommittedPage.{CommittedPage}
use Rattle.chunk_index.specs.declared.index.Index.{Index}
use Rattle.chunk_index.specs.Counts.{Recounts}
use Rattle.chunk_index.specs.Maps.{committed_pages, CountsAgree}
use Rattle.chunk_index.specs.Newest.{IsFoundOf, Indexes, page_of}
use Rattle.flash_tree.specs.Numbering.{AreBelow}
use Rattle.transactions.specs.Ready.{IsOpenOn, IsReady, IsWrittenInOrder}
use Rattle.mount_scan.specs.Scanned.{ListsNewest, AreCopiesPlaced, IsNewestCopy, AreNewest}
use Rattle.flash_log.specs.Consistency.{IsCommittedAt, MayLie, IsWithinLimits}
use Rattle.test_devices.specs.Scanned.{IsScanned}

-- one of the first n pages is of the key, or none is
one_of : (fs : List PageCopy) (d : PageCopy) (o c n : ℕ) → ((i : ℕ) × (i < n) × IsFoundOf o c (get_or fs i d)) ⊎ ((i : ℕ) → i < n → IsFoundOf o c (get_or fs i d) → ⊥)
one_of fs d o c zero = inr (λ i lt of. absurd (omega (arith, lt)))
one_of fs d o c (suc n) = elim (one_of fs d o c n) [
  | inl (i, lt, of) ↦ inl (i, omega (arith, lt), of)
  | inr none ↦ elim (cases_eq (get_or fs n d).object o) [
    | inr ne ↦ inr (λ i lt of. elim (cases_eq i n) [
      | inl e ↦ ne (ap (λ k. (get_or fs k d).object) (sym e) ∙ of.0)
      | inr ni ↦ none i (omega (arith, lt, ni)) of
    ])
    | inl object ↦ elim (cases_eq (get_or fs n d).chunk c) [
      | inl chunk ↦ inl (n, omega arith, (object, chunk))
      | inr ne ↦ inr (λ i lt of. elim (cases_eq i n) [
        | inl e ↦ ne (ap (λ k. (get_or fs k d).chunk) (sym e) ∙ of.1)
        | inr ni ↦ none i (omega (arith, lt, ni)) of
      ])
    ]
  ]
]

-- no page
none_found : PageCopy
none_found = record { object = 0; chunk = 0; version = 0; seq = 0; block = 0; page = 0 }

-- a page of the list, which is of the key and committed
record IsListedAs (fs : List PageCopy) (o c : ℕ) (p : CommittedPage) : Type 0 where
  pub page : PageCopy
  pub has : Contains fs page
  pub object : page.object ≡ o
  pub chunk : page.chunk ≡ c
  pub is : page_of page ≡ p

-- what is committed of a key is one of the pages that were indexed
committed_listed : (fs : List PageCopy) (x : Index) (o c : ℕ) (p : CommittedPage) → Indexes fs (length fs) x → committed_pages x o c ≡ Some p → IsListedAs fs o c p
committed_listed fs x o c p indexes at = elim (one_of fs none_found o c (length fs)) [
  | inl (i, lt, of) ↦
      let f : PageCopy = get_or fs i none_found in
      let here : committed_pages x f.object f.chunk ≡ Some (page_of f) = indexes.committed_here i none_found lt in
      let both : Some (page_of f) ≡ Some p = sym here ∙ ap (λ k. committed_pages x k f.chunk) of.0 ∙ ap (committed_pages x o) of.1 ∙ at in
      record { page = f; has = Contains-get_or fs i none_found lt; object = of.0; chunk = of.1; is = cc }
  | inr none ↦
      let absent : committed_pages x o c ≡ None = indexes.committed_elsewhere o c (λ i d lt of. none i lt
      (subst (IsFoundOf o c) (get_or_from_slice_get fs i (get_or fs i none_found) d (slice_get-get_or fs i none_found lt)) of)) in
      let both : None ≡ Some p = sym absent ∙ at in
      absurd cc
]

-- what was answers before reads is answers after them
pub reports_read : (old new : Device) (fs : List PageCopy) → OnlyReads old new → old.honest ≡ true → ListsNewest old fs → ListsNewest new fs
reports_read old new fs reads honest reports =
    let page = reads.page honest in
    let same : new.flash ≡ old.flash = λ i. record { bad = reads.bad i; next = reads.next i; page = page i } in
    record {
      placed = subst (λ (g : Geometry). AreCopiesPlaced g.blocks g.pages fs) (sym reads.lasts.geometry) reports.placed;
      low = reports.low;
      order = reports.order;
      exact = λ _. subst (λ (f : Flash). AreNewest f fs) (sym same) (reports.exact honest);
    }

-- What was scanned, indexed and in the count.
pub record IsIndexed (d : Device) (t : Table) (x : Index) (fs : List PageCopy) : Type 0 where
  pub honest : d.honest ≡ true
  pub can_write : IsReady d t
  pub reports : ListsNewest d fs
  pub indexes : Indexes fs (length fs) x
  pub counts : CountsAgree t x
  pub closed : t.open_block ≡ None
  pub limits : IsWithinLimits t

module _ (d : Device) (t : Table) (x : Index) (fs : List PageCopy) (is : IsIndexed d t x fs) where
  -- what is committed is the copy of a newest page
  newest_of : (o c : ℕ) (p : CommittedPage) → IsListedAs fs o c p → (s : Spot) × IsNewest d.flash o c s × (page_of (copy_at s) ≡ p)
  newest_of o c p listed =
      let is : IsNewestCopy d.flash listed.page = (is.reports.exact is.honest).only listed.page listed.has in (
        is.spot,
        subst (λ k. IsNewest d.flash o k is.spot) listed.chunk (subst (λ k. IsNewest d.flash k listed.page.chunk is.spot) listed.object is.newest),
        ap page_of is.copied ∙ listed.is,
      )

  committed_at : (o c : ℕ) (p : CommittedPage) → IsListedAs fs o c p → IsCommittedAt d.flash o c p
  committed_at o c p listed =
      let (s, newest, same) = newest_of o c p listed in
      subst (IsCommittedAt d.flash o c) same (record { tag = s.tag; newest = newest; version = refl })

  may_lie : (o c : ℕ) (p : CommittedPage) → IsListedAs fs o c p → MayLie t o c p
  may_lie o c p listed =
      let (s, newest, same) = newest_of o c p listed in
      let f : PageCopy = listed.page in
      let place : (f.block < d.geometry.blocks) × (f.page < d.geometry.pages) = All-contains (λ (g : PageCopy). (g.block < d.geometry.blocks) × (g.page < d.geometry.pages)) fs f is.reports.placed listed.has in
      let held = newest.holds in
      let good : d.flash.bad s.block ≡ false = ap d.flash.bad held.block ∙ held.whole.good in
      let below = is.can_write.below is.honest s.block s.page s.tag good held.has in
      let valid : IsTag s.tag = held.has.valid in
      record {
        block = subst (λ (g : Geometry). p.block < g.blocks) (sym is.can_write.geometry) (subst (λ (q : CommittedPage). q.block < d.geometry.blocks) listed.is place.0);
        page = subst (λ (g : Geometry). p.page < g.pages) (sym is.can_write.geometry) (subst (λ (q : CommittedPage). q.page < d.geometry.pages) listed.is place.1);
        name = record {
          object = subst (λ k. (1 ≤ k) × (k < 2 ^ 64)) held.object valid.object;
          chunk = subst (λ k. k < 2 ^ 64) held.chunk valid.chunk;
          version = subst (λ (q : CommittedPage). (1 ≤ q.version) × (q.version ≤ t.next_group)) same (valid.version.0, omega (arith, below));
        };
      }

  pub is_scanned : IsScanned d t x
  is_scanned = record {
    can_write = is.can_write;
    counts = is.counts;
    closed = is.closed;
    newest = λ o c p at. committed_at o c p (committed_listed fs x o c p is.indexes at);
    lie = λ o c p at. may_lie o c p (committed_listed fs x o c p is.indexes at);
    limits = is.limits;
  }

-- the greatest numbers of a scan are above those of all tags after it too
pub above_read : (old new : Device) (n : Numbers) → OnlyReads old new → old.honest ≡ true → AreGreatest old.flash n → AreAbove new.flash n
above_read old new n reads honest greatest =
    let page = reads.page honest in
    let same : new.flash ≡ old.flash = λ i. record { bad = reads.bad i; next = reads.next i; page = page i } in
    subst (λ (f : Flash). AreAbove f n) (sym same) greatest.above

-- a table stays ready whose committed pages are in the count anew
pub ready_counted : (d : Device) (before after : ℕ → ℕ) (t u : Table) → Recounts before after t u → IsReady d t → IsReady d u
ready_counted d before after t u counts can_write = record {
  geometry = counts.geometry ∙ can_write.geometry;
  marks = λ b. counts.bad b ∙ can_write.marks b;
  open_block = λ o is.
      let was : IsOpenOn d t o = can_write.open_block o (sym counts.open_block ∙ is) in
      record {
        within = was.within;
        good = was.good;
        next = was.next ∙ ap Some (sym (counts.next o));
        pages = subst (λ n. n ≤ d.geometry.pages) (sym (counts.next o)) was.pages;
        seq = (subst (λ n. 1 ≤ n) (sym (counts.seq o)) was.seq.0, omega (arith, was.seq, counts.seq o, counts.next_seq));
        in_order = λ honest.
            subst (λ n. IsWrittenInOrder d.flash o n (u.entry o).seq) (sym (counts.next o))
            (subst (λ s. IsWrittenInOrder d.flash o (t.entry o).next s) (sym (counts.seq o)) (was.in_order honest));
      };
  waits = λ c is. let was = can_write.waits c (sym counts.checkpoint ∙ is) in record { within = was.within; good = was.good; closed = counts.open_block ∙ was.closed };
  numbers = (subst (λ n. 1 ≤ n) (sym counts.next_group) can_write.numbers.0, subst (λ n. 1 ≤ n) (sym counts.next_seq) can_write.numbers.1);
  below = λ honest. subst (λ n. AreBelow d.flash n u.next_seq) (sym counts.next_group) (subst (λ n. AreBelow d.flash t.next_group n) (sym counts.next_seq) (can_write.below honest));
}

-- each key with a newest page is committed
pub all_committed : (d : Device) (fs : List PageCopy) (x : Index) → d.honest ≡ true → ListsNewest d fs → Indexes fs (length fs) x
    → (o c : ℕ) (s : Spot) → c < 2 ^ 32 → IsNewest d.flash o c s → IsSome (committed_pages x o c)
all_committed d fs x honest reports indexes o c s low newest =
    let has : Contains fs (copy_at s) = (reports.exact honest).each o c s low newest in
    let there : get_or fs has.0 (copy_at s) ≡ copy_at s = has.2 in
    let here = indexes.committed_here has.0 (copy_at s) has.1 in
    let at : committed_pages x s.tag.object s.tag.chunk ≡ Some (page_of (copy_at s)) = subst (λ (f : PageCopy). committed_pages x f.object f.chunk ≡ Some (page_of f)) there here in
    let is : committed_pages x o c ≡ Some (page_of (copy_at s)) = sym (ap (λ k. committed_pages x k s.tag.chunk) newest.holds.object ∙ ap (committed_pages x o) newest.holds.chunk) ∙ at in
    subst IsSome (sym is) refl
