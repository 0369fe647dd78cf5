-- One copy more is reported.
use Rattle.std.proofs.Common.{◌≡◌, ◌≢◌, ◌⊎◌, ◌<◌, ℕ, ◌+◌, List, Some, slice_get, refl, sym, ap, ◌∙◌, arith, inl, inr}
use Rattle.std.proofs.lemmas.Bool.{cases_eq}
use Rattle.std.proofs.lemmas.Bool.Decides.{nat_tests}
use Rattle.block_state.specs.Table.{Table}
use Rattle.chunk_index.specs.declared.form.CommittedPage.{CommittedPage}
use Rattle.chunk_index.specs.declared.form.PagePlace.{PagePlace}
use Rattle.chunk_index.specs.declared.index.Index.{Index}
use Rattle.chunk_index.specs.Counts.{Recounts}
use Rattle.chunk_index.specs.Entries.{one_at}
use Rattle.chunk_index.specs.Maps.{committed_pages, present, count_committed_in, moved_to, moved_page, Copies, StaysPrepared, IsReadyKey}
use Rattle.chunk_index.specs.Shelves.{Differs}
use Rattle.chunk_index.specs.declared.form.CommittedKey.{CommittedKey}
use Rattle.flash_log.specs.Copying.{IsCopyOf, copy_in}
use Rattle.flash_log.specs.Lists.{ListsCommitted}
use Rattle.flash_log.specs.Reporting.{IsNone, Reports}

one_here : (p : CommittedPage) (b : ℕ) → p.block ≡ b → one_at (Some p) b ≡ 1
one_here p b is = grind (arith, nat_tests, is)

none_there : (p : CommittedPage) (b : ℕ) → p.block ≢ b → one_at (Some p) b ≡ 0
none_there p b ne = grind (arith, nat_tests, ne)

-- before the first is reported
pub reports_none : (v : ℕ) (at : PagePlace) (copies : List CommittedKey) (x : Index) (t : Table) → Reports v 0 at copies x x t t
reports_none v at copies x t = record {
  index = record {
    committed_here = λ j y lt there. absurd (omega (arith, lt));
    present_here = λ j y lt there. absurd (omega (arith, lt));
    committed_elsewhere = λ o c none. refl;
    present_elsewhere = λ o c none. refl;
    prepared = λ o c is. is;
    can_write = λ o c is. is;
  };
  counts = record {
    here = omega arith;
    there = omega arith;
    elsewhere = λ b nv nw. refl;
    bad = λ b. refl;
    seq = λ b. refl;
    next = λ b. refl;
    geometry = refl;
    open_block = refl;
    checkpoint = refl;
    next_seq = refl;
    next_group = refl;
  };
}

-- a key is that of a copy, or another
is_or_differs : (y : CommittedKey) (o c : ℕ) → IsCopyOf y o c ⊎ Differs y.key.object y.key.chunk o c
is_or_differs y o c = elim (cases_eq o y.key.object) [
  | inr ne ↦ inr (inl ne)
  | inl e ↦ elim (cases_eq c y.key.chunk) [
    | inr ne ↦ inr (inr ne)
    | inl f ↦ inl (sym e, sym f)
  ]
]

module _ (v i : ℕ) (to : PagePlace) (copies : List CommittedKey) (x0 x1 x2 : Index) (t0 t1 t2 : Table) (lists : ListsCommitted v (committed_pages x0) copies) (apart : v ≢ to.block)
    (reports : Reports v i to copies x0 x1 t0 t1) (y : CommittedKey) (at : slice_get copies i ≡ Some y) where
  -- the key of copy i is none of those before it
  none_before : IsNone i copies y.key.object y.key.chunk
  none_before j z lt there is =
      let key : z.key ≡ y.key = λ k. record { object = is.0 k; chunk = is.1 k } in
      let same : j ≡ i = lists.once j i z y there at key in
      omega (arith, lt, same)

  -- it is committed where it was
  pub committed_yet : committed_pages x1 y.key.object y.key.chunk ≡ Some y.at
  committed_yet = reports.index.committed_elsewhere y.key.object y.key.chunk none_before ∙ lists.committed i y at

  module _ (place : PagePlace) (block : place.block ≡ to.block) (page : place.page ≡ to.page + i)
      (copied : Copies y.key.object y.key.chunk place y.at x1 x2) (recounts : Recounts (count_committed_in x1) (count_committed_in x2) t1 t2)
      (prepared : StaysPrepared x1 x2) (can_write : (o c : ℕ) → IsReadyKey x1 o c → IsReadyKey x2 o c) where
    moved_is : moved_page place y.at ≡ copy_in to i y
    moved_is = λ k. record { block = block k; page = page k; version = y.at.version }

    -- another of the first ones is of another key
    apart_from : (j : ℕ) (z : CommittedKey) → j < i → slice_get copies j ≡ Some z → Differs y.key.object y.key.chunk z.key.object z.key.chunk
    apart_from j z lt there = elim (is_or_differs y z.key.object z.key.chunk) [
      | inr differs ↦ differs
      | inl is ↦ absurd (none_before j z lt there (sym is.0, sym is.1))
    ]

    balance : (b : ℕ) → (t2.entry b).committed + one_at (Some y.at) b ≡ (t1.entry b).committed + one_at (Some (moved_page place y.at)) b
    balance b =
        let count = copied.counts b in
        let committed = recounts.committed b in
        omega (arith, count, committed)

    was_here : y.at.block ≡ v
    was_here = lists.here i y at

    pub reports_more : Reports v (i + 1) to copies x0 x2 t0 t2
    reports_more = record {
      index = record {
        committed_here = λ j z lt there. elim (cases_eq j i) [
          | inl e ↦
              let both : Some z ≡ Some y = sym there ∙ ap (slice_get copies) e ∙ at in
              let same : z ≡ y = cc in
              ap (λ (q : CommittedKey). committed_pages x2 q.key.object q.key.chunk) same ∙ copied.committed_here ∙ ap Some moved_is
              ∙ ap (λ n. Some (copy_in to n y)) (sym e) ∙ ap (λ (q : CommittedKey). Some (copy_in to j q)) (sym same)
          | inr ne ↦
              let less : j < i = omega (arith, lt, ne) in
              copied.committed_elsewhere z.key.object z.key.chunk (apart_from j z less there) ∙ reports.index.committed_here j z less there
        ];
        present_here = λ j z lt there. elim (cases_eq j i) [
          | inl e ↦
              let both : Some z ≡ Some y = sym there ∙ ap (slice_get copies) e ∙ at in
              let same : z ≡ y = cc in
              ap (λ (q : CommittedKey). present x2 q.key.object q.key.chunk) same ∙ copied.present_here
              ∙ ap (λ p. moved_to p (present x1 y.key.object y.key.chunk)) moved_is
              ∙ ap (moved_to (copy_in to i y)) (reports.index.present_elsewhere y.key.object y.key.chunk none_before)
              ∙ ap (λ n. moved_to (copy_in to n y) (present x0 y.key.object y.key.chunk)) (sym e)
              ∙ ap (λ (q : CommittedKey). moved_to (copy_in to j q) (present x0 q.key.object q.key.chunk)) (sym same)
          | inr ne ↦
              let less : j < i = omega (arith, lt, ne) in
              copied.present_elsewhere z.key.object z.key.chunk (apart_from j z less there) ∙ reports.index.present_here j z less there
        ];
        committed_elsewhere = λ o c none. elim (is_or_differs y o c) [
          | inl is ↦ absurd (none i y (omega arith) at is)
          | inr differs ↦ copied.committed_elsewhere o c differs ∙ reports.index.committed_elsewhere o c (λ j z lt there is. none j z (omega (arith, lt)) there is)
        ];
        present_elsewhere = λ o c none. elim (is_or_differs y o c) [
          | inl is ↦ absurd (none i y (omega arith) at is)
          | inr differs ↦ copied.present_elsewhere o c differs ∙ reports.index.present_elsewhere o c (λ j z lt there is. none j z (omega (arith, lt)) there is)
        ];
        prepared = λ o c is. prepared o c (reports.index.prepared o c is);
        can_write = λ o c is. can_write o c (reports.index.can_write o c is);
      };
      counts = record {
        here =
            let was = one_here y.at v was_here in
            let is = none_there (moved_page place y.at) v (λ e. apart (sym e ∙ block)) in
            omega (arith, balance v, was, is, reports.counts.here);
        there =
            let was = none_there y.at to.block (λ e. apart (sym was_here ∙ e)) in
            let is = one_here (moved_page place y.at) to.block block in
            omega (arith, balance to.block, was, is, reports.counts.there);
        elsewhere = λ b nv nw.
            let was = none_there y.at b (λ e. nv (sym e ∙ was_here)) in
            let is = none_there (moved_page place y.at) b (λ e. nw (sym e ∙ block)) in
            let before = reports.counts.elsewhere b nv nw in
            omega (arith, balance b, was, is, before);
        bad = λ b. recounts.bad b ∙ reports.counts.bad b;
        seq = λ b. recounts.seq b ∙ reports.counts.seq b;
        next = λ b. recounts.next b ∙ reports.counts.next b;
        geometry = recounts.geometry ∙ reports.counts.geometry;
        open_block = recounts.open_block ∙ reports.counts.open_block;
        checkpoint = recounts.checkpoint ∙ reports.counts.checkpoint;
        next_seq = recounts.next_seq ∙ reports.counts.next_seq;
        next_group = recounts.next_group ∙ reports.counts.next_group;
      };
    }
