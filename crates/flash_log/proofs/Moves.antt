-- What stands after a move.
use Rattle.std.proofs.Common.{◌≡◌, ◌≢◌, ◌<◌, ◌≤◌, ℕ, ◌+◌, Bool, true, false, List, length, Some, None, Ok, slice_get, if◌then◌else◌, ◌==◌, refl, sym, ap, subst, ◌∙◌, arith, inl, inr}
use Rattle.std.proofs.lemmas.Bool.{cases_Bool, cases_eq}
use Rattle.std.proofs.lemmas.Bool.Decides.{nat_tests}
use Rattle.std.proofs.lemmas.Option.{slice_get_within}
use Rattle.volume_terms.specs.laws.List.{slice_get_there}
use Rattle.nand_model.specs.Flash.{Erased, Written}
use Rattle.nand_model.specs.Calls.{Device}
use Rattle.page_tags.specs.Tags.{tag_bytes}
use Rattle.nand_model.specs.declared.geometry.Geometry.{Geometry}
use Rattle.block_state.specs.Counting.{how_many, sum_below}
use Rattle.block_state.specs.Committed.{bad_count, uncommitted_count, committed_count, is_uncommitted}
use Rattle.block_state.specs.Table.{Table, is_bad}
use Rattle.block_state.specs.laws.Counting.{sum_below-changed, sum_below-zero, sum_below-balanced, counts_same, counts_swap}
use Rattle.block_state.specs.laws.Committed.{uncommitted_if, committed_if, uncommitted_same}
use Rattle.chunk_index.specs.declared.index.Index.{Index}
use Rattle.chunk_index.specs.Maps.{committed_pages, CountsAgree}
use Rattle.flash_tree.specs.Newest.{IsNewest}
use Rattle.flash_tree.specs.Numbering.{AreBelow}
use Rattle.flash_tree.specs.ErasedBlocks.{BeginsErased}
use Rattle.transactions.specs.Ready.{IsReady, IsWrittenInOrder}
use Rattle.transactions.specs.laws.Handing.{hands_same}
use Rattle.transactions.specs.Sources.{IsPageName}
use Rattle.transactions.specs.declared.source.PageName.{PageName}
use Rattle.flash_tree.specs.Slots.{check_object}
use Rattle.chunk_index.specs.declared.form.CommittedKey.{CommittedKey}
use Rattle.flash_log.specs.Copying.{KeepsCounts, KeepsDataAt, MayBeCopied, AreWritten, IsCopyOf, IsTarget, OpenAfter, copy_in, place_of}
use Rattle.flash_log.specs.CopySource.{copied_name}
use Rattle.flash_log.specs.Lists.{IsListed}
use Rattle.flash_log.specs.Bills.{Pays, PaysTarget, PaysWriting, bill_of}
use Rattle.flash_log.specs.declared.fault.MoveFault.{MoveFault}
use Rattle.flash_log.specs.declared.moving.Moved.{Moved}
use Rattle.flash_log.specs.Moving.{MovesOut, IsCommittedPageIn, LiesIn, LiesOpen, IsLeft}
use Rattle.flash_log.specs.Refreshing.{FillsAnew}
use Rattle.flash_log.specs.Consistency.{IsCommittedAt, MayLie, AreHeld, IsConsistentLog, KeepsFree}
use Rattle.flash_log.specs.Steps.{Step}
use Rattle.flash_log.specs.Reporting.{Reports}
use Rattle.flash_log.specs.laws.Steps.{moves_committed_out}
use Rattle.transactions.specs.Checking.{log_of}
use Rattle.flash_log.specs.declared.copying.Target.{Target}
use Rattle.flash_log.proofs.CommittedPages.{listed_or_not, name_is}
use Rattle.flash_log.specs.Passing.{KeepsFound}
use Rattle.flash_log.specs.Erased.{KeepsErased, KnowsErased}
use Rattle.flash_log.specs.Gathering.{LiesBehind}
use Rattle.flash_log.specs.SummaryMaking.{HasClear}
use Rattle.flash_log.specs.declared.copying.Copied.TheVariants as ends
use Rattle.flash_log.proofs.RoomTaken.{fits_open}
use Rattle.flash_log.specs.laws.Erased.{LeavesBlank, knows_as, leads_as}
use Rattle.flash_log.specs.laws.Found.{findable_moved, findable_still}
use Rattle.flash_log.specs.laws.FreeBlocks.{free_where_consistent}
use Rattle.flash_tree.specs.laws.Place.{had_power}
use Rattle.flash_log.specs.laws.Moves.{same_committed_sum, may_lie_later, same_data}

-- ---- counts

-- the sum of one number at one place
sum_at : (b n k : ℕ) → b < n → sum_below (λ i. if i == b then k else 0) n ≡ k
sum_at b n k lt =
    let none : sum_below (λ i. 0) n ≡ 0 = sum_below-zero (λ i. 0) n (λ i less. refl) in
    let after_change : sum_below (λ i. if i == b then k else 0) n + 0 ≡ sum_below (λ i. 0) n + (if b == b then k else 0) =
    sum_below-changed (λ i. 0) (λ i. if i == b then k else 0) b n lt (λ i ne. grind (arith, nat_tests, ne)) in
    let here : (if b == b then k else 0) ≡ k = grind (arith, nat_tests) in
    omega (arith, none, after_change, here)

-- ---- what may be copied

name_eta : (t : Table) (x : CommittedKey) (n : ℕ) → MayLie t x.key.object x.key.chunk x.at → IsPageName t.next_group (copied_name x)
name_eta t x n may = record { object = may.name.object; chunk = may.name.chunk; version = may.name.version }

pub may_be_copied : (spare v : ℕ) (d : Device) (t : Table) (x : Index) (copies : List CommittedKey) → IsReady d t → IsConsistentLog spare d t x → IsListed v t x copies → MayBeCopied d t copies
may_be_copied spare v d t x copies can_write consistent listed =
    let fits = consistent.tables.fits v in
    let count = listed.count in
    let some = listed.some in
    let most : t.geometry.pages ≤ 256 = t.geometry.most_pages in
    let each : (i : ℕ) (y : CommittedKey) → slice_get copies i ≡ Some y → MayLie t y.key.object y.key.chunk y.at = λ i y at. consistent.tables.within y.key.object y.key.chunk y.at (listed.lists.committed i y at) in
    record {
      can = record {
        some = omega (arith, count, some);
        within_limit = omega (arith, count, fits, most);
        within = λ i y at. let may = each i y at in (
          subst (λ (g : Geometry). y.at.block < g.blocks) can_write.geometry may.block,
          subst (λ (g : Geometry). y.at.page < g.pages) can_write.geometry may.page,
        );
        named = λ i lt.
            let there = slice_get_there copies i lt in
            subst (IsPageName t.next_group) (sym (name_is copies i there.0 there.1)) (name_eta t there.0 i (each i there.0 there.1));
      };
      within_limit = subst (λ (g : Geometry). length copies ≤ g.pages) can_write.geometry (omega (arith, count, fits));
      held = λ i y at. let here : (t.entry y.at.block).committed ≡ (t.entry v).committed = ap (λ b. (t.entry b).committed) (listed.lists.here i y at) in omega (arith, here, some);
      once = listed.lists.once;
      newest = λ honest power i y at. consistent.newest honest power y.key.object y.key.chunk y.at (listed.lists.committed i y at);
      ordinary = λ honest i lt.
          let there = slice_get_there copies i lt in
          let y : CommittedKey = there.0 in
          subst (λ (n : PageName). n.key.object ≢ check_object) (sym (name_is copies i y there.1))
          (consistent.ordinary honest y.key.object y.key.chunk y.at (listed.lists.committed i y there.1));
    }

-- ---- where the copies are reported

module _ (spare v : ℕ) (target : Target) (d0 d1 : Device) (t0 t1 t2 : Table) (x y : Index) (copies : List CommittedKey) (listed : IsListed v t0 x copies) (held : AreHeld t0 x)
    (keeps : KeepsCounts d0 d1 t0 t1) (consistent : IsConsistentLog spare d0 t0 x) (is : IsTarget (length copies) target t0 t1)
    (reports : Reports v (length copies) (place_of target) copies x y t1 t2) (agree : CountsAgree t2 y)
    (newest : d0.honest ≡ true → d1.gone ≡ false → AreWritten (place_of target) copies t0 d0.flash d1.flash) where
  pub apart : v ≢ target.block
  apart e = let same : (t0.entry v).committed ≡ (t0.entry target.block).committed = ap (λ b. (t0.entry b).committed) e in omega (arith, same, listed.some, is.uncommitted)

  now_none : (t2.entry v).committed ≡ 0
  now_none = omega (arith, reports.counts.here, keeps.committed v, listed.count)

  now_committed : (t2.entry target.block).committed ≡ (t0.entry v).committed
  now_committed = let before = keeps.committed target.block in omega (arith, reports.counts.there, before, is.uncommitted, listed.count)

  committed_elsewhere : (b : ℕ) → b ≢ v → b ≢ target.block → (t2.entry b).committed ≡ (t0.entry b).committed
  committed_elsewhere b nv nw = reports.counts.elsewhere b nv nw ∙ keeps.committed b

  still_good : (t1.entry v).bad ≡ false
  still_good = elim (cases_Bool (t1.entry v).bad) [
    | inr good ↦ good
    | inl bad ↦ elim (keeps.marked v bad) [
      | inl was ↦ let two : true ≡ false = sym was ∙ listed.good in absurd cc
      | inr none ↦ absurd (omega (arith, none, listed.some))
    ]
  ]

  -- a key that is reported of a copy is its
  reported : (o c i : ℕ) (z : CommittedKey) → slice_get copies i ≡ Some z → IsCopyOf z o c → committed_pages y o c ≡ Some (copy_in (place_of target) i z)
  reported o c i z at of = sym (ap (λ q. committed_pages y q c) of.0) ∙ ap (committed_pages y z.key.object) (sym of.1) ∙ reports.index.committed_here i z (slice_get_within copies i z at) at

  pub same_bads : bad_count t2 ≡ bad_count t1
  same_bads = ap (λ (g : Geometry). how_many (is_bad t2) g.blocks) reports.counts.geometry ∙ counts_same (is_bad t2) (is_bad t1) t1.geometry.blocks (λ b lt. reports.counts.bad b)

  same_uncommitteds : uncommitted_count t2 ≡ uncommitted_count t1
  same_uncommitteds = ap (λ (g : Geometry). how_many (is_uncommitted t2) g.blocks) reports.counts.geometry
      ∙ sym (counts_swap (is_uncommitted t1) (is_uncommitted t2) v target.block t1.geometry.blocks
      (subst (λ (g : Geometry). v < g.blocks) (sym keeps.geometry) listed.within) (subst (λ (g : Geometry). target.block < g.blocks) (sym keeps.geometry) is.within)
      (uncommitted_if t1 target.block is.good (keeps.committed target.block ∙ is.uncommitted))
      (committed_if t2 target.block (let now = now_committed in omega (arith, now, listed.some)))
      (committed_if t1 v (let same = keeps.committed v in omega (arith, same, listed.some)))
      (uncommitted_if t2 v (reports.counts.bad v ∙ still_good) now_none)
      (λ b nv nw. uncommitted_same t1 t2 b (reports.counts.bad b) (reports.counts.elsewhere b nv nw)))

  balance : (b : ℕ) → (t2.entry b).committed + (if b == v then length copies else 0) ≡ (t1.entry b).committed + (if b == target.block then length copies else 0)
  balance b = elim (cases_eq b v) [
    | inl e ↦
        let here : (if b == v then length copies else 0) ≡ length copies = grind (arith, nat_tests, e) in
        let there : (if b == target.block then length copies else 0) ≡ 0 = go (λ f. apart (sym e ∙ f)) in
        let old : (t1.entry b).committed ≡ (t1.entry v).committed = ap (λ k. (t1.entry k).committed) e in
        let new : (t2.entry b).committed ≡ (t2.entry v).committed = ap (λ k. (t2.entry k).committed) e in
        omega (arith, here, there, old, new, reports.counts.here)
    | inr nv ↦ elim (cases_eq b target.block) [
      | inl e ↦
          let here : (if b == v then length copies else 0) ≡ 0 = grind (arith, nat_tests, nv) in
          let there : (if b == target.block then length copies else 0) ≡ length copies = grind (arith, nat_tests, e) in
          let old : (t1.entry b).committed ≡ (t1.entry target.block).committed = ap (λ k. (t1.entry k).committed) e in
          let new : (t2.entry b).committed ≡ (t2.entry target.block).committed = ap (λ k. (t2.entry k).committed) e in
          omega (arith, here, there, old, new, reports.counts.there)
      | inr nw ↦
          let here : (if b == v then length copies else 0) ≡ 0 = grind (arith, nat_tests, nv) in
          let there : (if b == target.block then length copies else 0) ≡ 0 = grind (arith, nat_tests, nw) in
          let same = reports.counts.elsewhere b nv nw in
          omega (arith, here, there, same)
    ]
  ] where
    go : (b ≡ target.block → ⊥) → (if b == target.block then length copies else 0) ≡ 0
    go ne = grind (arith, nat_tests, ne)

  same_keeps : committed_count t2 ≡ committed_count t0
  same_keeps =
      let n : ℕ = t1.geometry.blocks in
      let size : committed_count t2 ≡ sum_below (λ b. (t2.entry b).committed) n = ap (λ (g : Geometry). sum_below (λ b. (t2.entry b).committed) g.blocks) reports.counts.geometry in
      let both = sum_below-balanced (λ b. (t2.entry b).committed) (λ b. if b == v then length copies else 0) (λ b. (t1.entry b).committed) (λ b. if b == target.block then length copies else 0) n (λ b lt. balance b) in
      let one = sum_at v n (length copies) (subst (λ (g : Geometry). v < g.blocks) (sym keeps.geometry) listed.within) in
      let two = sum_at target.block n (length copies) (subst (λ (g : Geometry). target.block < g.blocks) (sym keeps.geometry) is.within) in
      let before = same_committed_sum t0 t1 keeps.geometry keeps.committed in
      omega (arith, size, both, one, two, before)

  open_is : (o : ℕ) → t2.open_block ≡ Some o → (t2.entry o).committed ≤ (t2.entry o).next
  open_is o opened = go target.suspect is.open_block where
    go : (s : Bool) → OpenAfter target.block (target.first + length copies) s t1 → (t2.entry o).committed ≤ (t2.entry o).next
    go true closed = let two : None ≡ Some o = sym closed ∙ sym reports.counts.open_block ∙ opened in absurd cc
    go false (at, next) =
        let both : Some target.block ≡ Some o = sym at ∙ sym reports.counts.open_block ∙ opened in
        let same : target.block ≡ o = cc in
        let here : (t2.entry target.block).next ≡ target.first + length copies = reports.counts.next target.block ∙ next in
        let now = now_committed in
        subst (λ b. (t2.entry b).committed ≤ (t2.entry b).next) same (omega (arith, now, here, listed.count))

  -- once pages were copied no block may have a checkpoint
  pub none_noted : t2.checkpoint ≡ None
  none_noted = reports.counts.checkpoint ∙ is.checkpoint

  consistent_moved : IsReady d1 t1 → IsConsistentLog spare d1 t2 y
  consistent_moved can_write = record {
    tables = record {
      counts = agree;
      within = λ o c p at. elim (listed_or_not copies o c) [
        | inl (i, z, there, of) ↦
            let both : Some p ≡ Some (copy_in (place_of target) i z) = sym at ∙ reported o c i z there of in
            let same : p ≡ copy_in (place_of target) i z = cc in
            let lt : i < length copies = slice_get_within copies i z there in
            let fits = consistent.tables.fits v in
            let was = consistent.tables.within z.key.object z.key.chunk z.at (listed.lists.committed i z there) in
            let page : target.first + i < t0.geometry.pages = let room = is.fits in omega (arith, lt, room) in
            let may : MayLie t0 z.key.object z.key.chunk (copy_in (place_of target) i z) = record { block = is.within; page = page; name = was.name } in
            subst (MayLie t2 o c) (sym same) (subst (λ q. MayLie t2 q c (copy_in (place_of target) i z)) of.0 (subst (λ l. MayLie t2 z.key.object l (copy_in (place_of target) i z)) of.1
            (may_lie_later t0 t2 _ _ _ (reports.counts.geometry ∙ keeps.geometry) (let group = reports.counts.next_group in omega (arith, group, keeps.numbers.numbers.groups_rise)) may)))
        | inr none ↦ may_lie_later t0 t2 o c p (reports.counts.geometry ∙ keeps.geometry) (let group = reports.counts.next_group in omega (arith, group, keeps.numbers.numbers.groups_rise))
            (consistent.tables.within o c p (sym (reports.index.committed_elsewhere o c (λ j z lt there of. none j z there of)) ∙ at))
      ];
      fits = λ b. subst (λ (g : Geometry). (t2.entry b).committed ≤ g.pages) (sym (reports.counts.geometry ∙ keeps.geometry)) (fits_then b);
      written = open_is;
      uncommitted = let uncommitted = same_uncommitteds in let bad = same_bads in omega (arith, uncommitted, bad, keeps.uncommitted, consistent.tables.uncommitted);
      apart = λ k noted. let two : None ≡ Some k = sym none_noted ∙ noted in absurd cc;
    };
    newest = λ honest power o c p at.
        let was : d0.honest ≡ true = sym keeps.lasts.honest ∙ honest in
        let all = (newest was power).made in
        elim (listed_or_not copies o c) [
          | inl (i, z, there, of) ↦
              let both : Some p ≡ Some (copy_in (place_of target) i z) = sym at ∙ reported o c i z there of in
              let same : p ≡ copy_in (place_of target) i z = cc in
              subst (IsCommittedAt d1.flash o c) (sym same) (subst (λ q. IsCommittedAt d1.flash q c (copy_in (place_of target) i z)) of.0
              (subst (λ l. IsCommittedAt d1.flash z.key.object l (copy_in (place_of target) i z)) of.1 (all.copied i z there)))
          | inr none ↦
              let before : committed_pages x o c ≡ Some p = sym (reports.index.committed_elsewhere o c (λ j z lt there of. none j z there of)) ∙ at in
              all.others o c p (held o c p before) none (consistent.newest was (had_power d0 d1 keeps.lasts power) o c p before)
        ];
    ordinary = λ honest o c p at.
        let was = consistent.ordinary (sym keeps.lasts.honest ∙ honest) in
        elim (listed_or_not copies o c) [
          | inl (i, z, there, of) ↦ subst (λ q. q ≢ check_object) of.0 (was z.key.object z.key.chunk z.at (listed.lists.committed i z there))
          | inr none ↦ was o c p (sym (reports.index.committed_elsewhere o c (λ j z lt there of. none j z there of)) ∙ at)
        ];
    limits = let now = keeps.limits consistent.limits in (
      let group = reports.counts.next_group in omega (arith, group, now.0),
      let seq = reports.counts.next_seq in omega (arith, seq, now.1),
    );
  } where
    fits_then : (b : ℕ) → (t2.entry b).committed ≤ t0.geometry.pages
    fits_then b = elim (cases_eq b v) [
      | inl e ↦ let here : (t2.entry b).committed ≡ (t2.entry v).committed = ap (λ k. (t2.entry k).committed) e in let none = now_none in omega (arith, here, none)
      | inr nv ↦ elim (cases_eq b target.block) [
        | inl e ↦ let here : (t2.entry b).committed ≡ (t2.entry target.block).committed = ap (λ k. (t2.entry k).committed) e in let now = now_committed in let fits = consistent.tables.fits v in omega (arith, here, now, fits)
        | inr nw ↦ let same = committed_elsewhere b nv nw in let fits = consistent.tables.fits b in omega (arith, same, fits)
      ]
    ]

  pub moves_out : MovesOut v x y
  moves_out = record {
    moved = λ o c p at here.
        let z : CommittedKey = record { key = record { object = o; chunk = c }; at = p } in
        let there = listed.lists.all o c p at here in
        let lt : there.0 < length copies = slice_get_within copies there.0 z there.1 in
        record { at = copy_in (place_of target) there.0 z; is = reports.index.committed_here there.0 z lt there.1; version = refl; present = reports.index.present_here there.0 z lt there.1 };
    committed = λ o c none. reports.index.committed_elsewhere o c (λ j z lt there of. none (in_v o c j z there of));
    present = λ o c none. reports.index.present_elsewhere o c (λ j z lt there of. none (in_v o c j z there of));
    prepared = reports.index.prepared;
    can_write = reports.index.can_write;
  } where
    in_v : (o c j : ℕ) (z : CommittedKey) → slice_get copies j ≡ Some z → IsCopyOf z o c → IsCommittedPageIn v x o c
    in_v o c j z there of = (
      z.at,
      sym (ap (λ q. committed_pages x q c) of.0) ∙ ap (committed_pages x z.key.object) (sym of.1) ∙ listed.lists.committed j z there,
      listed.lists.here j z there,
    )

  -- what lies in a block that had nothing was copied now
  pub fills_anew : FillsAnew (log_of d0 t0) (log_of d1 t2) y
  fills_anew b none honest power o c p s at here last = elim (listed_or_not copies o c) [
    | inl (i, z, there, of) ↦
        (newest honest power).numbered i z s there (subst (λ q. IsNewest d1.flash q z.key.chunk s) (sym of.0) (subst (λ l. IsNewest d1.flash o l s) (sym of.1) last))
    | inr apart' ↦
        let some = held o c p (sym (reports.index.committed_elsewhere o c (λ j z lt there of. apart' j z there of)) ∙ at) in
        let same : (t0.entry p.block).committed ≡ (t0.entry b).committed = ap (λ k. (t0.entry k).committed) here in
        absurd (omega (arith, some, same, none))
  ]

  -- the table is ready still, since only counts changed
  ready_reported : IsReady d1 t1 → IsReady d1 t2
  ready_reported can_write = record {
    geometry = reports.counts.geometry ∙ can_write.geometry;
    marks = λ b. reports.counts.bad b ∙ can_write.marks b;
    open_block = λ o opened.
        let was = can_write.open_block o (sym reports.counts.open_block ∙ opened) in
        let next = reports.counts.next o in
        let seq = reports.counts.seq o in
        let next_seq = reports.counts.next_seq in
        record {
          within = was.within;
          good = was.good;
          next = was.next ∙ ap Some (sym next);
          pages = let pages = was.pages in omega (arith, next, pages);
          seq = (let one = was.seq.0 in omega (arith, seq, one), let last = was.seq.1 in omega (arith, seq, next_seq, last));
          in_order = λ honest.
              subst (λ n. IsWrittenInOrder d1.flash o n (t2.entry o).seq) (sym next)
              (subst (λ s. IsWrittenInOrder d1.flash o (t1.entry o).next s) (sym seq) (was.in_order honest));
        };
    waits = λ k noted. let two : None ≡ Some k = sym none_noted ∙ noted in absurd cc;
    numbers = (let group = reports.counts.next_group in let one = can_write.numbers.0 in omega (arith, group, one), let seq = reports.counts.next_seq in let one = can_write.numbers.1 in omega (arith, seq, one));
    below = λ honest. subst (λ n. AreBelow d1.flash n t2.next_seq) (sym reports.counts.next_group) (subst (λ n. AreBelow d1.flash t1.next_group n) (sym reports.counts.next_seq) (can_write.below honest));
  }

  -- the device has power, so blocks are free by the table
  free_moved : AreHeld t2 y → d1.gone ≡ false → KeepsFree spare d0 d1 x y
  free_moved there power honest free = free_where_consistent spare d1 t2 y (ready_reported keeps.can_write) there (consistent_moved keeps.can_write) (keeps.lasts.honest ∙ honest) power

  some_copy : (x0 : CommittedKey) × (slice_get copies 0 ≡ Some x0)
  some_copy = slice_get_there copies 0 (let count = listed.count in let some = listed.some in omega (arith, count, some))

  -- no block begins erased in which a copy was made
  committed_erased : d0.honest ≡ true → d1.gone ≡ false → KnowsErased d1.flash t1 → (b : ℕ) → BeginsErased d1.flash b → (t1.entry b).committed ≡ 0 → (t2.entry b).committed ≡ 0
  committed_erased honest power knows b begins none = elim (cases_eq b v) [
    | inl e ↦
        let less = reports.counts.here in
        let was : (t1.entry v).committed ≡ 0 = ap (λ k. (t1.entry k).committed) (sym e) ∙ none in
        let now : (t2.entry b).committed ≡ (t2.entry v).committed = ap (λ k. (t2.entry k).committed) e in
        omega (arith, less, was, now)
    | inr nv ↦ elim (cases_eq b target.block) [
      | inr nw ↦ reports.counts.elsewhere b nv nw ∙ none
      | inl e ↦
          let x0 = some_copy in
          let at = (newest honest power).made.copied 0 x0.0 x0.1 in
          let has = at.newest.holds.has in
          let within = subst (λ (g : Geometry). target.block < g.blocks) (sym keeps.geometry) is.within in
          let blank = knows.unwritten target.block within (subst (BeginsErased d1.flash) e begins) in
          let first : target.first + 0 ≡ 0 = let begun = is.begun in let next = blank.next in omega (arith, begun, next) in
          let two : Erased ≡ Written has.bytes (tag_bytes at.tag) = sym begins.1 ∙ ap (λ k. d1.flash.page k 0) e ∙ ap (λ n. d1.flash.page target.block n) (sym first) ∙ has.page in
          absurd cc
    ]
  ]

  erased_moved : d1.gone ≡ false → KeepsErased d0 d1 t0 t2
  erased_moved power honest was =
      let after = keeps.erased honest was in
      record {
        first = after.first;
        leads = leads_as d1.flash t1 t2 (leaves honest (after.known power)) after.leads;
        known = λ _. knows_as d1.flash t1 t2 (leaves honest (after.known power)) (after.known power);
      } where
        leaves : d0.honest ≡ true → KnowsErased d1.flash t1 → LeavesBlank d1.flash t1 t2
        leaves honest knows = record {
          geometry = reports.counts.geometry;
          next = reports.counts.next;
          seq = reports.counts.seq;
          committed = committed_erased honest power knows;
          marks = λ b bad. reports.counts.bad b ∙ bad;
          noted = λ c is. sym reports.counts.checkpoint ∙ is;
          opened = λ o is. sym reports.counts.open_block ∙ is;
        }

  pub step_moved : AreHeld t2 y → d1.gone ≡ false → (d0.honest ≡ true → KeepsDataAt t0 d0.flash d1.flash) → (d0.honest ≡ true → KeepsFound t0 d0 d1) → Step spare (log_of d0 t0) (log_of d1 t2) x y
  step_moved there power stays found = record {
    lasts = keeps.lasts;
    can_write = ready_reported keeps.can_write;
    consistent = consistent_moved keeps.can_write;
    numbers = hands_same d0 d1 t0 t1 t2 reports.counts.next_group reports.counts.next_seq reports.counts.checkpoint keeps.numbers;
    geometry = reports.counts.geometry ∙ keeps.geometry;
    marks = λ b bad. reports.counts.bad b ∙ keeps.marks b bad;
    committed_count = same_keeps;
    index = moves_committed_out v x y moves_out;
    same_data = same_data spare d0 d1 t0 t1 x held keeps consistent stays;
    free = free_moved there power;
    findable = findable_moved d0 d1 x y (moves_committed_out v x y moves_out) (findable_still spare d0 d1 t0 x held keeps.lasts consistent found);
    erased = erased_moved power;
  }

  -- what the copies cost, where so many failures are left unanswered
  pub pays_moved : (n : ℕ) (moved : Moved) → (if target.suspect then 1 else 0) ≡ n → PaysTarget (length copies) (log_of d0 t0) (log_of d1 t1) (Ok target)
      → Pays {E = MoveFault} (bill_of (log_of d0 t0) (length copies + 1) 0 n) (log_of d0 t0) (log_of d1 t2) (Ok moved)
  pays_moved n moved is pays =
      let same = same_bads in
      let marks = pays.marks in
      let answers = pays.answers in
      subst (λ k. Pays {E = MoveFault} (bill_of (log_of d0 t0) (length copies + 1) 0 k) (log_of d0 t0) (log_of d1 t2) (Ok moved)) is
      (record { costs = pays.costs; marks = omega (arith, same, marks); answers = omega (arith, same, answers); reads = pays.reads })

  -- the same of copies behind what lay in the open block
  pub pays_opened : (n : ℕ) (moved : Moved) → (if target.suspect then 1 else 0) ≡ n → PaysWriting (length copies) (log_of d0 t0) (log_of d1 t1) (Ok (ends.Into target))
      → Pays {E = MoveFault} (record { changes = length copies; each = d0.geometry.pages + 1; marks = 0; unanswered = n }) (log_of d0 t0) (log_of d1 t2) (Ok (Some moved))
  pays_opened n moved is pays =
      let same = same_bads in
      let marks = pays.marks in
      let answers = pays.answers in
      subst (λ k. Pays {E = MoveFault} (record { changes = length copies; each = d0.geometry.pages + 1; marks = 0; unanswered = k }) (log_of d0 t0) (log_of d1 t2) (Ok (Some moved))) is
      (record { costs = pays.costs; marks = omega (arith, same, marks); answers = omega (arith, same, answers); reads = pays.reads })

  pub is_left : IsLeft v t2
  is_left = record { uncommitted = now_none; good = reports.counts.bad v ∙ still_good }

  pub lies_in : LiesIn v target.block t0 t2
  lies_in = record { within = is.within; good = reports.counts.bad target.block ∙ is.good; was = is.uncommitted; there = now_committed; elsewhere = committed_elsewhere }

  pub lies_open : target.first ≡ 0 → target.suspect ≡ false → LiesOpen v target.block t0 t2
  lies_open first trusted =
      let after : OpenAfter target.block (target.first + length copies) false t1 = subst (λ s. OpenAfter target.block (target.first + length copies) s t1) trusted is.open_block in
      record { lies = lies_in; open_block = reports.counts.open_block ∙ after.0; next = let next = reports.counts.next target.block ∙ after.1 in omega (arith, next, first, listed.count) }

  -- the open block has room for so many pages behind the copies
  pub lies_behind : (count w : ℕ) → t0.open_block ≡ Some w → target.first ≡ (t0.entry w).next → HasClear (length copies + count) d0 t0 → target.suspect ≡ false → LiesBehind v count (log_of d0 t0) (log_of d1 t2)
  lies_behind count w opened first clear trusted =
      let after : OpenAfter target.block (target.first + length copies) false t1 = subst (λ s. OpenAfter target.block (target.first + length copies) s t1) trusted is.open_block in
      let both : Some clear.block ≡ Some w = sym clear.clear.open_block ∙ opened in
      let same : clear.block ≡ w = cc in
      let next : (t2.entry target.block).next ≡ target.first + length copies = reports.counts.next target.block ∙ after.1 in
      let there : (t0.entry clear.block).next ≡ (t0.entry w).next = ap (λ k. (t0.entry k).next) same in
      let geometry = ap (λ (g : Geometry). g.pages) (reports.counts.geometry ∙ keeps.geometry) in
      let room = clear.fits in
      record {
        block = target.block;
        open_block = reports.counts.open_block ∙ after.0;
        lies = lies_in;
        fits = fits_open count target.block (target.first + length copies) t2 (reports.counts.open_block ∙ after.0) next (omega (arith, first, there, geometry, room));
      }

  pub is_closed : target.suspect ≡ true → t2.open_block ≡ None
  is_closed suspect = reports.counts.open_block ∙ subst (λ s. OpenAfter target.block (target.first + length copies) s t1) suspect is.open_block
