-- What the writing of a summary leaves of a log.
use Rattle.std.proofs.Common.{◌≡◌, ◌≢◌, ◌<◌, ◌≤◌, ℕ, ◌+◌, ◌*◌, Bool, true, false, None, Some, Result, Ok, Err, take, drop, refl, sym, ap, subst, ◌∙◌, arith, inl, inr}
use Rattle.std.proofs.Math.Nat.{mul-le-mul_left}
use Rattle.std.proofs.lemmas.Bool.{cases_eq}
use Rattle.volume_terms.specs.Sizes.{number_end}
use Rattle.nand_model.specs.Flash.{Flash}
use Rattle.nand_model.specs.Calls.{Device, Lasts, Marks}
use Rattle.nand_model.specs.Counts.{ReadsFew}
use Rattle.nand_model.specs.declared.geometry.Geometry.{Geometry}
use Rattle.nand_model.specs.declared.nand.Gone.{Gone}
use Rattle.page_tags.specs.Summaries.{summary_bytes}
use Rattle.flash_tree.specs.Keeping.{KeepsElsewhere}
use Rattle.flash_tree.specs.Newest.{Spot}
use Rattle.flash_tree.specs.Summaries.{Summary, IsWholeSummary}
use Rattle.flash_tree.specs.Summarizing.{AddsSummary, IsFindable, ListsKey}
use Rattle.flash_tree.specs.laws.Findable.{summary_key}
use Rattle.flash_tree.specs.laws.Newest.{stays_on}
use Rattle.block_state.specs.declared.blocks.BlockEntry.{BlockEntry}
use Rattle.block_state.specs.Committed.{bad_count}
use Rattle.block_state.specs.laws.Committed.{same_bad_count}
use Rattle.block_state.specs.Table.{Table, IsEmptyBlock}
use Rattle.chunk_index.specs.declared.index.Index.{Index}
use Rattle.chunk_index.specs.Maps.{committed_pages}
use Rattle.transactions.specs.Checking.{LogState, WritesGroup, log_of}
use Rattle.transactions.specs.Groups.{AddsPages, OkTable, TableEnds, next_group}
use Rattle.transactions.specs.Handing.{HandsOut}
use Rattle.transactions.specs.Marking.{NotesMark}
use Rattle.transactions.specs.Ready.{IsReady}
use Rattle.transactions.specs.SummaryWriting.{WritesSummary}
use Rattle.transactions.specs.declared.group.Placed.{Placed}
use Rattle.transactions.specs.declared.group.GroupFault.{GroupFault}
use Rattle.transactions.specs.declared.group.GroupFault.TheVariants as groups
use Rattle.flash_log.specs.CheckpointKeeping.{KeepsObjects}
use Rattle.flash_log.specs.Copying.{IsFresh, KeepsCounts}
use Rattle.flash_log.specs.Passing.{KeepsFound}
use Rattle.flash_log.specs.Consistency.{AreHeld, IsCommittedKey, KeepsFindable, IsConsistentLog}
use Rattle.flash_log.specs.Steps.{Step}
use Rattle.flash_log.specs.SummaryMaking.{CostsAMark, HasClear, KeepsListed, IsListOf, MarkingEnds, PaysSummary, Summarizes, SummaryEnds, summary_of}
use Rattle.flash_log.specs.SummarySource.{CanSummarize, summary_name, summary_size, source_page}
use Rattle.flash_log.specs.declared.fault.MoveFault.{MoveFault}
use Rattle.flash_log.specs.declared.fault.MoveFault.TheVariants as faults
use Rattle.flash_log.specs.declared.summary_writing.Summarized.{Summarized}
use Rattle.flash_log.specs.declared.summary_writing.Summarized.TheVariants as ends
use Rattle.flash_log.specs.contracts.summary_source.SummarySourcePageSource.TheImpl.{ghosts}
use Rattle.flash_log.specs.declared.summary_source.SummarySource.{SummarySource}
use Rattle.flash_log.specs.laws.Erased.{erased_marked, erased_written}
use Rattle.flash_log.specs.laws.Keeping.{bad_rises, keeps_on, keeps_same, limits_ends, same_ends}
use Rattle.flash_log.specs.laws.CommittedPages.{spot_of}
use Rattle.flash_log.specs.laws.Moves.{lies_apart, same_committed_sum}
use Rattle.flash_log.specs.laws.Steps.{moves_committed_none}
use Rattle.flash_log.specs.laws.SummarySource.{written_whole}
use Rattle.flash_log.proofs.CheckNames.{trees_before, trees_stay}
use Rattle.flash_log.proofs.CheckpointKeeping.{marked_committed, marked_uncommitted}
use Rattle.flash_log.proofs.Writing.{clear_fresh, costs_failed}
use Rattle.flash_log.proofs.IndexStays.{LeavesIndex, is_in_left, data_left, free_left}

-- ---- the group

-- the pages are those of the summary
pub writes_summary : (source : SummarySource) (w : ℕ) (d : Device) (t : Table) → IsFresh w d t → CanSummarize source d.geometry t.next_group → IsListOf (summary_of source t w) d → WritesSummary ghosts source d t
writes_summary source w d t fresh can list = record {
  summary = summary_of source t w;
  open_block = fresh.open_block;
  first = fresh.next;
  number = refl;
  seq = refl;
  size = refl;
  form = list.form;
  names = λ i lt. refl;
  bytes = λ i lt. ap (λ (g : Geometry). take g.bytes (drop (i * g.bytes) (summary_bytes (source.pages * g.bytes) source.head source.entries.now))) can.geometry;
  lists = list.lists;
}

-- and where the group is added, the summary is whole
pub summary_whole : (source : SummarySource) (w : ℕ) (d : Device) (f : Flash) (t : Table) → IsFresh w d t → CanSummarize source d.geometry t.next_group → IsListOf (summary_of source t w) d
    → AddsPages (next_group t source.pages w) (summary_name t.next_group) (source_page source) d.flash f → IsWholeSummary d.geometry f (summary_of source t w)
summary_whole source w d f t fresh can list adds =
    written_whole source d.geometry (next_group t source.pages w) d.flash f (record { start = fresh.next; size = refl; can = can; form = list.form; adds = adds })

-- however the writing of a group ends, no other block is open
still_open : (count : ℕ) (t u : Table) (result : Result Placed GroupFault) → TableEnds count t u result → (o : ℕ) → u.open_block ≡ Some o → t.open_block ≡ Some o
still_open count t u (Ok placed) ends o is = go placed.suspect ends where
  go : (suspect : Bool) → OkTable suspect count t u → t.open_block ≡ Some o
  go true closed = let two : None ≡ Some o = sym (ap (λ (x : Table). x.open_block) closed) ∙ is in absurd cc
  go false takes = sym takes.open_block ∙ is
still_open count t u (Err groups.NoRoom) same o is = sym (ap (λ (x : Table). x.open_block) same) ∙ is
still_open count t u (Err groups.Failed) closed o is = let two : None ≡ Some o = sym (ap (λ (x : Table). x.open_block) closed) ∙ is in absurd cc
still_open count t u (Err groups.Lost) closed o is = let two : None ≡ Some o = sym (ap (λ (x : Table). x.open_block) closed) ∙ is in absurd cc
still_open count t u (Err groups.Gone) closed o is = let two : None ≡ Some o = sym (ap (λ (x : Table). x.open_block) closed) ∙ is in absurd cc

module _ (source : SummarySource) (w : ℕ) (d e : Device) (t u : Table) (result : Result Placed GroupFault) (can_write : IsReady d t) (fresh : IsFresh w d t) (less : t.next_group < number_end)
    (lasts : Lasts d e) (after : IsReady e u) (group : WritesGroup ghosts source (log_of d t) (log_of e u) result) (numbers : HandsOut d e t u)
    (adds : d.honest ≡ true → AddsSummary d.geometry d.flash e.flash (summary_of source t w)) where
  counts_group : KeepsCounts d e t u
  counts_group = keeps_same d e t u (same_ends source.pages t u result group.table) lasts after numbers (limits_ends source.pages t u result group.table less)
      (erased_written d e t w source.pages (summary_name t.next_group) (source_page source) can_write fresh.open_block lasts group.writes u result
      (λ honest. group.groups honest w fresh.open_block) group.table)

  objects_group : d.honest ≡ true → KeepsObjects t d.flash e.flash
  objects_group honest o c s other newest some =
      trees_stay (next_group t source.pages w) (summary_name t.next_group) (source_page source) d.flash e.flash (group.writes honest).grows (λ i lt. refl)
      result (group.groups honest w fresh.open_block) o c s other newest

  listed_group : d.honest ≡ true → KeepsListed (summary_of source t w) t d e
  listed_group honest right o c p newest some lists found =
      subst (λ (g : Geometry). IsFindable g e.flash o c) (sym lasts.geometry) (summary_key d.geometry d.flash e.flash (summary_of source t w) (adds honest) right o c lists found)

  pub group_summarizes : Summarizes (summary_of source t w) (log_of d t) (log_of e u)
  group_summarizes = record {
    keeps = counts_group;
    newest = objects_group;
    found = listed_group;
    open_block = still_open source.pages t u result group.table;
  }

-- at most one number is used
pub number_used : (count : ℕ) (t u : Table) (result : Result Placed GroupFault) → TableEnds count t u result → u.next_group ≤ t.next_group + 1
number_used count t u (Ok placed) ends = go placed.suspect ends where
  go : (suspect : Bool) → OkTable suspect count t u → u.next_group ≤ t.next_group + 1
  go true is = let same : u.next_group ≡ t.next_group + 1 = ap (λ (x : Table). x.next_group) is in omega (arith, same)
  go false takes = let same = takes.next_number in omega (arith, same)
number_used count t u (Err groups.NoRoom) is = let same : u.next_group ≡ t.next_group = ap (λ (x : Table). x.next_group) is in omega (arith, same)
number_used count t u (Err groups.Failed) is = let same : u.next_group ≡ t.next_group + 1 = ap (λ (x : Table). x.next_group) is in omega (arith, same)
number_used count t u (Err groups.Lost) is = let same : u.next_group ≡ t.next_group + 1 = ap (λ (x : Table). x.next_group) is in omega (arith, same)
number_used count t u (Err groups.Gone) is = let same : u.next_group ≡ t.next_group + 1 = ap (λ (x : Table). x.next_group) is in omega (arith, same)

-- so what is written as a summary summarizes
pub listed_summarizes : (source : SummarySource) (w : ℕ) (d e : Device) (t u : Table) (result : Result Placed GroupFault) → IsReady d t → IsFresh w d t → t.next_group < number_end → CanSummarize source d.geometry t.next_group
    → (d.honest ≡ true → IsListOf (summary_of source t w) d) → Lasts d e → IsReady e u → WritesGroup ghosts source (log_of d t) (log_of e u) result → HandsOut d e t u
    → (d.honest ≡ true → (writes : WritesSummary ghosts source d t) → AddsSummary d.geometry d.flash e.flash writes.summary) → Summarizes (summary_of source t w) (log_of d t) (log_of e u)
unfolding writes_summary
listed_summarizes source w d e t u result can_write fresh less can list lasts after group numbers adds =
    group_summarizes source w d e t u result can_write fresh less lasts after group numbers (λ honest. adds honest (writes_summary source w d t fresh can (list honest)))

-- the block has nothing committed still
pub empty_still : (count w : ℕ) (d : Device) (t u : Table) (result : Result Placed GroupFault) → IsFresh w d t → TableEnds count t u result → IsEmptyBlock w u
empty_still count w d t u result fresh table =
    let same = same_ends count t u result table in
    record {
      within = subst (λ (g : Geometry). w < g.blocks) (sym same.geometry) fresh.within;
      good = same.bad w ∙ fresh.good;
      uncommitted = same.committed w ∙ fresh.uncommitted;
    }

-- a fresh block has room for the pages of a block
pub clear_fresh_block : (w count : ℕ) (d : Device) (t : Table) → IsFresh w d t → count ≤ t.geometry.pages → HasClear count d t
clear_fresh_block w count d t fresh within_limit = record { block = w; clear = clear_fresh w d t fresh; fits = let next = fresh.next in omega (arith, next, within_limit) }

-- how it ends without a failure
pub ends_written : (source : SummarySource) (w : ℕ) (d e : Device) (t u : Table) (placed : Placed) → IsFresh w d t → t.next_group + 1 < number_end → Lasts d e
    → WritesGroup ghosts source (log_of d t) (log_of e u) (Ok placed) → OkTable false source.pages t u → e.gone ≡ false
    → (count spare : ℕ) → source.pages + count ≤ t.geometry.pages → SummaryEnds count spare (log_of d t) (log_of e u) (Ok ends.Written)
ends_written source w d e t u placed fresh less lasts group takes power count spare fits =
    let same = same_ends source.pages t u (Ok placed) group.table in
    let opened : u.open_block ≡ Some w = takes.open_block ∙ fresh.open_block in
    let next : (u.entry w).next ≡ (t.entry w).next + source.pages = ap (λ (x : BlockEntry). x.next) (takes.here w fresh.open_block) in
    let seq : (u.entry w).seq ≡ (t.entry w).seq = ap (λ (x : BlockEntry). x.seq) (takes.here w fresh.open_block) in
    let geometry = ap (λ (g : Geometry). g.pages) takes.geometry in
    let empty = empty_still source.pages w d t u (Ok placed) fresh group.table in (
      record {
        block = w;
        clear = record {
          within = empty.within;
          open_block = opened;
          good = empty.good;
          uncommitted = empty.uncommitted;
          older = λ honest o c s other holds.
              let was : d.honest ≡ true = sym lasts.honest ∙ honest in
              let before = trees_before (next_group t source.pages w) (summary_name t.next_group) (source_page source) d.flash e.flash (group.writes was).grows (λ i lt. refl)
              (Ok placed) (group.groups was w fresh.open_block) o c s other holds in
              let lower = fresh.older was o c s other before in
              omega (arith, lower, seq);
          power = power;
        };
        fits = let first = fresh.next in omega (arith, next, first, fits, geometry);
      },
      same_bad_count t u same,
      (let used = takes.next_number in λ _. omega (arith, used, less)),
    )

-- ---- the mark of its block, after a failure

module _ (w : ℕ) (d e : Device) (t u : Table) (result : Result (Unit {0}) Gone) (empty : IsEmptyBlock w t) (marks : Marks w d e result) (can_write : IsReady e u) (notes : NotesMark w e.flash t u)
    (numbers : HandsOut d e t u) where
  good_before : (t.entry w).bad ≡ true → ⊥
  good_before bad = let two : true ≡ false = sym bad ∙ empty.good in absurd cc

  others : (b : ℕ) → b ≢ w → (u.entry b).bad ≡ (t.entry b).bad
  others b ne = ap (λ (x : BlockEntry). x.bad) (notes.sets.others b ne)

  marked_stay : (b : ℕ) → (t.entry b).bad ≡ true → (u.entry b).bad ≡ true
  marked_stay b is = elim (cases_eq b w) [
    | inl here ↦ absurd (good_before (ap (λ k. (t.entry k).bad) (sym here) ∙ is))
    | inr ne ↦ others b ne ∙ is
  ]

  pub mark_counts : KeepsCounts d e t u
  mark_counts = record {
    lasts = marks.lasts;
    can_write = can_write;
    numbers = numbers;
    geometry = notes.sets.geometry;
    committed = marked_committed w d e t u result empty.within empty.good empty.uncommitted marks notes;
    marks = marked_stay;
    marked = λ b is. elim (cases_eq b w) [
      | inl here ↦ inr (ap (λ k. (t.entry k).committed) here ∙ empty.uncommitted)
      | inr ne ↦ inl (sym (others b ne) ∙ is)
    ];
    uncommitted = marked_uncommitted w d e t u result empty.within empty.good empty.uncommitted marks notes;
    rises = bad_rises t u notes.sets.geometry marked_stay;
    limits = λ (group, seq). (let same = notes.sets.next_group in omega (arith, same, group), let same = notes.next_seq in omega (arith, same, seq));
    erased = erased_marked w d e t u result (λ bad. absurd (good_before bad)) marks notes;
  }

module _ (s : Summary) (w : ℕ) (d e f : Device) (t u v : Table) (uncommitted : (t.entry w).committed ≡ 0) (first : Summarizes s (log_of d t) (log_of e u))
    (marks : KeepsCounts e f u v) (elsewhere : e.honest ≡ true → KeepsElsewhere w e.flash f.flash) (found : e.honest ≡ true → KeepsFound u e f)
    (closed : v.open_block ≡ None) where
  later : d.honest ≡ true → e.honest ≡ true
  later honest = first.keeps.lasts.honest ∙ honest

  committed_here : (p : Spot) → 1 ≤ (t.entry p.block).committed → 1 ≤ (u.entry p.block).committed
  committed_here p some = let same = first.keeps.committed p.block in omega (arith, same, some)

  apart : (p : Spot) → 1 ≤ (t.entry p.block).committed → p.block ≢ w
  apart p some is = let none : (t.entry p.block).committed ≡ 0 = ap (λ b. (t.entry b).committed) is ∙ uncommitted in absurd (omega (arith, none, some))

  pub mark_summarizes : Summarizes s (log_of d t) (log_of f v)
  mark_summarizes = record {
    keeps = keeps_on d e f t u v first.keeps marks;
    newest = λ honest o c p other newest some.
        let stays = first.newest honest o c p other newest some in
        stays_on d.flash e.flash f.flash o c p stays (elsewhere (later honest) o c p stays.newest (apart p some));
    found = λ honest right o c p newest some lists is.
        let stays = first.newest honest o c p (is.ordinary o c (refl, refl)) newest some in
        (found (later honest)).keys (first.keeps.numbers.truth.summaries honest right) o c p stays.newest (committed_here p some) (first.found honest right o c p newest some lists is);
    open_block = λ o is. let two : None ≡ Some o = sym closed ∙ is in absurd cc;
  }

-- ---- what it costs

module _ (size count : ℕ) (a b : LogState) (most : size ≤ summary_size a.device.geometry) (fits : size + count ≤ a.device.geometry.pages) (lasts : Lasts a.device b.device)
    (same : bad_count b.table ≡ bad_count a.table) (quiet : b.device.reads + a.device.failures ≤ a.device.reads + b.device.failures) where
  -- without a failure, its pages
  pub pays_pages : b.device.failures ≡ a.device.failures → b.device.changes ≡ a.device.changes + size → PaysSummary count a b (Ok ends.Written)
  pays_pages failures changes =
      let one : (a.device.geometry.pages + 1) * (a.device.failures + 0) ≡ (a.device.geometry.pages + 1) * a.device.failures = omega arith in
      let two : (a.device.geometry.pages + 1) * b.device.failures ≡ (a.device.geometry.pages + 1) * a.device.failures = ap (λ n. (a.device.geometry.pages + 1) * n) failures in
      record {
        size = size;
        most = most;
        fits = fits;
        pays = record { costs = omega (arith, one, two, changes); marks = omega (arith, same, failures); answers = omega (arith, same, failures); reads = omega (arith, quiet, changes, failures) };
      }

  -- after a fault no more than these
  pub pays_fault : (fault : MoveFault) → b.device.changes ≤ a.device.changes + size → PaysSummary count a b (Err fault)
  pays_fault fault changes =
      let more = lasts.failures in
      let rise = lasts.changes in
      let one : (a.device.geometry.pages + 1) * (a.device.failures + 0) ≡ (a.device.geometry.pages + 1) * a.device.failures = omega arith in
      let two : (a.device.geometry.pages + 1) * a.device.failures ≤ (a.device.geometry.pages + 1) * b.device.failures = mul-le-mul_left (a.device.geometry.pages + 1) more in
      record {
        size = size;
        most = most;
        fits = fits;
        pays = record { costs = omega (arith, one, two, changes); marks = omega (arith, same, more); answers = tt; reads = omega (arith, quiet, rise) };
      }

  module _ (c : LogState) (failed : b.device.failures ≡ a.device.failures + 1) (changes : b.device.changes ≤ a.device.changes + size) (costs : CostsAMark b.device c.device) (later : Lasts b.device c.device) where
    failures : c.device.failures ≡ a.device.failures + 1
    failures = costs.failures ∙ failed

    all : c.device.changes ≤ a.device.changes + size + 1
    all = let one = costs.changes in omega (arith, one, changes)

    reads : (more : ℕ) → ReadsFew more a.device c.device
    reads more = let read = costs.reads in let rise = lasts.changes in let rise' = later.changes in let count = failures in let was = failed in omega (arith, quiet, read, rise, rise', count, was)

    -- and a failure pays for these and the mark
    pub pays_mark : (r : Result Summarized MoveFault) → MarkingEnds c.device b.table c.table r → PaysSummary count a c r
    pays_mark (Ok ends.Written) marked = absurd marked
    pays_mark (Ok ends.Marked) (closed, more, same_number, power) = record {
      size = size;
      most = most;
      fits = fits;
      pays = record { costs = costs_failed size a c (omega (arith, fits)) failures all 0; marks = let count = failures in omega (arith, same, more, count); answers = let count = failures in omega (arith, same, more, count); reads = reads 0 };
    }
    pays_mark (Err faults.Worn) marked = absurd marked
    pays_mark (Err faults.Lost) marked = absurd marked
    pays_mark (Err faults.Gone) (gone, more) = record {
      size = size;
      most = most;
      fits = fits;
      pays = record { costs = costs_failed size a c (omega (arith, fits)) failures all size; marks = let count = failures in omega (arith, same, more, count); answers = tt; reads = reads 1 };
    }

-- how it ends then
pub ends_marked : (count spare : ℕ) (a b c : LogState) (r : Result Summarized MoveFault) → bad_count b.table ≡ bad_count a.table → b.table.next_group < number_end → MarkingEnds c.device b.table c.table r → SummaryEnds count spare a c r
ends_marked count spare a b c (Ok ends.Written) same less marked = absurd marked
ends_marked count spare a b c (Ok ends.Marked) same less (closed, more, number, power) = (closed, omega (arith, same, more), (λ _. omega (arith, number, less)), power)
ends_marked count spare a b c (Err faults.Worn) same less marked = absurd marked
ends_marked count spare a b c (Err faults.Lost) same less marked = absurd marked
ends_marked count spare a b c (Err faults.Gone) same less (gone, more) = gone

-- ---- so the log keeps what each call keeps

module _ (spare : ℕ) (x : Index) (s : Summary) (w : ℕ) (d f : Device) (t v : Table) (held : AreHeld t x) (consistent : IsConsistentLog spare d t x) (fresh : IsFresh w d t)
    (does : Summarizes s (log_of d t) (log_of f v)) (lists : d.honest ≡ true → (o c : ℕ) → IsCommittedKey (committed_pages x) o c → ListsKey d.flash s o c) where
  written : (o : ℕ) → v.open_block ≡ Some o → (v.entry o).committed ≤ (v.entry o).next
  written o is =
      let both : Some w ≡ Some o = sym fresh.open_block ∙ does.open_block o is in
      let same : w ≡ o = cc in
      let none : (v.entry o).committed ≡ 0 = does.keeps.committed o ∙ ap (λ b. (t.entry b).committed) (sym same) ∙ fresh.uncommitted in
      omega (arith, none)

  leaves : LeavesIndex d f t v
  leaves = record {
    lasts = does.keeps.lasts;
    can_write = does.keeps.can_write;
    geometry = does.keeps.geometry;
    committed = does.keeps.committed;
    rises = does.keeps.numbers.numbers.groups_rise;
    uncommitted = does.keeps.uncommitted;
    limits = does.keeps.limits;
    newest = does.newest;
    written = written;
    apart = lies_apart t v does.keeps.numbers.truth.noted does.keeps.committed;
  }

  findable : KeepsFindable d f x x
  findable honest right found o c (p, is) =
      let at = consistent.newest honest fresh.power o c p is in
      does.found honest right o c (spot_of p at.tag) at.newest (held o c p is) (lists honest o c (p, is)) (found o c (p, is))

  pub step_summarized : Step spare (log_of d t) (log_of f v) x x
  step_summarized = record {
    lasts = does.keeps.lasts;
    can_write = does.keeps.can_write;
    consistent = is_in_left spare x d f t v held consistent leaves;
    numbers = does.keeps.numbers;
    geometry = does.keeps.geometry;
    marks = does.keeps.marks;
    committed_count = same_committed_sum t v does.keeps.geometry does.keeps.committed;
    index = moves_committed_none x;
    same_data = data_left spare x d f t v held consistent leaves;
    free = free_left spare x d f t v held consistent leaves;
    findable = findable;
    erased = does.keeps.erased;
  }
