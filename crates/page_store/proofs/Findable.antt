-- What a mount by summaries finds where the buffered pages are written.
use Rattle.std.proofs.Common.{◌≡◌, ◌≢◌, ◌<◌, ◌+◌, ℕ, Option, true, List, [], length, Some, None, Ok, Err, refl, sym, ap, subst, ◌∙◌, arith, inl, inr}
use Rattle.std.specs.Option.{option_map_or}
use Rattle.std.proofs.lemmas.Bool.{cases_eq}
use Rattle.volume_terms.specs.laws.List.{slice_get_there}
use Rattle.nand_model.specs.Flash.{Flash}
use Rattle.nand_model.specs.Calls.{Device, Lasts}
use Rattle.nand_model.specs.laws.Calls.{lasts_here}
use Rattle.nand_model.specs.declared.geometry.Geometry.{Geometry}
use Rattle.nand_model.specs.Changes.{OnlyReads}
use Rattle.flash_tree.specs.ErasedBlocks.{BeginsErased, OnlyFirstHasTags}
use Rattle.flash_tree.specs.Groups.{Group, HasTag, SameGroups}
use Rattle.flash_tree.specs.Slots.{check_object}
use Rattle.flash_tree.specs.Summaries.{AreSummariesRight}
use Rattle.flash_tree.specs.Summarizing.{WritesIn, AddsNamed, IsKey, IsFindable}
use Rattle.flash_tree.specs.laws.Findable.{findable_same, named_findable, unnamed_findable}
use Rattle.flash_tree.specs.laws.Place.{had_power, same_flash}
use Rattle.flash_tree.specs.declared.place.FreshPage.{FreshPage}
use Rattle.flash_tree.specs.declared.place.Key.{Key}
use Rattle.block_state.specs.Table.{Table}
use Rattle.chunk_index.specs.declared.form.Present.{Present}
use Rattle.chunk_index.specs.declared.form.Present.TheVariants as presents
use Rattle.chunk_index.specs.declared.form.WrittenGroup.{WrittenGroup}
use Rattle.chunk_index.specs.declared.index.Index.{Index}
use Rattle.chunk_index.specs.Counts.{Recounts}
use Rattle.chunk_index.specs.Maps.{committed_pages, count_committed_in, present, once_written, CountsAgree, Settles, SameCommitted}
use Rattle.transactions.specs.Checking.{LogState, log_of}
use Rattle.transactions.specs.Committing.{fresh_name, fresh_bytes, no_key}
use Rattle.transactions.specs.Groups.{AddsPages, GroupsAfter, OkTable, TableEnds, WritesOpen, next_group}
use Rattle.transactions.specs.Handing.{HandsOut}
use Rattle.transactions.specs.Naming.{NamesOnce}
use Rattle.transactions.specs.Newest.{IsCommit}
use Rattle.transactions.specs.Ready.{IsReady}
use Rattle.transactions.specs.Written.{tag_in}
use Rattle.transactions.specs.declared.group.GroupFault.{GroupFault}
use Rattle.transactions.specs.declared.group.GroupFault.TheVariants as group_faults
use Rattle.transactions.specs.declared.group.Placed.{Placed}
use Rattle.transactions.specs.declared.source.PageName.{PageName}
use Rattle.transactions.specs.laws.Newest.{commit_comes_last}
use Rattle.flash_log.specs.Erased.{KnowsErased, LeadsErased, TracksErased}
use Rattle.flash_log.specs.Mountable.{IsMountable, IsMountableSince, KeepsMountable}
use Rattle.flash_log.specs.Snapshots.{Snapshot}
use Rattle.flash_log.specs.Consistency.{AreFound, IsCommittedKey}
use Rattle.flash_log.specs.Steps.{MovesCommitted}
use Rattle.flash_log.specs.laws.Erased.{erased_written}
use Rattle.flash_log.specs.laws.Keeping.{same_ends}
use Rattle.flash_log.specs.laws.Mountable.{mountable_on}
use Rattle.pages.specs.Maps.{PageMap}
use Rattle.pages.specs.Stores.{FindsAll}
use Rattle.page_store.specs.Buffering.{Buffers}
use Rattle.page_store.specs.Carrying.{AreWritable}
use Rattle.page_store.specs.Shown.{data_by, committed_data, present_data}
use Rattle.page_store.proofs.Carried.{committed_of_data}
use Rattle.page_store.proofs.Following.{on_flash_committed}
use Rattle.page_store.proofs.GroupCounts.{ListsAreWhole, settled_elsewhere, settled_most}
use Rattle.page_store.proofs.Grouping.{named_once, not_named}
use Rattle.page_store.proofs.Settling.{was_committed_before}

-- ---- maps of keys

-- what a mount finds of a map it finds of one with the same pages
pub finds_same : (d : Device) (m n : PageMap) → ((o c : ℕ) → m o c ≡ n o c) → FindsAll d m → FindsAll d n
finds_same d m n same all o c (xs, is) = all o c (xs, same o c ∙ is)

-- each page of which the data were known is of a committed key
pub finds_committed : (d : Device) (x : Index) (f : Flash) → AreFound d.geometry d.flash (committed_pages x) → FindsAll d (committed_data x f)
finds_committed d x f found o c (xs, is) = found o c (committed_of_data f (committed_pages x o c) xs is)

-- keys that were moved were committed
pub found_unmoved : (d : Device) (x y : Index) → MovesCommitted x y → AreFound d.geometry d.flash (committed_pages y) → AreFound d.geometry d.flash (committed_pages x)
found_unmoved d x y moves found o c (p, is) = let m = moves.moved o c p is in found o c (m.at, m.is)

-- no committed page changes
pub mountable_committed : (log : LogState) (x y : Index) → SameCommitted x y → IsMountable log x → IsMountable log y
mountable_committed log x y same was = record {
  summaries = was.summaries;
  erased = was.erased;
  found = λ o c (p, is). was.found o c (p, sym (same.committed o c) ∙ is);
}

pub mountable_committed_since : (first : Option Snapshot) (log : LogState) (x y : Index) → SameCommitted x y → IsMountableSince first log x → IsMountableSince first log y
mountable_committed_since first log x y same = mountable_on first log log x y (lasts_here log.device) (λ honest. mountable_committed log x y same)

-- the device is only read
mountable_read : (a b : Device) (t : Table) (x : Index) → OnlyReads a b → KeepsMountable (log_of a t) (log_of b t) x x
mountable_read a b t x reads honest was =
    let flash = sym (same_flash a b reads honest) in
    let geometry = sym reads.lasts.geometry in
    record {
      summaries = subst (λ (z : Geometry). AreSummariesRight z b.flash) geometry (subst (AreSummariesRight a.geometry) flash was.summaries);
      erased = record {
        first = subst OnlyFirstHasTags flash was.erased.first;
        leads = subst (λ (f : Flash). LeadsErased f t) flash was.erased.leads;
        known = λ power. subst (λ (f : Flash). KnowsErased f t) flash (was.erased.known (had_power a b reads.lasts power));
      };
      found = subst (λ (z : Geometry). AreFound z b.flash (committed_pages x)) geometry (subst (λ (f : Flash). AreFound a.geometry f (committed_pages x)) flash was.found);
    }

pub mountable_read_since : (first : Option Snapshot) (a b : Device) (t : Table) (x : Index) → OnlyReads a b → IsMountableSince first (log_of a t) x → IsMountableSince first (log_of b t) x
mountable_read_since first a b t x reads = mountable_on first (log_of a t) (log_of b t) x x reads.lasts (mountable_read a b t x reads)

-- ---- a table of which only counts change

pub tracks_counted : (d : Device) (t v : Table) (before after : ℕ → ℕ) → Recounts before after t v
    → ((b : ℕ) → BeginsErased d.flash b → (t.entry b).committed ≡ 0 → (v.entry b).committed ≡ 0) → TracksErased d t → TracksErased d v
tracks_counted d t v before after counts none was = record {
  first = was.first;
  leads = record {
    noted = λ c is. was.leads.noted c (sym counts.checkpoint ∙ is);
    opened = λ k is next. was.leads.opened k (sym counts.open_block ∙ is) (sym (counts.next k) ∙ next);
  };
  known = λ power. recounted (was.known power);
} where
  recounted : KnowsErased d.flash t → KnowsErased d.flash v
  recounted knows = record {
    unwritten = λ b within begins.
        let is = knows.unwritten b (subst (λ (z : Geometry). b < z.blocks) counts.geometry within) begins in
        record { next = counts.next b ∙ is.next; committed = none b begins is.committed };
    torn = λ b l u begins has.
        let is = knows.torn b l u begins has in
        record {
          within = subst (λ (z : Geometry). b < z.blocks) (sym counts.geometry) is.within;
          lowest = λ j blank. is.lowest j (record {
            within = subst (λ (z : Geometry). j < z.blocks) counts.geometry blank.within;
            good = sym (counts.bad j) ∙ blank.good;
            next = sym (counts.next j) ∙ blank.next;
          });
        };
    aged = λ b some.
        let next = counts.next b in
        let seq = counts.seq b in
        let one = knows.aged b (omega (arith, some, next)) in
        omega (arith, one, seq);
  }

-- ---- the group of the buffered pages

module _ (d e : Device) (t : Table) (x : Index) (pages : List FreshPage) (o : ℕ) (can_write : IsReady d t) (opened : t.open_block ≡ Some o) (buffers : Buffers x pages)
    (writable : AreWritable d pages) (lasts : Lasts d e) (honest : d.honest ≡ true) (writes : WritesOpen t d.flash e.flash)
    (right : AreSummariesRight d.geometry d.flash) (found : AreFound d.geometry d.flash (committed_pages x)) where
  abbrev g : Group
  g = next_group t (length pages) o

  abbrev name : ℕ → PageName
  name = fresh_name pages t.next_group

  written : WritesIn o t.next_group (t.entry o).seq d.flash e.flash
  written = writes.within o opened

  afterwards : (q c : ℕ) → IsFindable d.geometry e.flash q c → IsFindable e.geometry e.flash q c
  afterwards q c = subst (λ (z : Geometry). IsFindable z e.flash q c) (sym lasts.geometry)

  -- it is not added
  pub found_still : SameGroups d.flash e.flash → AreFound e.geometry e.flash (committed_pages x)
  found_still same q c committed =
      afterwards q c (findable_same d.geometry d.flash e.flash o t.next_group (t.entry o).seq written right (IsKey q c) same (found q c committed))

  -- it is added
  module _ (adds : AddsPages g name (fresh_bytes pages) d.flash e.flash) where
    ordinary : (i : ℕ) → i < length pages → (name i).key.object ≢ check_object
    ordinary i lt is =
        let there = slice_get_there pages i lt in
        let key : (name i).key ≡ there.0.key = ap (λ m. option_map_or (λ (p : FreshPage). p.key) m no_key) there.1 in
        (writable.numbered i there.0 there.1).1 honest (sym (ap (λ (k : Key). k.object) key) ∙ is)

    named : AddsNamed g (tag_in g name) (fresh_bytes pages) d.flash e.flash
    named = record {
      writes = written;
      adds = adds.group;
      all = adds.pages;
      no_summary = λ begins. ordinary 0 ((adds.group g).1 (inr refl)).some begins.0;
      in_order = ((can_write.open_block o opened).in_order honest).written;
    }

    commits : IsCommit g name d.flash
    commits = record { versions = λ i lt. refl; seq = t.next_seq; below = can_write.below honest }

    -- a key that it does not name is found by the page that it had
    finds_other : (q c : ℕ) → ((i : ℕ) → present x q c ≡ presents.InBuffer i → ⊥) → IsCommittedKey (committed_pages x) q c → IsFindable e.geometry e.flash q c
    finds_other q c out committed =
        afterwards q c (unnamed_findable d.geometry g (tag_in g name) (fresh_bytes pages) d.flash e.flash named right q c
        (λ i lt object chunk. not_named t x pages buffers q c out i lt (record { object = object; chunk = chunk })) (found q c committed))

    -- and one that it names by its page
    finds_named : (q c i : ℕ) → present x q c ≡ presents.InBuffer i → IsFindable e.geometry e.flash q c
    finds_named q c i is =
        let once : NamesOnce g name q c i = named_once t x pages o buffers q c i is in
        let k : ℕ = (name i).key.object in
        let n : ℕ = (name i).key.chunk in
        let own : NamesOnce g name k n i = record {
          within = once.within;
          named = record { object = refl; chunk = refl };
          once = λ j lt at. once.once j lt (record { object = at.object ∙ once.named.object; chunk = at.chunk ∙ once.named.chunk });
        } in
        afterwards q c (named_findable d.geometry g (tag_in g name) (fresh_bytes pages) d.flash e.flash named right q c i
        (record { within = once.within; object = once.named.object; chunk = once.named.chunk; once = λ j lt object chunk. once.once j lt (record { object = object; chunk = chunk }) })
        (record { ordinary = ordinary i once.within; last = commit_comes_last g name d.flash commits k n i own; version = inl refl }))

    -- so is each key that was committed
    pub found_committed : AreFound e.geometry e.flash (committed_pages x)
    found_committed q c committed = go (present x q c) refl where
      go : (r : Present) → present x q c ≡ r → IsFindable e.geometry e.flash q c
      go presents.Absent at = finds_other q c (λ i there. let two : presents.Absent ≡ presents.InBuffer i = sym at ∙ there in cc) committed
      go (presents.OnFlash k) at = finds_other q c (λ i there. let two : presents.OnFlash k ≡ presents.InBuffer i = sym at ∙ there in cc) committed
      go (presents.InBuffer i) at = finds_named q c i at

    -- each that is present
    pub finds_present : FindsAll e (present_data x pages d.flash)
    finds_present q c (xs, is) = go (present x q c) refl where
      go : (r : Present) → present x q c ≡ r → IsFindable e.geometry e.flash q c
      go presents.Absent at = let two : None ≡ Some xs = sym (ap (data_by d.flash pages) at) ∙ is in absurd cc
      go (presents.OnFlash k) at = finds_other q c (λ i there. let two : presents.OnFlash k ≡ presents.InBuffer i = sym at ∙ there in cc) (k, on_flash_committed x q c k at)
      go (presents.InBuffer i) at = finds_named q c i at

    -- and each that is committed once the index is settled
    pub found_settled : (w : WrittenGroup) (y : Index) → Settles w x y → AreFound e.geometry e.flash (committed_pages y)
    found_settled w y settles q c (p, is) = go (present x q c) refl where
      go : (r : Present) → present x q c ≡ r → IsFindable e.geometry e.flash q c
      go presents.Absent at = let two : None ≡ Some p = sym (settles.committed q c ∙ ap (once_written w) at) ∙ is in absurd cc
      go (presents.OnFlash k) at = finds_other q c (λ i there. let two : presents.OnFlash k ≡ presents.InBuffer i = sym at ∙ there in cc) (k, on_flash_committed x q c k at)
      go (presents.InBuffer i) at = finds_named q c i at

  -- however its writing ends short
  pub found_short : (fault : GroupFault) → GroupsAfter g name (fresh_bytes pages) d.flash e.flash (Err fault) → AreFound e.geometry e.flash (committed_pages x)
  found_short group_faults.NoRoom same = found_still same
  found_short group_faults.Failed same = found_still same
  found_short group_faults.Lost same = found_still same
  found_short group_faults.Gone (inl same) = found_still same
  found_short group_faults.Gone (inr adds) = found_committed adds

-- ---- the log

module _ (d e : Device) (t u : Table) (x : Index) (pages : List FreshPage) (o : ℕ) (can_write : IsReady d t) (opened : t.open_block ≡ Some o) (buffers : Buffers x pages)
    (writable : AreWritable d pages) (lasts : Lasts d e) (numbers : HandsOut d e t u) (writes : d.honest ≡ true → WritesOpen t d.flash e.flash) where
  -- after a fault
  pub mountable_short : (fault : GroupFault) → (d.honest ≡ true → GroupsAfter (next_group t (length pages) o) (fresh_name pages t.next_group) (fresh_bytes pages) d.flash e.flash (Err fault))
      → TableEnds (length pages) t u (Err fault) → KeepsMountable (log_of d t) (log_of e u) x x
  mountable_short fault after table honest was = record {
    summaries = numbers.truth.summaries honest was.summaries;
    erased = erased_written d e t o (length pages) (fresh_name pages t.next_group) (fresh_bytes pages) can_write opened lasts writes u (Err fault) after table honest was.erased;
    found = found_short d e t x pages o can_write opened buffers writable lasts honest (writes honest) was.summaries was.found fault (after honest);
  }

  -- the group is valid
  module _ (placed : Placed) (groups : d.honest ≡ true → AddsPages (next_group t (length pages) o) (fresh_name pages t.next_group) (fresh_bytes pages) d.flash e.flash) where
    -- each current key is found
    pub current_found : d.honest ≡ true → IsMountable (log_of d t) x → FindsAll e (present_data x pages d.flash)
    current_found honest was = finds_present d e t x pages o can_write opened buffers writable lasts honest (writes honest) was.summaries was.found (groups honest)

    -- its block does not begin erased
    begun : d.honest ≡ true → BeginsErased e.flash o → ⊥
    begun honest begins =
        let adds = groups honest in
        let there = adds.pages 0 ((adds.group (next_group t (length pages) o)).1 (inr refl)).some in
        let first : HasTag e.flash o ((t.entry o).next + 0) (tag_in (next_group t (length pages) o) (fresh_name pages t.next_group) 0) = record { bytes = fresh_bytes pages 0; page = there.0; valid = there.1 } in
        ((writes honest).within o opened).begun ((t.entry o).next + 0) _ first begins.1

    -- and the index is settled
    pub mountable_whole : ListsAreWhole → (v : Table) (y : Index) (w : WrittenGroup) → w.block ≡ o → Settles w x y → CountsAgree t x → CountsAgree v y → Recounts (count_committed_in x) (count_committed_in y) u v
        → OkTable placed.suspect (length pages) t u → KeepsMountable (log_of d t) (log_of e v) x y
    mountable_whole lists v y w there settles before agree counts table honest was = record {
      summaries = numbers.truth.summaries honest was.summaries;
      erased = tracks_counted e u v (count_committed_in x) (count_committed_in y) counts none
          (erased_written d e t o (length pages) (fresh_name pages t.next_group) (fresh_bytes pages) can_write opened lasts writes u (Ok placed) groups table honest was.erased);
      found = found_settled d e t x pages o can_write opened buffers writable lasts honest (writes honest) was.summaries was.found (groups honest) w y settles;
    } where
      none : (b : ℕ) → BeginsErased e.flash b → (u.entry b).committed ≡ 0 → (v.entry b).committed ≡ 0
      none b begins zero_committed = elim (cases_eq b w.block) [
        | inl is ↦ absurd (begun honest (subst (BeginsErased e.flash) (is ∙ there) begins))
        | inr ne ↦
            let within_limit = settled_elsewhere lists w x y pages settles buffers b ne in
            let now = agree.counts b in
            let then = before.counts b in
            let same = (same_ends (length pages) t u (Ok placed) table).committed b in
            omega (arith, within_limit, now, then, same, zero_committed)
      ]

-- nothing is buffered: what was dropped is not committed any more
pub mountable_empty : ListsAreWhole → (w : WrittenGroup) (d : Device) (t v : Table) (x y : Index) (pages : List FreshPage) → pages ≡ [] → Buffers x pages → Settles w x y
    → CountsAgree t x → CountsAgree v y → Recounts (count_committed_in x) (count_committed_in y) t v → KeepsMountable (log_of d t) (log_of d v) x y
mountable_empty lists w d t v x y pages none buffers settles before agree counts honest was = record {
  summaries = was.summaries;
  erased = tracks_counted d t v (count_committed_in x) (count_committed_in y) counts fewer was.erased;
  found = λ q c (p, is). was.found q c (p, was_committed_before w x y pages none buffers settles q c p is);
} where
  fewer : (b : ℕ) → BeginsErased d.flash b → (t.entry b).committed ≡ 0 → (v.entry b).committed ≡ 0
  fewer b begins zero_committed =
      let within_limit = settled_most lists w x y pages settles buffers b in
      let now = agree.counts b in
      let then = before.counts b in
      let zero_long : length pages ≡ 0 = ap length none in
      omega (arith, within_limit, now, then, zero_long, zero_committed)
