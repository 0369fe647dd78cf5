-- The tables once the buffered pages count.
use Rattle.std.proofs.Common.{◌≡◌, ◌≢◌, ◌⊎◌, ◌<◌, ◌≤◌, ℕ, ◌+◌, ◌-◌, ◌^◌, Bool, true, false, List, [], length, Some, None, refl, sym, ap, subst, ◌∙◌, arith, inl, inr}
use Rattle.std.specs.Option.{option_map, option_map_or, option_and_then}
use Rattle.std.proofs.lemmas.Bool.{cases_eq, eq-eqb}
use Rattle.volume_terms.specs.laws.List.{slice_get_there}
use Rattle.nand_model.specs.Flash.{Flash}
use Rattle.nand_model.specs.Calls.{Device, Lasts}
use Rattle.nand_model.specs.declared.geometry.Geometry.{Geometry}
use Rattle.flash_tree.specs.declared.place.FreshPage.{FreshPage}
use Rattle.flash_tree.specs.declared.place.Key.{Key}
use Rattle.block_state.specs.declared.blocks.BlockEntry.{BlockEntry}
use Rattle.block_state.specs.Committed.{bad_count, SameCounts}
use Rattle.block_state.specs.Table.{Table, is_free, is_open, room}
use Rattle.chunk_index.specs.declared.form.CommittedPage.{CommittedPage}
use Rattle.chunk_index.specs.declared.form.Present.{Present}
use Rattle.chunk_index.specs.declared.form.Present.TheVariants as presents
use Rattle.chunk_index.specs.declared.form.WrittenGroup.{WrittenGroup}
use Rattle.chunk_index.specs.declared.index.Index.{Index}
use Rattle.chunk_index.specs.Counts.{Recounts}
use Rattle.chunk_index.specs.Entries.{written_page}
use Rattle.chunk_index.specs.Maps.{committed_pages, count_committed_in, present, once_written, CountsAgree, Settles}
use Rattle.page_store.specs.Buffering.{Buffers}
use Rattle.page_store.specs.laws.Buffering.{place_within, written_committed}
use Rattle.page_store.specs.Shown.{data_at, data_by, committed_data, present_data}
use Rattle.transactions.specs.Committing.{fresh_name, fresh_bytes}
use Rattle.transactions.specs.Groups.{OkTable, next_group}
use Rattle.transactions.specs.Handing.{HandsOut}
use Rattle.transactions.specs.laws.Handing.{hands_same}
use Rattle.transactions.specs.Newest.{ShowsGroup}
use Rattle.flash_tree.specs.Numbering.{AreBelow}
use Rattle.transactions.specs.Ready.{IsReady, IsWrittenInOrder}
use Rattle.flash_tree.specs.Slots.{check_object}
use Rattle.flash_tree.specs.laws.Truth.{none_after}
use Rattle.transactions.specs.laws.Ready.{none_waits}
use Rattle.flash_log.specs.Mountable.{IsMountable, KeepsMountable}
use Rattle.flash_log.specs.Consistency.{AreCommitted, KeepsOrdinary, HasFreeBlocks, IsCommittedAt, IsWithinLimits, MayLie, IsConsistentLog, TablesAgree}
use Rattle.flash_log.specs.laws.FreeBlocks.{leaves_fewer}
use Rattle.flash_tree.specs.laws.Place.{had_power}
use Rattle.flash_log.specs.laws.Moves.{may_lie_later}
use Rattle.page_store.specs.Carrying.{AreWritable, HaveRanges}
use Rattle.pages.specs.Stores.{FindsAll, HasPage, IsCarried}
use Rattle.page_store.specs.CommitKeeping.{Commits}
use Rattle.transactions.specs.Checking.{log_of}
use Rattle.page_store.proofs.GroupCounts.{ListsAreWhole, held_lists, settled_most, settled_elsewhere}
use Rattle.page_store.proofs.Following.{on_flash_committed}
use Rattle.page_store.proofs.Freeing.{bad_still, free_is, has_free, has_uncommitted}
use Rattle.page_store.proofs.Grouping.{committed_buffered, reads_buffered, committed_on_flash, reads_on_flash, carries_present, free_present}

-- the table is ready still, since only counts changed
pub ready_counted : (d : Device) (t u : Table) (before after : ℕ → ℕ) → Recounts before after t u → IsReady d t → IsReady d u
ready_counted d t u before after counts can_write = record {
  geometry = counts.geometry ∙ can_write.geometry;
  marks = λ b. counts.bad b ∙ can_write.marks b;
  open_block = λ o opened.
      let was = can_write.open_block o (sym counts.open_block ∙ opened) in
      let next = counts.next o in
      let seq = counts.seq o in
      let next_seq = counts.next_seq in
      record {
        within = was.within;
        good = was.good;
        next = was.next ∙ ap Some (sym next);
        pages = let pages = was.pages in omega (arith, next, pages);
        seq = (let one = was.seq.0 in omega (arith, seq, one), let last = was.seq.1 in omega (arith, seq, next_seq, last));
        in_order = λ honest.
            subst (λ n. IsWrittenInOrder d.flash o n (u.entry o).seq) (sym next)
            (subst (λ s. IsWrittenInOrder d.flash o (t.entry o).next s) (sym seq) (was.in_order honest));
      };
  waits = λ c is.
      let was = can_write.waits c (sym counts.checkpoint ∙ is) in
      record { within = was.within; good = was.good; closed = counts.open_block ∙ was.closed };
  numbers = (let group = counts.next_group in let one = can_write.numbers.0 in omega (arith, group, one), let seq = counts.next_seq in let one = can_write.numbers.1 in omega (arith, seq, one));
  below = λ honest. subst (λ n. AreBelow d.flash n u.next_seq) (sym counts.next_group) (subst (λ n. AreBelow d.flash t.next_group n) (sym counts.next_seq) (can_write.below honest));
}

-- no number past the limit is the next
limits_counted : (t u : Table) (before after : ℕ → ℕ) → Recounts before after t u → IsWithinLimits t → IsWithinLimits u
limits_counted t u before after counts (groups, seqs) = (let same = counts.next_group in omega (arith, same, groups), let same = counts.next_seq in omega (arith, same, seqs))

-- and as many numbers are handed out
pub hands_counted : (d e : Device) (t u v : Table) (before after : ℕ → ℕ) → Recounts before after u v → HandsOut d e t u → HandsOut d e t v
hands_counted d e t u v before after counts hands = hands_same d e t u v counts.next_group counts.next_seq counts.checkpoint hands

-- Tables where the index was settled: pages of the buffer may lie where the group says, its block has room for them, and
-- it was not free.
module _ (spare : ℕ) (lists : ListsAreWhole) (w : WrittenGroup) (t u v : Table) (x y : Index) (pages : List FreshPage) (settles : Settles w x y) (buffers : Buffers x pages)
    (agree : CountsAgree v y) (counts : Recounts (count_committed_in x) (count_committed_in y) u v) (same : SameCounts t u) (tables : TablesAgree spare t x) (free : HasFreeBlocks t spare) (rises : t.next_group ≤ u.next_group)
    (lies : (q c i : ℕ) → present x q c ≡ presents.InBuffer i → MayLie v q c (written_page w i))
    (fills : (t.entry w.block).committed + length pages ≤ t.geometry.pages)
    (opened : (b : ℕ) → u.open_block ≡ Some b → (t.entry b).committed + length pages ≤ (u.entry b).next)
    (not_free : is_free t w.block ≡ true → length pages ≡ 0)
    (shut : (u.open_block ≡ t.open_block) ⊎ (u.open_block ≡ None))
    (noted : (c : ℕ) → u.checkpoint ≡ Some c → (t.checkpoint ≡ Some c) × (length pages ≡ 0)) where
  most : (b : ℕ) → (v.entry b).committed ≤ (t.entry b).committed + length pages
  most b =
      let now = agree.counts b in
      let was = tables.counts.counts b in
      let within_limit = settled_most lists w x y pages settles buffers b in
      omega (arith, now, was, within_limit)

  elsewhere : (b : ℕ) → b ≢ w.block → (v.entry b).committed ≤ (t.entry b).committed
  elsewhere b ne =
      let now = agree.counts b in
      let was = tables.counts.counts b in
      let within_limit = settled_elsewhere lists w x y pages settles buffers b ne in
      omega (arith, now, was, within_limit)

  geometry : v.geometry ≡ t.geometry
  geometry = counts.geometry ∙ same.geometry

  less : (b : ℕ) → is_free t b ≡ true → (v.entry b).committed ≤ (t.entry b).committed
  less b is = elim (cases_eq b w.block) [
    | inr ne ↦ elsewhere b ne
    | inl e ↦
        let none : length pages ≡ 0 = not_free (sym (ap (is_free t) e) ∙ is) in
        let within_limit = most b in
        omega (arith, none, within_limit)
  ]

  marks : (b : ℕ) → (v.entry b).bad ≡ (t.entry b).bad
  marks b = counts.bad b ∙ same.bad b

  closes : (v.open_block ≡ t.open_block) ⊎ (v.open_block ≡ None)
  closes = elim shut [ inl still ↦ inl (counts.open_block ∙ still) | inr none ↦ inr (counts.open_block ∙ none) ]

  pub free_settled : HasFreeBlocks v spare
  free_settled = has_free t v geometry marks less closes spare free

  pub bad_settled : bad_count v ≡ bad_count t
  bad_settled = bad_still t v geometry marks less closes

  pub tables_settled : TablesAgree spare v y
  tables_settled = record {
    counts = agree;
    within = λ q c p is. within q c p is (present x q c) refl;
    fits = λ b. subst (λ (z : Geometry). (v.entry b).committed ≤ z.pages) (sym geometry) (fits b);
    written = λ o is.
        let within_limit = most o in
        let next = counts.next o in
        let fit = opened o (sym counts.open_block ∙ is) in
        omega (arith, within_limit, next, fit);
    uncommitted = has_uncommitted t v geometry marks less closes spare free;
    apart = λ c is.
        let was = noted c (sym counts.checkpoint ∙ is) in
        let within_limit = most c in
        let none = tables.apart c was.0 in
        omega (arith, within_limit, none, was.1);
  } where
    fits : (b : ℕ) → (v.entry b).committed ≤ t.geometry.pages
    fits b = elim (cases_eq b w.block) [
      | inr ne ↦ let within_limit = elsewhere b ne in let fit = tables.fits b in omega (arith, within_limit, fit)
      | inl e ↦ let within_limit = most b in let there : (t.entry b).committed ≡ (t.entry w.block).committed = ap (λ k. (t.entry k).committed) e in omega (arith, within_limit, there, fills)
    ]

    within : (q c : ℕ) (p : CommittedPage) → committed_pages y q c ≡ Some p → (r : Present) → present x q c ≡ r → MayLie v q c p
    within q c p is presents.Absent at = let two : None ≡ Some p = sym (settles.committed q c ∙ ap (once_written w) at) ∙ is in absurd cc
    within q c p is (presents.OnFlash k) at =
        let both : Some k ≡ Some p = sym (settles.committed q c ∙ ap (once_written w) at) ∙ is in
        let e : k ≡ p = cc in
        let group = counts.next_group in
        subst (MayLie v q c) e (may_lie_later t v q c k geometry (omega (arith, group, rises)) (tables.within q c k (on_flash_committed x q c k at)))
    within q c p is (presents.InBuffer i) at =
        let both : Some (written_page w i) ≡ Some p = sym (settles.committed q c ∙ ap (once_written w) at) ∙ is in
        let e : written_page w i ≡ p = cc in
        subst (MayLie v q c) e (lies q c i at)

-- the newest pages are committed, where those of the buffer are newest and all others that are present stay so
pub newest_settled : (w : WrittenGroup) (f : Flash) (x y : Index) → Settles w x y → ((q c i : ℕ) → present x q c ≡ presents.InBuffer i → IsCommittedAt f q c (written_page w i))
    → ((q c : ℕ) (k : CommittedPage) → present x q c ≡ presents.OnFlash k → IsCommittedAt f q c k) → AreCommitted f (committed_pages y)
newest_settled w f x y settles contents on_flash q c p is = go (present x q c) refl where
  go : (r : Present) → present x q c ≡ r → IsCommittedAt f q c p
  go presents.Absent at = let two : None ≡ Some p = sym (settles.committed q c ∙ ap (once_written w) at) ∙ is in absurd cc
  go (presents.OnFlash k) at =
      let both : Some k ≡ Some p = sym (settles.committed q c ∙ ap (once_written w) at) ∙ is in
      let e : k ≡ p = cc in
      subst (IsCommittedAt f q c) e (on_flash q c k at)
  go (presents.InBuffer i) at =
      let both : Some (written_page w i) ≡ Some p = sym (settles.committed q c ∙ ap (once_written w) at) ∙ is in
      let e : written_page w i ≡ p = cc in
      subst (IsCommittedAt f q c) e (contents q c i at)

-- no page is of the object of checkpoints, where none was and no page of the buffer is
pub ordinary_settled : (w : WrittenGroup) (x y : Index) → Settles w x y → ((q c i : ℕ) → present x q c ≡ presents.InBuffer i → q ≢ check_object) → KeepsOrdinary x → KeepsOrdinary y
ordinary_settled w x y settles contents committed q c p is = go (present x q c) refl where
  go : (r : Present) → present x q c ≡ r → q ≢ check_object
  go presents.Absent at = let two : None ≡ Some p = sym (settles.committed q c ∙ ap (once_written w) at) ∙ is in absurd cc
  go (presents.OnFlash k) at = committed q c k (on_flash_committed x q c k at)
  go (presents.InBuffer i) at = contents q c i at

-- ---- the table after a group that counts

-- the block stays open, with so many pages more written, or none is open
abbrev pub StaysOrCloses : (count o : ℕ) → Table → Table → Type 0
StaysOrCloses count o t u = ((u.open_block ≡ t.open_block) × ((u.entry o).next ≡ (t.entry o).next + count)) ⊎ (u.open_block ≡ None)

pub open_after : (suspect : Bool) (count o : ℕ) (t u : Table) → t.open_block ≡ Some o → OkTable suspect count t u → StaysOrCloses count o t u
open_after true count o t u is closes = inr (ap (λ (s : Table). s.open_block) closes)
open_after false count o t u is takes = inl (takes.open_block, ap (λ (e : BlockEntry). e.next) (takes.here o is))

-- ---- the group of the buffered pages counts, and the index is settled

module _ (spare : ℕ) (lists : ListsAreWhole) (d e : Device) (t u v : Table) (x y : Index) (pages : List FreshPage) (o : ℕ)
    (buffers : Buffers x pages) (is : t.open_block ≡ Some o) (can_write : IsReady d t) (consistent : IsConsistentLog spare d t x) (free : HasFreeBlocks t spare)
    (writable : AreWritable d pages) (ranges : HaveRanges pages) (fit : length pages ≤ room t)
    (lasts : Lasts d e) (then : IsReady e u) (numbers : HandsOut d e t u) (same : SameCounts t u) (after : StaysOrCloses (length pages) o t u) (limits : IsWithinLimits t → IsWithinLimits u) (power : e.gone ≡ false)
    (shows : d.honest ≡ true → ShowsGroup (next_group t (length pages) o) (fresh_name pages t.next_group) (fresh_bytes pages) d.flash e.flash)
    (settles : Settles (record { block = o; first = (t.entry o).next; number = t.next_group }) x y) (agree : CountsAgree v y) (counts : Recounts (count_committed_in x) (count_committed_in y) u v) where
  abbrev group : WrittenGroup
  group = record { block = o; first = (t.entry o).next; number = t.next_group }

  room_is : room t ≡ t.geometry.pages - (t.entry o).next
  room_is = ap (λ z. option_map_or (λ b. t.geometry.pages - (t.entry b).next) z 0) is

  pages_fit : (t.entry o).next + length pages ≤ t.geometry.pages
  pages_fit =
      let room = room_is in
      let next : (t.entry o).next ≤ t.geometry.pages = subst (λ (z : Geometry). (t.entry o).next ≤ z.pages) (sym can_write.geometry) (can_write.open_block o is).pages in
      omega (arith, room, fit, next)

  lies : (q c i : ℕ) → present x q c ≡ presents.InBuffer i → MayLie v q c (written_page group i)
  lies q c i at =
      let key = buffers.there q c i at in
      let k : Key = record { object = q; chunk = c } in
      let lt : i < length pages = place_within pages i k key in
      let there = slice_get_there pages i lt in
      let both : Some there.0.key ≡ Some k = sym (ap (option_map (λ (p : FreshPage). p.key)) there.1) ∙ key in
      let same_key : there.0.key ≡ k = cc in
      let range = ranges i there.0 there.1 in
      let first = (writable.numbered i there.0 there.1).0 in
      let rise = numbers.numbers.groups_rise in
      let rises = counts.next_group in
      let fits = pages_fit in
      record {
        block = subst (λ (z : Geometry). o < z.blocks) (sym (counts.geometry ∙ same.geometry ∙ can_write.geometry)) (can_write.open_block o is).within;
        page = subst (λ (z : Geometry). (t.entry o).next + i < z.pages) (sym (counts.geometry ∙ same.geometry)) (omega (arith, fits, lt));
        name = record {
          object = (subst (λ (z : Key). 1 ≤ z.object) same_key first, subst (λ (z : Key). z.object < 2 ^ 64) same_key range.object);
          chunk = subst (λ (z : Key). z.chunk < 2 ^ 64) same_key range.chunk;
          version = (can_write.numbers.0, omega (arith, rise, rises));
        };
      }

  fills : (t.entry o).committed + length pages ≤ t.geometry.pages
  fills = let within_limit = consistent.tables.written o is in let fits = pages_fit in omega (arith, within_limit, fits)

  opened : (b : ℕ) → u.open_block ≡ Some b → (t.entry b).committed + length pages ≤ (u.entry b).next
  opened b at = elim after [
    | inr none ↦ let two : None ≡ Some b = sym none ∙ at in absurd cc
    | inl (still, next) ↦
        let both : Some o ≡ Some b = sym is ∙ sym still ∙ at in
        let one : o ≡ b = cc in
        let within_limit = consistent.tables.written o is in
        let here : (t.entry o).committed + length pages ≤ (u.entry o).next = omega (arith, within_limit, next) in
        subst (λ k. (t.entry k).committed + length pages ≤ (u.entry k).next) one here
  ]

  not_free : is_free t o ≡ true → length pages ≡ 0
  not_free at =
      let shut : is_open t.open_block o ≡ false = (free_is t o at).2 in
      let two : true ≡ false = sym (ap (λ z. is_open z o) is ∙ eq-eqb o o refl) ∙ shut in
      absurd cc

  shut : (u.open_block ≡ t.open_block) ⊎ (u.open_block ≡ None)
  shut = elim after [ inl (still, next) ↦ inl still | inr none ↦ inr none ]

  -- a block was open, so none may have a checkpoint
  noted_none : (c : ℕ) → u.checkpoint ≡ Some c → (t.checkpoint ≡ Some c) × (length pages ≡ 0)
  noted_none c at = let two : None ≡ Some c = sym (none_after d e t.checkpoint u.checkpoint numbers.truth (none_waits d t o can_write is)) ∙ at in absurd cc

  buffered_ordinary : d.honest ≡ true → (q c i : ℕ) → present x q c ≡ presents.InBuffer i → q ≢ check_object
  buffered_ordinary honest q c i at same =
      let key = buffers.there q c i at in
      let k : Key = record { object = q; chunk = c } in
      let there = slice_get_there pages i (place_within pages i k key) in
      let both : Some there.0.key ≡ Some k = sym (ap (option_map (λ (p : FreshPage). p.key)) there.1) ∙ key in
      let same_key : there.0.key ≡ k = cc in
      (writable.numbered i there.0 there.1).1 honest (ap (λ (z : Key). z.object) same_key ∙ same)

  pub free_whole : HasFreeBlocks v spare
  free_whole = free_settled spare lists group t u v x y pages settles buffers agree counts same consistent.tables free numbers.numbers.groups_rise lies fills opened not_free shut noted_none

  pub commits_whole : (found : d.honest ≡ true → IsMountable (log_of d t) x → FindsAll e (present_data x pages d.flash)) → KeepsMountable (log_of d t) (log_of e v) x y → (last rest written : List FreshPage)
      → Commits spare (record { log = log_of d t; index = x; pages = pages; last = last }) (record { log = log_of e v; index = y; pages = rest; last = written })
  commits_whole found mountable last rest written = record {
    log = record {
      lasts = lasts;
      can_write = ready_counted e u v (count_committed_in x) (count_committed_in y) counts then;
      consistent = record {
        tables = tables_settled spare lists group t u v x y pages settles buffers agree counts same consistent.tables free numbers.numbers.groups_rise lies fills opened not_free shut noted_none;
        newest = λ honest on.
            let was : d.honest ≡ true = sym lasts.honest ∙ honest in
            newest_settled group e.flash x y settles (committed_buffered t x pages o buffers d.flash e.flash (shows was)) (committed_on_flash t x pages o buffers d.flash e.flash (shows was) (committed was));
        ordinary = λ honest. ordinary_settled group x y settles (buffered_ordinary (sym lasts.honest ∙ honest)) (consistent.ordinary (sym lasts.honest ∙ honest));
        limits = limits_counted u v (count_committed_in x) (count_committed_in y) counts (limits consistent.limits);
      };
      numbers = hands_counted d e t u v (count_committed_in x) (count_committed_in y) counts numbers;
      mountable = mountable;
    };
    settled = settles.presents;
    keys = settles.has_room;
    committed = λ honest on. written_committed group x y pages d.flash e.flash settles buffers (reads_buffered t x pages o buffers d.flash e.flash (shows honest)) (reads_on_flash t x pages o buffers d.flash e.flash (shows honest) (committed honest));
    newest = λ honest. record {
      carries = record {
        newest = carries_present t x pages o buffers d.flash e.flash (shows honest) (committed honest);
        free = free_present t x pages o buffers d.flash e.flash (shows honest) (committed honest) spare e.geometry (sym then.geometry ∙ same.geometry) (λ b. sym (then.marks b) ∙ same.bad b) is
            (held_lists lists t x consistent.tables.counts) free;
      };
      found = found honest;
    };
  } where
    committed : d.honest ≡ true → AreCommitted d.flash (committed_pages x)
    committed honest = consistent.newest honest (had_power d e lasts power)

-- ---- nothing is buffered

module _ (spare : ℕ) (lists : ListsAreWhole) (w : WrittenGroup) (d : Device) (t v : Table) (x y : Index) (pages : List FreshPage) (none : pages ≡ [])
    (buffers : Buffers x pages) (can_write : IsReady d t) (consistent : IsConsistentLog spare d t x) (free : HasFreeBlocks t spare)
    (settles : Settles w x y) (agree : CountsAgree v y) (counts : Recounts (count_committed_in x) (count_committed_in y) t v) where
  no_page : length pages ≡ 0
  no_page = ap length none

  not_there : (q c i : ℕ) → present x q c ≡ presents.InBuffer i → ⊥
  not_there q c i at =
      let lt : i < length pages = place_within pages i (record { object = q; chunk = c }) (buffers.there q c i at) in
      let zero_long = no_page in
      omega (arith, lt, zero_long)

  here : SameCounts t t
  here = record { bad = λ b. refl; committed = λ b. refl; geometry = refl }

  full : (t.entry w.block).committed + length pages ≤ t.geometry.pages
  full = let fit = consistent.tables.fits w.block in let zero_long = no_page in omega (arith, fit, zero_long)

  written_is : (b : ℕ) → t.open_block ≡ Some b → (t.entry b).committed + length pages ≤ (t.entry b).next
  written_is b at = let fit = consistent.tables.written b at in let zero_long = no_page in omega (arith, fit, zero_long)

  pub free_empty : HasFreeBlocks v spare
  free_empty = free_settled spare lists w t t v x y pages settles buffers agree counts here consistent.tables free (omega arith) (λ q c i at. absurd (not_there q c i at)) full written_is (λ _. no_page) (inl refl) (λ c at. (at, no_page))

  pub bad_empty : bad_count v ≡ bad_count t
  bad_empty = bad_settled spare lists w t t v x y pages settles buffers agree counts here consistent.tables free (omega arith) (λ q c i at. absurd (not_there q c i at)) full written_is (λ _. no_page) (inl refl) (λ c at. (at, no_page))

  pub consistent_empty : IsConsistentLog spare d v y
  consistent_empty = record {
    tables = tables_settled spare lists w t t v x y pages settles buffers agree counts here consistent.tables free (omega arith) (λ q c i at. absurd (not_there q c i at)) full written_is (λ _. no_page) (inl refl) (λ c at. (at, no_page));
    newest = λ honest power. newest_settled w d.flash x y settles (λ q c i at. absurd (not_there q c i at)) (λ q c k at. consistent.newest honest power q c k (on_flash_committed x q c k at));
    ordinary = λ honest. ordinary_settled w x y settles (λ q c i at. absurd (not_there q c i at)) (consistent.ordinary honest);
    limits = limits_counted t v (count_committed_in x) (count_committed_in y) counts consistent.limits;
  }

  -- what is present is what is committed of it
  shown_was_committed : (q c : ℕ) (xs : List ℕ) → present_data x pages d.flash q c ≡ Some xs → committed_data x d.flash q c ≡ Some xs
  shown_was_committed q c xs is = go (present x q c) refl where
    go : (r : Present) → present x q c ≡ r → committed_data x d.flash q c ≡ Some xs
    go presents.Absent at = let two : None ≡ Some xs = sym (ap (data_by d.flash pages) at) ∙ is in absurd cc
    go (presents.OnFlash k) at = ap (option_and_then (data_at d.flash)) (on_flash_committed x q c k at) ∙ sym (ap (data_by d.flash pages) at) ∙ is
    go (presents.InBuffer i) at = absurd (not_there q c i at)

  pub carries_empty : IsCarried d spare (committed_data x d.flash) → IsCarried d spare (present_data x pages d.flash)
  carries_empty was = record {
    newest = λ q c xs is. was.newest q c xs (shown_was_committed q c xs is);
    free = λ left. leaves_fewer d.geometry d.flash spare (HasPage (committed_data x d.flash)) (HasPage (present_data x pages d.flash)) (λ q c (xs, is). (xs, shown_was_committed q c xs is)) (was.free left);
  }

  pub committed_empty : (q c : ℕ) → committed_data y d.flash q c ≡ present_data x pages d.flash q c
  committed_empty = written_committed w x y pages d.flash d.flash settles buffers (λ i lt. let zero_long = no_page in absurd (omega (arith, lt, zero_long))) (λ q c k at. refl)

-- with nothing buffered a page that is committed was committed there
pub was_committed_before : (w : WrittenGroup) (x y : Index) (pages : List FreshPage) → pages ≡ [] → Buffers x pages → Settles w x y → (q c : ℕ) (p : CommittedPage) → committed_pages y q c ≡ Some p → committed_pages x q c ≡ Some p
was_committed_before w x y pages none buffers settles q c p is = go (present x q c) refl
  where
    go : (r : Present) → present x q c ≡ r → committed_pages x q c ≡ Some p
    go presents.Absent at = let two : None ≡ Some p = sym (settles.committed q c ∙ ap (once_written w) at) ∙ is in absurd cc
    go (presents.OnFlash k) at = on_flash_committed x q c k at ∙ sym (settles.committed q c ∙ ap (once_written w) at) ∙ is
    go (presents.InBuffer i) at =
        let lt : i < length pages = place_within pages i _ (buffers.there q c i at) in
        let zero_long : length pages ≡ 0 = ap length none in
        absurd (omega (arith, lt, zero_long))
