-- What the writing of the buffered pages leaves, however it ends.
use Rattle.std.proofs.Common.{refl, ◌≡◌, ◌⊎◌, ◌<◌, ◌≤◌, ◌^◌, ℕ, true, false, List, [], length, Some, Ok, Err, sym, ap, subst, ◌∙◌, inl, inr}
use Rattle.std.proofs.lemmas.Bool.{cases_Bool}
use Rattle.nand_model.specs.Calls.{Device, Lasts}
use Rattle.nand_model.specs.declared.geometry.Geometry.{Geometry}
use Rattle.flash_tree.specs.FreeBlocks.{LeavesFree}
use Rattle.flash_tree.specs.Keeping.{KeepsNewest}
use Rattle.flash_tree.specs.declared.place.FreshPage.{FreshPage}
use Rattle.block_state.specs.Counting.{how_many}
use Rattle.block_state.specs.laws.Counting.{counts_same}
use Rattle.block_state.specs.laws.Committed.{same_bad_count}
use Rattle.block_state.specs.Committed.{bad_count, SameCounts}
use Rattle.block_state.specs.Table.{Table, is_bad, room}
use Rattle.chunk_index.specs.declared.form.WrittenGroup.{WrittenGroup}
use Rattle.chunk_index.specs.declared.index.Index.{Index}
use Rattle.chunk_index.specs.Counts.{Recounts}
use Rattle.chunk_index.specs.Maps.{count_committed_in, committed_pages, CountsAgree, Settles}
use Rattle.page_store.specs.Buffering.{Buffers}
use Rattle.transactions.specs.Committing.{fresh_name, fresh_bytes}
use Rattle.transactions.specs.Groups.{AddsPages, GroupsAfter, OkTable, ReportsGroup, WritesOpen, closed, next_group}
use Rattle.transactions.specs.Handing.{HandsOut}
use Rattle.transactions.specs.Newest.{ShowsGroup}
use Rattle.transactions.specs.Ready.{IsReady}
use Rattle.transactions.specs.declared.group.GroupFault.TheVariants as group_faults
use Rattle.transactions.specs.declared.group.Placed.{Placed}
use Rattle.flash_log.specs.Erased.{KeepsErased}
use Rattle.flash_log.specs.Mountable.{IsMountable, KeepsMountable}
use Rattle.flash_log.specs.Passing.{KeepsFound}
use Rattle.flash_log.specs.Consistency.{AreFound, AreHeld, HasFreeBlocks, HasVersion, IsCommittedKey, IsConsistentLog, TablesAgree}
use Rattle.flash_log.specs.laws.Keeping.{same_ends, same_closed, limits_ends}
use Rattle.page_store.specs.Buffered.{BufferedLog}
use Rattle.pages.specs.Stores.{FindsAll}
use Rattle.page_store.specs.Carrying.{AreWritable, HaveRanges, StaysOrShows}
use Rattle.page_store.specs.Shown.{present_data}
use Rattle.transactions.specs.Checking.{log_of}
use Rattle.flash_log.specs.Steps.{Step}
use Rattle.page_store.specs.CommitKeeping.{Leaves}
use Rattle.page_store.specs.GroupWriting.{IsWhole, WasOpen}
use Rattle.page_store.proofs.GroupCounts.{ListsAreWhole, held_lists}
use Rattle.flash_log.specs.laws.Steps.{moves_committed_none}
use Rattle.page_store.proofs.Grouping.{carries_present, free_group, free_present, keeps_group, newest_written, same_committed_pages, shows_written, tables_closed}
use Rattle.page_store.proofs.Findable.{current_found, finds_present, found_short, mountable_short, mountable_whole}
use Rattle.page_store.proofs.Settling.{commits_whole, free_whole, open_after}

-- the counts agree still, where no count changes
pub agree_still : (t u : Table) (x : Index) → SameCounts t u → CountsAgree t x → CountsAgree u x
agree_still t u x same agree = record {
  counts = λ b. same.committed b ∙ agree.counts b;
  within = λ b le. agree.within b (subst (λ (g : Geometry). g.blocks ≤ b) same.geometry le);
}

-- and as many blocks are bad, also once they are recounted
pub bad_recounted : (t u v : Table) (before after : ℕ → ℕ) → SameCounts t u → Recounts before after u v → bad_count v ≡ bad_count t
bad_recounted t u v before after same counts =
    ap (λ (g : Geometry). how_many (is_bad v) g.blocks) counts.geometry ∙ counts_same (is_bad v) (is_bad u) u.geometry.blocks (λ b lt. counts.bad b) ∙ same_bad_count t u same

pub bad_closed : (t u : Table) → u ≡ closed t → bad_count u ≡ bad_count t
bad_closed t u is = same_bad_count t u (same_closed t u is)

-- the open block is good, and on the device
pub was_open : (o : ℕ) (d e : Device) (t v : Table) → IsReady d t → t.open_block ≡ Some o → Lasts d e → (v.entry o).bad ≡ (t.entry o).bad → WasOpen o (log_of d t) (log_of e v)
was_open o d e t v can_write is lasts same = record {
  within = subst (λ (g : Geometry). o < g.blocks) (sym lasts.geometry) (can_write.open_block o is).within;
  good = same ∙ can_write.marks o ∙ (can_write.open_block o is).good;
  was = is;
}

-- the group is not valid
pub keeps_written : (spare : ℕ) (d e : Device) (t u : Table) (x : Index) (xs : List FreshPage) (o : ℕ) → ListsAreWhole → IsConsistentLog spare d t x → t.next_group < 2 ^ 62 → u ≡ closed t → Lasts d e → IsReady e u
    → HandsOut d e t u → (d.honest ≡ true → KeepsNewest d.flash e.flash) → (d.honest ≡ true → KeepsFound t d e) → KeepsErased d e t u
    → Step spare (log_of d t) (log_of e u) x x
keeps_written spare d e t u x xs o lists consistent less is lasts then numbers newest found erased =
    keeps_group spare d e t u x consistent (held_lists lists t x consistent.tables.counts) less is lasts then numbers newest found erased

-- the device lost its power, and the group is valid or not
pub leaves_gone : (spare : ℕ) (d e : Device) (t u : Table) (x : Index) (pages : List FreshPage) (o : ℕ) → ListsAreWhole → IsConsistentLog spare d t x → HasFreeBlocks t spare → t.next_group < 2 ^ 62 → t.open_block ≡ Some o → Buffers x pages → AreWritable d pages → IsReady d t
    → u ≡ closed t → Lasts d e → IsReady e u → HandsOut d e t u → e.gone ≡ true → (d.honest ≡ true → WritesOpen t d.flash e.flash)
    → (d.honest ≡ true → GroupsAfter (next_group t (length pages) o) (fresh_name pages t.next_group) (fresh_bytes pages) d.flash e.flash (Err group_faults.Gone)) → (last : List FreshPage)
    → Leaves spare (record { log = log_of d t; index = x; pages = pages; last = last }) (record { log = log_of e u; index = x; pages = pages; last = last })
leaves_gone spare d e t u x pages o lists consistent free less opened buffers writable can_write is lasts then numbers gone writes groups last = record {
  log = record {
    lasts = lasts;
    can_write = then;
    consistent = record {
      tables = subst (λ (s : Table). TablesAgree spare s x) (sym is) (tables_closed spare t x consistent.tables);
      newest = λ honest power. let two : true ≡ false = sym gone ∙ power in absurd cc;
      ordinary = λ honest. consistent.ordinary (sym lasts.honest ∙ honest);
      limits = limits_ends (length pages) t u (Err group_faults.Gone) is less consistent.limits;
    };
    numbers = numbers;
    mountable = mountable_short d e t u x pages o can_write opened buffers writable lasts numbers writes group_faults.Gone groups is;
  };
  buffers = buffers;
  waits = inl (refl, moves_committed_none x);
  keys = λ o k is. is;
  newest = λ honest. newest honest (cases_Bool d.gone);
} where
  held : AreHeld t x
  held = held_lists lists t x consistent.tables.counts

  same : SameCounts t u
  same = same_closed t u is

  a : BufferedLog
  a = record { log = log_of d t; index = x; pages = pages; last = last }

  found : (honest : d.honest ≡ true) → IsMountable (log_of d t) x → AreFound e.geometry e.flash (committed_pages x)
  found honest was = found_short d e t x pages o can_write opened buffers writable lasts honest (writes honest) was.summaries was.found group_faults.Gone (groups honest)

  after : (honest : d.honest ≡ true) → d.gone ≡ false
      → GroupsAfter (next_group t (length pages) o) (fresh_name pages t.next_group) (fresh_bytes pages) d.flash e.flash (Err group_faults.Gone) → StaysOrShows spare a e
  after honest power (inl none) =
      let keeps : KeepsNewest d.flash e.flash = newest_written d e t pages o can_write honest (writes honest).grows (Err group_faults.Failed) none in
      inl (record { same_data = same_committed_pages x d.flash e.flash keeps; free = free_group spare d e t u x consistent held is lasts then (λ _. keeps) honest; found = found honest })
  after honest power (inr adds) =
      let shows = shows_written d e t pages o can_write honest (writes honest).grows adds in
      inr (record {
        carries = record {
          newest = carries_present t x pages o buffers d.flash e.flash shows (consistent.newest honest power);
          free = free_present t x pages o buffers d.flash e.flash shows (consistent.newest honest power) spare e.geometry (sym then.geometry ∙ same.geometry) (λ b. sym (then.marks b) ∙ same.bad b) opened held free;
        };
        found = λ was. finds_present d e t x pages o can_write opened buffers writable lasts honest (writes honest) was.summaries was.found adds;
      })

  newest : d.honest ≡ true → (d.gone ≡ true) ⊎ (d.gone ≡ false) → StaysOrShows spare a e
  newest honest (inl was) = inl (record {
    same_data = λ o c p xs at v. subst (λ (z : Device). HasVersion z.flash o c p.version xs) (sym (lasts.gone was)) v;
    free = λ before. subst (λ (z : Device). LeavesFree z.geometry z.flash spare (IsCommittedKey (committed_pages x))) (sym (lasts.gone was)) before;
    found = found honest;
  })
  newest honest (inr power) = after honest power (groups honest)

-- the group is valid
module _ (spare : ℕ) (lists : ListsAreWhole) (d e : Device) (t u v : Table) (x y : Index) (pages : List FreshPage) (o : ℕ) (placed : Placed)
    (buffers : Buffers x pages) (is : t.open_block ≡ Some o) (can_write : IsReady d t) (consistent : IsConsistentLog spare d t x) (free : HasFreeBlocks t spare)
    (writable : AreWritable d pages) (ranges : HaveRanges pages) (fit : length pages ≤ room t) (less : t.next_group < 2 ^ 62)
    (lasts : Lasts d e) (then : IsReady e u) (numbers : HandsOut d e t u) (writes : d.honest ≡ true → WritesOpen t d.flash e.flash) (table : OkTable placed.suspect (length pages) t u) (power : e.gone ≡ false)
    (reports : ReportsGroup (next_group t (length pages) o) placed)
    (groups : d.honest ≡ true → AddsPages (next_group t (length pages) o) (fresh_name pages t.next_group) (fresh_bytes pages) d.flash e.flash)
    (settles : Settles (record { block = placed.block; first = placed.first; number = placed.group }) x y) (agree : CountsAgree v y) (counts : Recounts (count_committed_in x) (count_committed_in y) u v) where
  same_group : record { block = placed.block; first = placed.first; number = placed.group } ≡ (let w : WrittenGroup = record { block = o; first = (t.entry o).next; number = t.next_group } in w)
  same_group = λ i. record { block = reports.block i; first = reports.first i; number = reports.group i }

  settles_there : Settles (record { block = o; first = (t.entry o).next; number = t.next_group }) x y
  settles_there = subst (λ (w : WrittenGroup). Settles w x y) same_group settles

  shows : d.honest ≡ true → ShowsGroup (next_group t (length pages) o) (fresh_name pages t.next_group) (fresh_bytes pages) d.flash e.flash
  shows honest = shows_written d e t pages o can_write honest (writes honest).grows (groups honest)

  found : d.honest ≡ true → IsMountable (log_of d t) x → FindsAll e (present_data x pages d.flash)
  found = current_found d e t u x pages o can_write is buffers writable lasts numbers writes placed groups

  pub mountable_written : KeepsMountable (log_of d t) (log_of e v) x y
  mountable_written = mountable_whole d e t u x pages o can_write is buffers writable lasts numbers writes placed groups lists v y
      (record { block = o; first = (t.entry o).next; number = t.next_group }) refl settles_there consistent.tables.counts agree counts table

  pub whole_written : (last rest written : List FreshPage) → rest ≡ [] → written ≡ pages
      → IsWhole spare (record { log = log_of d t; index = x; pages = pages; last = last }) (record { log = log_of e v; index = y; pages = rest; last = written })
  whole_written last rest written empty same = record {
    commits = commits_whole spare lists d e t u v x y pages o buffers is can_write consistent free writable ranges fit lasts then numbers (same_ends (length pages) t u (Ok placed) table)
        (open_after placed.suspect (length pages) o t u is table) (limits_ends (length pages) t u (Ok placed) table less) power shows settles_there agree counts found mountable_written last rest written;
    empty = empty;
    last = same;
    free = free_whole spare lists d e t u v x y pages o buffers is can_write consistent free writable ranges fit lasts then numbers (same_ends (length pages) t u (Ok placed) table)
        (open_after placed.suspect (length pages) o t u is table) (limits_ends (length pages) t u (Ok placed) table less) power shows settles_there agree counts;
    power = power;
  }
