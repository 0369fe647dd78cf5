-- What holds after one call and then another.
use Rattle.std.proofs.Common.{◌≡◌, ◌⊎◌, ◌≤◌, ℕ, ◌+◌, ◌-◌, ◌*◌, true, false, List, [], length, Option, Some, None, Result, Ok, Err, refl, sym, ap, subst, ◌∙◌, inl, inr, arith}
use Rattle.std.specs.Option.{option_and_then}
use Rattle.std.proofs.lemmas.Bool.{cases_Bool}
use Rattle.nand_model.specs.Flash.{Flash}
use Rattle.nand_model.specs.Calls.{Device}
use Rattle.nand_model.specs.declared.geometry.Geometry.{Geometry}
use Rattle.nand_model.specs.laws.Calls.{lasts_on}
use Rattle.flash_tree.specs.FreeBlocks.{LeavesFree}
use Rattle.flash_tree.specs.declared.place.FreshPage.{FreshPage}
use Rattle.flash_tree.specs.laws.Place.{had_power}
use Rattle.block_state.specs.Committed.{bad_count, committed_count}
use Rattle.block_state.specs.Table.{Table}
use Rattle.chunk_index.specs.declared.form.CommittedPage.{CommittedPage}
use Rattle.chunk_index.specs.declared.form.Present.TheVariants as presents
use Rattle.chunk_index.specs.declared.index.Index.{Index}
use Rattle.chunk_index.specs.Entries.{as_committed}
use Rattle.chunk_index.specs.Maps.{committed_pages}
use Rattle.page_store.specs.Buffering.{Buffers, IsUnbuffered}
use Rattle.page_store.specs.Shown.{data_at, data_by, committed_data, present_data}
use Rattle.page_store.specs.laws.Buffering.{buffers_empty}
use Rattle.pages.specs.Maps.{PageMap}
use Rattle.pages.specs.Stores.{FindsAll, HasNumbersLeft, HasPage, IsCarried}
use Rattle.transactions.specs.Ready.{IsReady}
use Rattle.transactions.specs.laws.Handing.{hands_on}
use Rattle.flash_log.specs.Mountable.{IsMountable}
use Rattle.flash_log.specs.laws.Mountable.{mountable_step}
use Rattle.flash_log.specs.Consistency.{AreFound, AreCommitted, HasFreeBlocks, IsCommittedKey, IsWithinLimits, SameData, IsConsistentLog}
use Rattle.flash_log.specs.laws.FreeBlocks.{leaves_fewer}
use Rattle.flash_log.specs.Steps.{MovesCommitted, Step}
use Rattle.flash_log.specs.laws.Keeping.{bad_rises}
use Rattle.flash_log.specs.laws.Steps.{moves_committed_on, same_data_on, step_none, step_on}
use Rattle.flash_log.specs.RoomMaking.{LeavesRoom, WhyNoRoom}
use Rattle.flash_log.specs.declared.room_fault.RoomFault.{RoomFault}
use Rattle.flash_log.specs.declared.room_fault.RoomFault.TheVariants as faults
use Rattle.page_store.specs.Buffered.{BufferedLog, committed_map, current}
use Rattle.page_store.specs.Carrying.{CarriesEither, CarriesFree, KeepsOrShows, ShowsCurrent, StaysOrShows}
use Rattle.page_store.specs.Committing.{CommitEnds}
use Rattle.page_store.specs.CommitKeeping.{Commits, IsAnswered, IsSettled, KeepsLog, Leaves}
use Rattle.page_store.specs.GroupWriting.{AttemptEnds, IsWhole, IsWaiting, TurnEnds, WholeEnds}
use Rattle.page_store.specs.declared.turn.Turn.{Turn}
use Rattle.page_store.specs.declared.turn.Turn.TheVariants as turns
use Rattle.page_store.proofs.Findable.{finds_committed, finds_same, found_unmoved}
use Rattle.page_store.proofs.Following.{buffers_moved, presents_moved, carries_committed, committed_reads, same_committed, same_present}

-- ---- keys

-- committed keys that were moved are committed
pub committed_moved : (x y : Index) → MovesCommitted x y → (o c : ℕ) → IsCommittedKey (committed_pages x) o c → IsCommittedKey (committed_pages y) o c
committed_moved x y moves o c (p, is) = let m = moves.moved o c p is in (m.at, m.is)

leaves_as_committed : (spare : ℕ) (d : Device) (x y : Index) → MovesCommitted x y → LeavesFree d.geometry d.flash spare (IsCommittedKey (committed_pages y)) → LeavesFree d.geometry d.flash spare (IsCommittedKey (committed_pages x))
leaves_as_committed spare d x y moves leaves = leaves_fewer d.geometry d.flash spare (IsCommittedKey (committed_pages y)) (IsCommittedKey (committed_pages x)) (committed_moved x y moves) leaves

-- a key with the data of a committed page is committed
pub data_committed : (x : Index) (f : Flash) (o c : ℕ) → HasPage (committed_data x f) o c → IsCommittedKey (committed_pages x) o c
data_committed x f o c (xs, has) = go (committed_pages x o c) refl where
  go : (m : Option CommittedPage) → committed_pages x o c ≡ m → IsCommittedKey (committed_pages x) o c
  go None none = let two : None ≡ Some xs = sym (ap (option_and_then (data_at f)) none) ∙ has in absurd cc
  go (Some p) some = (p, some)

-- and a committed key has data, where its page is the newest
committed_has : (x : Index) (f : Flash) → AreCommitted f (committed_pages x) → (o c : ℕ) → IsCommittedKey (committed_pages x) o c → HasPage (committed_data x f) o c
committed_has x f committed o c (p, is) = let reads = committed_reads f o c p (committed o c p is) in (reads.0, ap (option_and_then (data_at f)) is ∙ reads.1)

-- the same map is carried as well
carries_same : (d : Device) (spare : ℕ) (m n : PageMap) → ((o c : ℕ) → m o c ≡ n o c) → CarriesFree d spare m → CarriesFree d spare n
carries_same d spare m n same carries = record {
  newest = λ o c xs is. carries.newest o c xs (same o c ∙ is);
  free = leaves_fewer d.geometry d.flash spare (HasPage m) (HasPage n) (λ o c (xs, is). (xs, same o c ∙ is)) carries.free;
}

-- numbers are left
numbers_left : (d : Device) (t : Table) → IsReady d t → IsWithinLimits t → d.honest ≡ true → HasNumbersLeft d.flash
numbers_left d t can_write (groups, seqs) honest b p tag good has =
    let below = can_write.below honest b p tag good has in
    let version = below.0 in
    let group = below.1 in
    let seq = below.2 in
    (omega (arith, version, groups), omega (arith, group, groups), omega (arith, seq, seqs))

-- ---- calls

-- the log after a step
log_committed : (spare : ℕ) (a b : BufferedLog) → Step spare a.log b.log a.index b.index → KeepsLog spare a b
log_committed spare a b step = record {
  lasts = step.lasts;
  can_write = step.can_write;
  consistent = step.consistent;
  numbers = step.numbers;
  mountable = mountable_step spare a.log b.log a.index b.index step;
}

-- and after a step behind another call
log_on : (spare : ℕ) (a b c : BufferedLog) → KeepsLog spare a b → KeepsLog spare b c → KeepsLog spare a c
log_on spare a b c first then = record {
  lasts = lasts_on a.log.device b.log.device c.log.device first.lasts then.lasts;
  can_write = then.can_write;
  consistent = then.consistent;
  numbers = hands_on a.log.device b.log.device c.log.device a.log.table b.log.table c.log.table first.lasts then.lasts first.numbers then.numbers;
  mountable = λ honest was. then.mountable (first.lasts.honest ∙ honest) (first.mountable honest was);
}

-- what was committed is found after a step
found_after_step : (spare : ℕ) (a b : BufferedLog) → Step spare a.log b.log a.index b.index → a.log.device.honest ≡ true → IsMountable a.log a.index → AreFound b.log.device.geometry b.log.device.flash (committed_pages a.index)
found_after_step spare a b step honest was = found_unmoved b.log.device a.index b.index step.index (mountable_step spare a.log b.log a.index b.index step honest was).found

-- no buffered page is valid
pub leaves_committed_pages : (spare : ℕ) (a b : BufferedLog) → Step spare a.log b.log a.index b.index → b.pages ≡ a.pages → Buffers b.index b.pages → Leaves spare a b
leaves_committed_pages spare a b step same buffers = record {
  log = log_committed spare a b step;
  buffers = buffers;
  waits = inl (same, step.index);
  keys = step.index.can_write;
  newest = λ honest. inl (record {
    same_data = step.same_data honest;
    free = λ free. leaves_as_committed spare b.log.device a.index b.index step.index (step.free honest free);
    found = found_after_step spare a b step honest;
  });
}

pub leaves_moved : (spare : ℕ) (a b : BufferedLog) → Step spare a.log b.log a.index b.index → b.pages ≡ a.pages → Buffers a.index a.pages → Leaves spare a b
leaves_moved spare a b step same buffers = leaves_committed_pages spare a b step same (subst (Buffers b.index) (sym same) (buffers_moved a.index b.index step.index a.pages buffers))

-- what is committed is not in the buffer
pub unbuffered : (y : Index) → IsSettled y → IsUnbuffered y
unbuffered y same o c i is = go (committed_pages y o c) (sym (same o c) ∙ is) where
  go : (m : Option CommittedPage) → as_committed m ≡ presents.InBuffer i → ⊥
  go None at = cc
  go (Some p) at = cc

-- the buffered pages are valid
pub leaves_committed : (spare : ℕ) (a b : BufferedLog) → Commits spare a b → b.pages ≡ [] → Leaves spare a b
leaves_committed spare a b commits empty = record {
  log = commits.log;
  buffers = buffers_empty b.index b.pages (unbuffered b.index commits.settled) empty;
  waits = inr (empty, commits.settled);
  keys = commits.keys;
  newest = λ honest. inr (commits.newest honest);
}

-- what was answered later was so from the beginning on
pub answered_after : (spare : ℕ) (a b c : BufferedLog) → Step spare a.log b.log a.index b.index → IsAnswered spare b c → IsAnswered spare a c
answered_after spare a b c first then = record { log = then.log; index = then.index; before = step_on spare a.log b.log then.log a.index b.index then.index first then.before; answered = then.answered }

-- what was answered since the call began
pub answered_here : (spare : ℕ) (a b : BufferedLog) → IsReady a.log.device a.log.table → IsConsistentLog spare a.log.device a.log.table a.index
    → (b.log.device.failures ≡ a.log.device.failures) ⊎ ((o : ℕ) × (a.log.table.open_block ≡ Some o) × ((b.log.table.entry o).bad ≡ true)) → IsAnswered spare a b
answered_here spare a b can_write consistent answered = record { log = a.log; index = a.index; before = step_none spare a.log.device a.log.table a.index can_write consistent; answered = answered }

-- A call after a step in which no buffered page was written.
module _ (spare : ℕ) (a b c : BufferedLog) (consistent : IsConsistentLog spare a.log.device a.log.table a.index) (first : Step spare a.log b.log a.index b.index) (same : b.pages ≡ a.pages) where
  was_committed : a.log.device.honest ≡ true → b.log.device.gone ≡ false → AreCommitted a.log.device.flash (committed_pages a.index)
  was_committed honest power = consistent.newest honest (had_power a.log.device b.log.device first.lasts power)

  now_committed : a.log.device.honest ≡ true → b.log.device.gone ≡ false → AreCommitted b.log.device.flash (committed_pages b.index)
  now_committed honest power = first.consistent.newest (first.lasts.honest ∙ honest) power

  same_current : a.log.device.honest ≡ true → b.log.device.gone ≡ false → (o k : ℕ) → current b o k ≡ current a o k
  same_current honest power o k =
      ap (λ (ps : List FreshPage). present_data b.index ps b.log.device.flash o k) same
      ∙ same_present a.index b.index a.log.device.flash b.log.device.flash first.index (was_committed honest power) (now_committed honest power) (first.same_data honest) a.pages o k

  mounts : a.log.device.honest ≡ true → IsMountable a.log a.index → IsMountable b.log b.index
  mounts = mountable_step spare a.log b.log a.index b.index first

  -- what was current is shown
  shows_current : a.log.device.honest ≡ true → b.log.device.gone ≡ false → ShowsCurrent spare b c.log.device → ShowsCurrent spare a c.log.device
  shows_current honest power shows = record {
    carries = carries_same c.log.device spare (current b) (current a) (same_current honest power) shows.carries;
    found = λ was. finds_same c.log.device (current b) (current a) (same_current honest power) (shows.found (mounts honest was));
  }

  pub leaves_on : Leaves spare b c → Leaves spare a c
  leaves_on then = record {
    log = log_on spare a b c (log_committed spare a b first) then.log;
    buffers = then.buffers;
    waits = elim then.waits [ inl (still, moves) ↦ inl (still ∙ same, moves_committed_on a.index b.index c.index first.index moves) | inr settled ↦ inr settled ];
    keys = λ o k is. then.keys o k (first.index.can_write o k is);
    newest = λ honest. newest honest (cases_Bool b.log.device.gone);
  } where
    powered : a.log.device.honest ≡ true → b.log.device.gone ≡ false → StaysOrShows spare b c.log.device → StaysOrShows spare a c.log.device
    powered honest power (inl stays) = inl (record {
      same_data = same_data_on a.index b.index a.log.device.flash b.log.device.flash c.log.device.flash first.index (first.same_data honest) stays.same_data;
      free = λ free. leaves_as_committed spare c.log.device a.index b.index first.index (stays.free (first.free honest free));
      found = λ was. found_unmoved c.log.device a.index b.index first.index (stays.found (mounts honest was));
    })
    powered honest power (inr shows) = inr (shows_current honest power shows)

    newest : a.log.device.honest ≡ true → (b.log.device.gone ≡ true) ⊎ (b.log.device.gone ≡ false) → StaysOrShows spare a c.log.device
    newest honest (inl gone) = inl (record {
      same_data = subst (λ (d : Device). SameData (committed_pages a.index) a.log.device.flash d.flash) (sym (then.log.lasts.gone gone)) (first.same_data honest);
      free = λ free. subst (λ (d : Device). LeavesFree d.geometry d.flash spare (IsCommittedKey (committed_pages a.index))) (sym (then.log.lasts.gone gone)) (leaves_as_committed spare b.log.device a.index b.index first.index (first.free honest free));
      found = λ was. subst (λ (d : Device). AreFound d.geometry d.flash (committed_pages a.index)) (sym (then.log.lasts.gone gone)) (found_after_step spare a b first honest was);
    })
    newest honest (inr power) = powered honest power (then.newest (first.lasts.honest ∙ honest))

  pub commits_after : c.log.device.gone ≡ false → Commits spare b c → Commits spare a c
  commits_after on then =
      let power : b.log.device.gone ≡ false = had_power b.log.device c.log.device then.log.lasts on in
      record {
        log = log_on spare a b c (log_committed spare a b first) then.log;
        settled = then.settled;
        keys = λ o k is. then.keys o k (first.index.can_write o k is);
        committed = λ honest still o k. then.committed (first.lasts.honest ∙ honest) still o k ∙ same_current honest power o k;
        newest = λ honest. shows_current honest power (then.newest (first.lasts.honest ∙ honest));
      }

  pub whole_after : IsWhole spare b c → IsWhole spare a c
  whole_after then = record { commits = commits_after then.power then.commits; empty = then.empty; last = then.last ∙ same; free = then.free; power = then.power }

  pub waiting_after : IsWaiting spare b c → IsWaiting spare a c
  waiting_after then = record { step = step_on spare a.log b.log c.log a.index b.index c.index first then.step; pages = then.pages ∙ same; power = then.power }

-- committed pages are moved once the buffered pages are valid
pub commits_then : (spare : ℕ) (a b c : BufferedLog) → Commits spare a b → Step spare b.log c.log b.index c.index → Commits spare a c
commits_then spare a b c first then = record {
  log = log_on spare a b c first.log (log_committed spare b c then);
  settled = presents_moved b.index c.index then.index first.settled;
  keys = λ o k is. then.index.can_write o k (first.keys o k is);
  committed = λ honest on o k.
      let mid : b.log.device.honest ≡ true = first.log.lasts.honest ∙ honest in
      let power : b.log.device.gone ≡ false = had_power b.log.device c.log.device then.lasts on in
      same_committed b.index c.index b.log.device.flash c.log.device.flash then.index (first.log.consistent.newest mid power) (then.consistent.newest (then.lasts.honest ∙ mid) on) (then.same_data mid) o k ∙ first.committed honest power o k;
  newest = λ honest. newest honest (cases_Bool b.log.device.gone);
} where
  newest : a.log.device.honest ≡ true → (b.log.device.gone ≡ true) ⊎ (b.log.device.gone ≡ false) → ShowsCurrent spare a c.log.device
  newest honest (inl gone) = subst (ShowsCurrent spare a) (sym (then.lasts.gone gone)) (first.newest honest)
  newest honest (inr power) =
      let mid : b.log.device.honest ≡ true = first.log.lasts.honest ∙ honest in
      let committed : AreCommitted b.log.device.flash (committed_pages b.index) = first.log.consistent.newest mid power in
      let same : (o k : ℕ) → committed_map b o k ≡ current a o k = first.committed honest power in
      let before = leaves_fewer b.log.device.geometry b.log.device.flash spare (HasPage (current a)) (IsCommittedKey (committed_pages b.index))
      (λ o k is. let has = committed_has b.index b.log.device.flash committed o k is in (has.0, sym (same o k) ∙ has.1)) (first.newest honest).carries.free in
      record {
        carries = record {
          newest = λ o k xs is. carries_committed b.index b.log.device.flash c.log.device.flash committed (then.same_data mid) o k xs (same o k ∙ is);
          free = leaves_fewer c.log.device.geometry c.log.device.flash spare (IsCommittedKey (committed_pages c.index)) (HasPage (current a))
              (λ o k (xs, is). committed_moved b.index c.index then.index o k (data_committed b.index b.log.device.flash o k (xs, same o k ∙ is))) (then.free mid before);
        };
        found = λ was. finds_same c.log.device (committed_map b) (current a) same (finds_committed c.log.device b.index b.log.device.flash (found_after_step spare b c then mid (first.log.mountable honest was)));
      }

pub whole_then : (spare : ℕ) (a b c : BufferedLog) → IsWhole spare a b → Step spare b.log c.log b.index c.index → c.pages ≡ b.pages → c.last ≡ b.last → HasFreeBlocks c.log.table spare → c.log.device.gone ≡ false → IsWhole spare a c
whole_then spare a b c first then same written free power = record { commits = commits_then spare a b c first.commits then; empty = same ∙ first.empty; last = written ∙ first.last; free = free; power = power }

pub waiting_then : (spare : ℕ) (a b c : BufferedLog) → IsWaiting spare a b → Step spare b.log c.log b.index c.index → c.pages ≡ b.pages → c.log.device.gone ≡ false → IsWaiting spare a c
waiting_then spare a b c first then same power = record { step = step_on spare a.log b.log c.log a.index b.index c.index first.step then; pages = same ∙ first.pages; power = power }

-- ---- room

-- what leaves room does so still, where as much is committed and no more blocks are bad than there are to spare
pub leaves_room : (t u : Table) (spare count : ℕ) → u.geometry ≡ t.geometry → committed_count u ≡ committed_count t → bad_count u ≤ spare → LeavesRoom t spare count → LeavesRoom u spare count
leaves_room t u spare count geometry committed within_limit (most, fits, has) = (
  most,
  subst (λ (g : Geometry). most + count ≤ g.pages) (sym geometry) fits,
  record {
    blocks = subst (λ (g : Geometry). spare + 2 ≤ g.blocks) (sym geometry) has.blocks;
    bad = within_limit;
    committed = subst (λ (g : Geometry). committed_count u ≤ (g.blocks - spare - 1) * most) (sym geometry) (subst (λ n. n ≤ (t.geometry.blocks - spare - 1) * most) (sym committed) has.committed);
  },
)

-- and so no room is made for the reason that none is made now
pub why_before : (count spare : ℕ) (d : Device) (t u v : Table) (fault : RoomFault) → u.geometry ≡ t.geometry → committed_count u ≡ committed_count t → bad_count u ≤ spare
    → WhyNoRoom count spare d u v fault → WhyNoRoom count spare d t v fault
why_before count spare d t u v faults.Full geometry committed within_limit why = λ leaves. why (leaves_room t u spare count geometry committed within_limit leaves)
why_before count spare d t u v faults.Worn geometry committed within_limit why = why
why_before count spare d t u v faults.Lost geometry committed within_limit why = why
why_before count spare d t u v faults.Gone geometry committed within_limit why = why

-- how a turn ends after a step that made room for it
pub turn_after : (spare : ℕ) (a b c : BufferedLog) (result : Result Turn RoomFault) → IsConsistentLog spare a.log.device a.log.table a.index → (first : Step spare a.log b.log a.index b.index) → b.pages ≡ a.pages
    → bad_count b.log.table ≤ spare → TurnEnds spare b c result → TurnEnds spare a c result
turn_after spare a b c (Ok turns.Written) consistent first same within_limit (whole, fits, answered) = (whole_after spare a b c consistent first same whole, fits, answered_after spare a b c first answered)
turn_after spare a b c (Ok turns.Again) consistent first same within_limit (waits, free, more, fits, long) =
    let rises : bad_count a.log.table ≤ bad_count b.log.table = bad_rises a.log.table b.log.table first.geometry first.marks in
    (waiting_after spare a b c consistent first same waits, free, omega (arith, rises, more), fits, subst (λ (ps : List FreshPage). length ps ≤ c.log.device.geometry.pages) same long)
turn_after spare a b c (Err fault) consistent first same within_limit why =
    why_before (length a.pages) spare c.log.device a.log.table b.log.table c.log.table fault first.geometry first.committed_count within_limit
    (subst (λ (ps : List FreshPage). WhyNoRoom (length ps) spare c.log.device b.log.table c.log.table fault) same why)

-- how the writing of the group ends short
pub attempt_err : (count spare : ℕ) (a b : BufferedLog) (fault : RoomFault) → AttemptEnds spare a b (Err fault) → WhyNoRoom count spare b.log.device a.log.table b.log.table fault
attempt_err count spare a b faults.Full ends = absurd ends
attempt_err count spare a b faults.Worn ends = absurd ends
attempt_err count spare a b faults.Lost ends = ends
attempt_err count spare a b faults.Gone ends = ends

-- ---- what is carried

carried : (d : Device) (spare : ℕ) (m : PageMap) → CarriesFree d spare m → IsCarried d spare m
carried d spare m carries = record { newest = carries.newest; free = λ _. carries.free }

-- the data of what was committed, or of what was current
pub keeps_or_shows : (spare : ℕ) (a : BufferedLog) (e : Device) → StaysOrShows spare a e → KeepsOrShows a e.flash
keeps_or_shows spare a e (inl stays) = inl stays.same_data
keeps_or_shows spare a e (inr shows) = inr shows.carries.newest

-- the committed pages are carried still, or the current ones are
pub carries_either : (spare : ℕ) (a b : BufferedLog) → IsReady a.log.device a.log.table → IsConsistentLog spare a.log.device a.log.table a.index → KeepsLog spare a b → a.log.device.honest ≡ true → StaysOrShows spare a b.log.device
    → CarriesEither spare a b.log.device
carries_either spare a b can_write consistent log honest (inr shows) was = inr (record { carried = carried b.log.device spare (current a) shows.carries; found = shows.found })
carries_either spare a b can_write consistent log honest (inl stays) was = elim (cases_Bool a.log.device.gone) [
  | inl gone ↦ inl (record { carried = subst (λ (z : Device). IsCarried z spare (committed_map a)) (sym (log.lasts.gone gone)) was; found = found })
  | inr power ↦
      let d : Device = a.log.device in
      let e : Device = b.log.device in
      let committed : AreCommitted d.flash (committed_pages a.index) = consistent.newest honest power in
      let before = leaves_fewer d.geometry d.flash spare (HasPage (committed_map a)) (IsCommittedKey (committed_pages a.index)) (committed_has a.index d.flash committed) (was.free (numbers_left d a.log.table can_write consistent.limits honest)) in
      inl (record {
        carried = record {
          newest = carries_committed a.index d.flash e.flash committed stays.same_data;
          free = λ _. leaves_fewer e.geometry e.flash spare (IsCommittedKey (committed_pages a.index)) (HasPage (committed_map a)) (data_committed a.index d.flash) (stays.free before);
        };
        found = found;
      })
] where
  found : IsMountable a.log a.index → FindsAll b.log.device (committed_map a)
  found mounts = finds_committed b.log.device a.index a.log.device.flash (stays.found mounts)

as_committed_shown : (f : Flash) (m : Option CommittedPage) (pages : List FreshPage) → data_by f pages (as_committed m) ≡ option_and_then (data_at f) m
as_committed_shown f None pages = refl
as_committed_shown f (Some p) pages = refl

-- what is current is what is committed, and has its data
pub shown_committed : (y : Index) (f : Flash) (rest : List FreshPage) → IsSettled y → (o c : ℕ) → present_data y rest f o c ≡ committed_data y f o c
shown_committed y f rest same o c = ap (data_by f rest) (same o c) ∙ as_committed_shown f (committed_pages y o c) rest

-- the buffered pages were written, and nothing else is to be done
pub whole_committed : (spare : ℕ) (a b : BufferedLog) (result : Result (Unit {0}) RoomFault) → WholeEnds spare a b result → CommitEnds spare a b result
whole_committed spare a b (Err fault) why = why
whole_committed spare a b (Ok done) (whole, within_limit, answered) = record {
  unbuffered = unbuffered b.index whole.commits.settled;
  empty = whole.empty;
  last = whole.last;
  committed = λ honest. whole.commits.committed honest whole.power;
  present = λ honest o c. shown_committed b.index b.log.device.flash b.pages whole.commits.settled o c ∙ whole.commits.committed honest whole.power o c;
  newest = λ honest _. carried b.log.device spare (current a) (whole.commits.newest honest).carries;
  within_limit = within_limit;
  free = whole.free;
  power = λ _. whole.power;
  answered = λ _. answered;
}
