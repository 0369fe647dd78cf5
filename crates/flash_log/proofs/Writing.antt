-- What the writing of copies does, and what it costs.
use Rattle.std.proofs.Common.{◌≡◌, ◌⊎◌, ◌<◌, ◌≤◌, ℕ, ◌+◌, ◌-◌, ◌*◌, Bool, true, false, if◌then◌else◌, List, length, Option, None, Some, Result, Ok, Err, refl, sym, ap, subst, ◌∙◌, arith, inl, inr}
use Rattle.std.proofs.Math.Nat.{mul-le-mul_left}
use Rattle.std.proofs.lemmas.Bool.{cases_eq}
use Rattle.std.proofs.lemmas.Result.{on_ok_weaker}
use Rattle.volume_terms.specs.Sizes.{number_end}
use Rattle.nand_model.specs.Calls.{Device, Lasts, Marks}
use Rattle.nand_model.specs.Changes.{Grows}
use Rattle.nand_model.specs.Counts.{Costs, ReadsFew}
use Rattle.nand_model.specs.declared.geometry.Geometry.{Geometry}
use Rattle.nand_model.specs.declared.nand.Gone.{Gone}
use Rattle.nand_model.specs.laws.Calls.{lasts_on}
use Rattle.flash_tree.specs.Keeping.{KeepsElsewhere, KeepsNewest}
use Rattle.flash_tree.specs.Groups.{NamesNot}
use Rattle.flash_tree.specs.Truth.{KeepsSummaries}
use Rattle.flash_tree.specs.laws.Summarizing.{tag_elsewhere}
use Rattle.block_state.specs.Committed.{bad_count}
use Rattle.block_state.specs.Table.{Table}
use Rattle.block_state.specs.declared.blocks.BlockEntry.{BlockEntry}
use Rattle.transactions.specs.Checking.{LogState, log_of}
use Rattle.flash_log.specs.CopySource.{copy_name, copy_bytes}
use Rattle.transactions.specs.Groups.{GroupsAfter, OkTable, TableEnds, ReportsGroup, WritesOpen, next_group, closed}
use Rattle.transactions.specs.Handing.{HandsOut}
use Rattle.transactions.specs.Marking.{NotesMark}
use Rattle.transactions.specs.Naming.{BeginsOther, NamesOnce}
use Rattle.transactions.specs.Newest.{NewestAfter, ShowsGroup}
use Rattle.chunk_index.specs.declared.form.PagePlace.{PagePlace}
use Rattle.transactions.specs.Ready.{IsReady}
use Rattle.transactions.specs.Written.{tag_in}
use Rattle.transactions.specs.laws.Handing.{hands_on}
use Rattle.transactions.specs.laws.Newest.{copies_come_last, newest_after}
use Rattle.chunk_index.specs.declared.form.CommittedKey.{CommittedKey}
use Rattle.transactions.specs.declared.group.Placed.{Placed}
use Rattle.transactions.specs.declared.group.GroupFault.{GroupFault}
use Rattle.transactions.specs.declared.group.GroupFault.TheVariants as groups
use Rattle.flash_log.specs.Bills.{PaysOneBlock, PaysWriting}
use Rattle.flash_log.specs.Copying.{IsClear, IsFresh, MayBeCopied, KeepsCommittedAt, KeepsDataAt, AreWritten, StayOrLieApart, NewestAfterCopies, CopiesPages, CopiesEnd, OpenAfter, left_open, most_changes, most_written}
use Rattle.flash_log.specs.Passing.{KeepsFound, Passes}
use Rattle.flash_log.specs.Taking.{Takes, CostsATake}
use Rattle.flash_log.specs.declared.copying.Copied.{Copied}
use Rattle.flash_log.specs.declared.copying.Copied.TheVariants as ends
use Rattle.flash_log.specs.declared.copying.Target.{Target}
use Rattle.flash_log.specs.declared.fault.MoveFault.{MoveFault}
use Rattle.flash_log.specs.laws.Costs.{costs_taken, each_more}
use Rattle.flash_log.specs.laws.Keeping.{keeps_passes, keeps_same, limits_ends, same_closed, same_ends}
use Rattle.flash_log.proofs.Passing.{passes_marked}
use Rattle.flash_log.specs.laws.CommittedPages.{committed_where, data_where}
use Rattle.flash_log.specs.laws.Erased.{erased_as, erased_marked, erased_on, erased_pages, erased_written, leaves_closed}
use Rattle.flash_log.specs.laws.Found.{found_after, found_as, found_copied}
use Rattle.flash_log.proofs.CommittedPages.{is_of_copies, are_copied, data_copied, key_is, listed_or_not, names_once, numbered_copies}

module _ (copies : List CommittedKey) (w : ℕ) (d0 d1 : Device) (t : Table) (fresh : IsClear w d0 t) (may : MayBeCopied d0 t copies) (honest : d0.honest ≡ true) (grows : Grows d0.flash d1.flash) where
  abbrev to : PagePlace
  to = record { block = w; page = (t.entry w).next }

  after : (r : Result Placed GroupFault) → GroupsAfter (next_group t (length copies) w) (copy_name copies) (copy_bytes copies d0.flash) d0.flash d1.flash r
      → NewestAfter (next_group t (length copies) w) (copy_name copies) (copy_bytes copies d0.flash) d0.flash d1.flash r
  after r groups = newest_after (next_group t (length copies) w) (copy_name copies) (copy_bytes copies d0.flash) d0.flash d1.flash grows
      (copies_come_last (next_group t (length copies) w) (copy_name copies) d0.flash
      (is_of_copies copies may.once (next_group t (length copies) w) refl d0.flash (may.newest honest fresh.power) (may.ordinary honest) (fresh.older honest))) r groups

  shown : ShowsGroup (next_group t (length copies) w) (copy_name copies) (copy_bytes copies d0.flash) d0.flash d1.flash → KeepsDataAt t d0.flash d1.flash
  shown shows = data_copied copies may.once (next_group t (length copies) w) refl d0.flash (may.newest honest fresh.power) d1.flash t to refl refl shows

  same : KeepsNewest d0.flash d1.flash → KeepsDataAt t d0.flash d1.flash
  same keeps = data_where d0.flash d1.flash t (λ o c s newest some. keeps o c s newest)

  data_by : (r : Result Placed GroupFault) → NewestAfter (next_group t (length copies) w) (copy_name copies) (copy_bytes copies d0.flash) d0.flash d1.flash r → KeepsDataAt t d0.flash d1.flash
  data_by (Ok placed) shows = shown shows
  data_by (Err groups.NoRoom) keeps = same keeps
  data_by (Err groups.Failed) keeps = same keeps
  data_by (Err groups.Lost) keeps = same keeps
  data_by (Err groups.Gone) (inl keeps) = same keeps
  data_by (Err groups.Gone) (inr shows) = shown shows

  -- however the writing of copies ends, what is committed keeps its data
  pub data_written : (r : Result Placed GroupFault) → GroupsAfter (next_group t (length copies) w) (copy_name copies) (copy_bytes copies d0.flash) d0.flash d1.flash r → KeepsDataAt t d0.flash d1.flash
  data_written r groups = data_by r (after r groups)

  -- and where it is done they are copied
  pub copies_written : (placed : Placed) → GroupsAfter (next_group t (length copies) w) (copy_name copies) (copy_bytes copies d0.flash) d0.flash d1.flash (Ok placed) → AreWritten to copies t d0.flash d1.flash
  copies_written placed groups = record {
    made = are_copied copies may.once (next_group t (length copies) w) refl d0.flash (may.newest honest fresh.power) d1.flash t to refl refl (after (Ok placed) groups);
    numbered = λ i x s at newest.
        let number : t.next_group ≡ s.tag.group = numbered_copies copies may.once (next_group t (length copies) w) refl d0.flash (may.newest honest fresh.power) d1.flash t to refl refl (after (Ok placed) groups) i x s at newest in
        omega (arith, number);
  }

  apart_by : IsReady d0 t → d1.flash.bad ≡ d0.flash.bad → (r : Result Placed GroupFault)
      → NewestAfter (next_group t (length copies) w) (copy_name copies) (copy_bytes copies d0.flash) d0.flash d1.flash r → StayOrLieApart copies t d0.flash d1
  apart_by can_write bad = by where
    stay : KeepsNewest d0.flash d1.flash → StayOrLieApart copies t d0.flash d1
    stay keeps = inl (committed_where d0.flash d1.flash t (λ o c s newest some. keeps o c s newest))

    lie : ShowsGroup (next_group t (length copies) w) (copy_name copies) (copy_bytes copies d0.flash) d0.flash d1.flash → StayOrLieApart copies t d0.flash d1
    lie shows = inr (record {
      at = to;
      within = fresh.within;
      uncommitted = fresh.uncommitted;
      good = ap (λ (f : ℕ → Bool). f w) bad ∙ sym (can_write.marks w) ∙ fresh.good;
      copied = are_copied copies may.once (next_group t (length copies) w) refl d0.flash (may.newest honest fresh.power) d1.flash t to refl refl shows;
    })

    by : (r : Result Placed GroupFault) → NewestAfter (next_group t (length copies) w) (copy_name copies) (copy_bytes copies d0.flash) d0.flash d1.flash r → StayOrLieApart copies t d0.flash d1
    by (Ok placed) shows = lie shows
    by (Err groups.NoRoom) keeps = stay keeps
    by (Err groups.Failed) keeps = stay keeps
    by (Err groups.Lost) keeps = stay keeps
    by (Err groups.Gone) (inl keeps) = stay keeps
    by (Err groups.Gone) (inr shows) = lie shows

  -- however it ends, what is committed stays where it is, or the copies lie in the block that was fresh
  pub apart_written : IsReady d0 t → d1.flash.bad ≡ d0.flash.bad → (r : Result Placed GroupFault)
      → GroupsAfter (next_group t (length copies) w) (copy_name copies) (copy_bytes copies d0.flash) d0.flash d1.flash r → StayOrLieApart copies t d0.flash d1
  apart_written can_write bad r groups = apart_by can_write bad r (after r groups)

  pub keeps_failed : GroupsAfter (next_group t (length copies) w) (copy_name copies) (copy_bytes copies d0.flash) d0.flash d1.flash (Err groups.Failed) → KeepsNewest d0.flash d1.flash
  keeps_failed totaled = after (Err groups.Failed) totaled

-- what was findable by summaries is so still
module _ (copies : List CommittedKey) (w : ℕ) (d0 d1 : Device) (t : Table) (fresh : IsClear w d0 t) (may : MayBeCopied d0 t copies) (honest : d0.honest ≡ true) (can_write : IsReady d0 t)
    (geometry : d1.geometry ≡ d0.geometry) (writes : WritesOpen t d0.flash d1.flash) (summaries : KeepsSummaries d0 d1) where
  begins_other : 1 ≤ length copies → BeginsOther (copy_name copies 0)
  begins_other some object chunk = may.ordinary honest 0 some object

  each_key : (o c : ℕ) → NamesNot (next_group t (length copies) w) (tag_in (next_group t (length copies) w) (copy_name copies)) o c
      ⊎ ((i : ℕ) × NamesOnce (next_group t (length copies) w) (copy_name copies) o c i)
  each_key o c = elim (listed_or_not copies o c) [
    | inl (i, x, at, is) ↦ inr (i, names_once copies may.once (next_group t (length copies) w) refl o c i x at is)
    | inr none ↦ inl (λ i lt object chunk.
        let its = key_is copies may.once (next_group t (length copies) w) refl o c i lt (record { object = object; chunk = chunk }) in
        none i its.0 its.1 its.2)
  ]

  pub found_written : (r : Result Placed GroupFault) → GroupsAfter (next_group t (length copies) w) (copy_name copies) (copy_bytes copies d0.flash) d0.flash d1.flash r → KeepsFound t d0 d1
  found_written = found_after t d0 d1 w (length copies) (copy_name copies) (copy_bytes copies d0.flash) can_write fresh.open_block honest geometry writes summaries
      (λ adds. found_copied t d0 d1 w (length copies) (copy_name copies) (copy_bytes copies d0.flash) can_write fresh.open_block honest geometry writes summaries begins_other adds
      (is_of_copies copies may.once (next_group t (length copies) w) refl d0.flash (may.newest honest fresh.power) (may.ordinary honest) (fresh.older honest)) each_key)

-- the block of copies that failed is passed over
pub passes_failed : (copies : List CommittedKey) (w : ℕ) (d0 d1 d2 : Device) (t t1 t2 : Table) (result : Result (Unit {0}) Gone) → IsClear w d0 t → MayBeCopied d0 t copies
    → IsReady d0 t → HandsOut d0 d1 t t1 → Lasts d0 d1 → d1.failures ≡ d0.failures + 1 → (d0.honest ≡ true → WritesOpen t d0.flash d1.flash)
    → (d0.honest ≡ true → GroupsAfter (next_group t (length copies) w) (copy_name copies) (copy_bytes copies d0.flash) d0.flash d1.flash (Err groups.Failed))
    → t1 ≡ closed t → Marks w d1 d2 result → (d1.honest ≡ true → KeepsElsewhere w d1.flash d2.flash) → NotesMark w d2.flash t1 t2 → Passes d0 d2 (closed t) t2
passes_failed copies w d0 d1 d2 t t1 t2 result fresh may can_write numbers lasts failed writes totaled is marks marked notes =
    passes_marked w d0 d1 d2 (closed t) t2 result fresh.within fresh.good fresh.uncommitted lasts (omega (arith, failed))
    (λ honest o c s newest apart. keeps_failed copies w d0 d1 t fresh may honest (writes honest).grows (totaled honest) o c s newest)
    (λ honest k l u some has. tag_elsewhere w t.next_group (t.entry w).seq d0.flash d1.flash ((writes honest).within w fresh.open_block) k l u
    (λ here. let none : (t.entry k).committed ≡ 0 = ap (λ n. (t.entry n).committed) here ∙ fresh.uncommitted in absurd (omega (arith, none, some))) has)
    (λ honest. found_as t (closed t) d0 d1 (λ k. refl) (found_written copies w d0 d1 t fresh may honest can_write lasts.geometry (writes honest) (numbers.truth.summaries honest) (Err groups.Failed) (totaled honest)))
    marks marked (subst (λ (x : Table). NotesMark w d2.flash x t2) is notes)
    (erased_on d0 d1 d2 (closed t) (closed t) t2 lasts.honest
    (erased_pages d0 d1 t w (length copies) (copy_name copies) (copy_bytes copies d0.flash) can_write fresh.open_block lasts writes (closed t))
    (erased_marked w d1 d2 (closed t) t2 result (λ bad. let two : true ≡ false = sym bad ∙ fresh.good in absurd cc) marks (subst (λ (x : Table). NotesMark w d2.flash x t2) is notes)))

-- a block that was taken is fresh
pub fresh_taken : (w : ℕ) (d0 d1 : Device) (t u : Table) → Passes d0 d1 t u → IsReady d1 u → Takes w d1 t u → d1.gone ≡ false → IsFresh w d1 u
fresh_taken w d0 d1 t u passes can_write takes power = record {
  within = subst (λ (g : Geometry). w < g.blocks) (sym passes.geometry) takes.within;
  open_block = takes.open_block;
  good = can_write.marks w ∙ (can_write.open_block w takes.open_block).good;
  uncommitted = passes.committed w ∙ takes.uncommitted;
  next = takes.next;
  older = λ honest o c s ordinary holds.
      let below = takes.below honest s.block s.page s.tag (ap (λ b. d1.flash.bad b) holds.block ∙ holds.whole.good) holds.has in
      let seq = takes.seq in
      omega (arith, below.2, seq);
  power = power;
}

-- and clear
pub clear_fresh : (w : ℕ) (d : Device) (t : Table) → IsFresh w d t → IsClear w d t
clear_fresh w d t fresh = record { within = fresh.within; open_block = fresh.open_block; good = fresh.good; uncommitted = fresh.uncommitted; older = fresh.older; power = fresh.power }

-- ---- one attempt

module _ (copies : List CommittedKey) (w : ℕ) (d0 d1 : Device) (t t1 : Table) (fresh : IsClear w d0 t) (may : MayBeCopied d0 t copies) (less : t.next_group < number_end)
    (lasts : Lasts d0 d1) (numbers : HandsOut d0 d1 t t1) where
  -- where no block was marked
  pub pages_written : (r : Result Placed GroupFault) (result : Result Copied MoveFault) → IsReady d0 t → IsReady d1 t1 → TableEnds (length copies) t t1 r → d1.flash.bad ≡ d0.flash.bad
      → (d0.honest ≡ true → WritesOpen t d0.flash d1.flash)
      → (d0.honest ≡ true → GroupsAfter (next_group t (length copies) w) (copy_name copies) (copy_bytes copies d0.flash) d0.flash d1.flash r)
      → (d0.honest ≡ true → d1.gone ≡ false → NewestAfterCopies copies t d0.flash d1.flash result) → CopiesPages copies (log_of d0 t) (log_of d1 t1) result
  pages_written r result before can_write ends bad writes groups newest = record {
    keeps = keeps_same d0 d1 t t1 (same_ends (length copies) t t1 r ends) lasts can_write numbers (limits_ends (length copies) t t1 r ends less)
        (erased_written d0 d1 t w (length copies) (copy_name copies) (copy_bytes copies d0.flash) before fresh.open_block lasts writes t1 r groups ends);
    stored = λ honest. data_written copies w d0 d1 t fresh may honest (writes honest).grows r (groups honest);
    newest = newest;
    apart = λ honest. apart_written copies w d0 d1 t fresh may honest (writes honest).grows before bad r (groups honest);
    found = λ honest. found_written copies w d0 d1 t fresh may honest before lasts.geometry (writes honest) (numbers.truth.summaries honest) r (groups honest);
  }

  -- and where the block was marked, or was to be
  pub pages_failed : (d2 : Device) (t2 : Table) (result : Result Copied MoveFault) → Passes d0 d2 (closed t) t2 → Lasts d1 d2 → HandsOut d1 d2 t1 t2 → IsReady d2 t2
      → (KeepsCommittedAt t d0.flash d2.flash → NewestAfterCopies copies t d0.flash d2.flash result) → CopiesPages copies (log_of d0 t) (log_of d2 t2) result
  pages_failed d2 t2 result passes marks after can_write newest = record {
    keeps = keeps_passes d0 d2 t (closed t) t2 (same_closed t (closed t) refl) (lasts_on d0 d1 d2 lasts marks) can_write (hands_on d0 d1 d2 t t1 t2 lasts marks numbers after)
        (limits_ends (length copies) t (closed t) (Err groups.Failed) refl less) (erased_as d0 t (closed t) (leaves_closed d0.flash t (closed t) refl refl refl refl)) passes;
    stored = λ honest. data_where d0.flash d2.flash (closed t) (passes.newest honest);
    newest = λ honest power. newest (committed_where d0.flash d2.flash (closed t) (passes.newest honest));
    apart = λ honest. inl (committed_where d0.flash d2.flash (closed t) (passes.newest honest));
    found = λ honest. found_as (closed t) t d0 d2 (λ k. refl) (passes.found honest);
  }

-- copies that were made cost their programs, and a last page that was said to fail is a failure
pub pays_written : (count s : ℕ) (a b : LogState) (target : Target) → (if target.suspect then 1 else 0) ≡ s → bad_count b.table ≡ bad_count a.table → b.device.failures ≡ a.device.failures + s
    → b.device.changes ≡ a.device.changes + count → ReadsFew 0 a.device b.device → PaysWriting count a b (Ok (ends.Into target))
pays_written count s a b target is bad failed changes reads =
    let e : ℕ = a.device.geometry.pages + 1 in
    let all : e * b.device.failures ≡ e * (a.device.failures + (if target.suspect then 1 else 0)) = ap (λ n. e * n) (failed ∙ ap (λ n. a.device.failures + n) (sym is)) in
    record {
      costs = omega (arith, all, changes);
      marks = omega (arith, bad, failed, is);
      answers = omega (arith, bad, failed, is);
      reads = reads;
    }

-- where no block was marked a fault left at most as many
pub pays_ended : (count : ℕ) (a b : LogState) (fault : MoveFault) → bad_count b.table ≡ bad_count a.table → Lasts a.device b.device → b.device.changes ≤ a.device.changes + count
    → ReadsFew 1 a.device b.device → PaysWriting count a b (Err fault)
pays_ended count a b fault bad lasts changes reads =
    let e : ℕ = a.device.geometry.pages + 1 in
    let more : e * a.device.failures ≤ e * b.device.failures = mul-le-mul_left e lasts.failures in
    let none : e * (a.device.failures + 0) ≡ e * a.device.failures = omega arith in
    let failures = lasts.failures in
    record {
      costs = omega (arith, more, none, changes);
      marks = omega (arith, bad, failures);
      answers = tt;
      reads = reads;
    }

-- a mark is one change, and no read
pub reads_marked : (n : ℕ) (d0 d1 d2 : Device) → ReadsFew 0 d0 d1 → d2.reads ≡ d1.reads → d1.changes ≤ d2.changes → d2.failures ≡ d1.failures → ReadsFew n d0 d2
reads_marked n d0 d1 d2 reads same changes failures = omega (arith, reads, same, changes, failures)

pub changes_marked : (count : ℕ) (d0 d1 d2 : Device) → d2.changes ≤ d1.changes + 1 → d1.changes ≤ d0.changes + count → d2.changes ≤ d0.changes + count + 1
changes_marked count d0 d1 d2 one changes = omega (arith, one, changes)

module _ (count : ℕ) (a c : LogState) (within_limit : count ≤ a.device.geometry.pages) (failed : c.device.failures ≡ a.device.failures + 1) (changes : c.device.changes ≤ a.device.changes + count + 1) where
  -- a failure pays for the programs and the mark
  pub costs_failed : (n : ℕ) → Costs n (a.device.geometry.pages + 1) 0 a.device c.device
  costs_failed n =
      let all : (a.device.geometry.pages + 1) * c.device.failures ≡ (a.device.geometry.pages + 1) * a.device.failures + (a.device.geometry.pages + 1)
      = ap (λ k. (a.device.geometry.pages + 1) * k) failed ∙ omega arith in
      let none : (a.device.geometry.pages + 1) * (a.device.failures + 0) ≡ (a.device.geometry.pages + 1) * a.device.failures = omega arith in
      omega (arith, all, none, changes, within_limit)

  pub pays_marked : bad_count c.table ≡ bad_count a.table + 1 → ReadsFew 0 a.device c.device → PaysWriting count a c (Ok ends.Marked)
  pays_marked bad reads = record { costs = costs_failed 0; marks = omega (arith, bad, failed); answers = omega (arith, bad, failed); reads = reads }

  pub pays_cut : (fault : MoveFault) → bad_count c.table + a.device.failures ≤ bad_count a.table + c.device.failures → ReadsFew 1 a.device c.device → PaysWriting count a c (Err fault)
  pays_cut fault bad reads = record { costs = costs_failed count; marks = omega (arith, bad); answers = tt; reads = reads }

-- ---- a block that is taken before

module _ (pages m n u : ℕ) (a b c : Device) (lasts : Lasts a b) (take : CostsATake a b) (rises : b.failures + u ≤ c.failures) (within_limit : m + 1 + b.failures + u ≤ n + c.failures) where
  -- what is written costs the erase more, or its failure pays for that
  pub costs_once : Costs m (pages + 1) u b c → Costs n (pages + 2) u a c
  costs_once costs =
      let x : ℕ = c.failures - (b.failures + u) in
      let is : c.failures ≡ b.failures + u + x = omega (arith, rises) in
      let one : (pages + 1) * c.failures ≡ (pages + 1) * (b.failures + u) + (pages + 1) * x = ap (λ k. (pages + 1) * k) is ∙ omega arith in
      let two : (pages + 2) * c.failures ≡ (pages + 2) * b.failures + (pages + 2) * u + (pages + 1) * x + x = ap (λ k. (pages + 2) * k) is ∙ omega arith in
      let three : (pages + 2) * (a.failures + u) ≡ (pages + 2) * a.failures + (pages + 2) * u = omega arith in
      let more = each_more (pages + 2) a.failures b.failures (omega arith) lasts.failures in
      omega (arith, costs, take, more, one, two, three, is, within_limit)

-- the failures that were in the count are no fewer than those that are unanswered, and a block that was marked had one
counts_enough : (count spare : ℕ) (b c : LogState) (r : Result Copied MoveFault) → PaysWriting count b c r → CopiesEnd count spare c.device b.table c.table r → b.device.failures + left_open r ≤ c.device.failures
    → most_written count r + 1 + b.device.failures + left_open r ≤ most_changes count r + c.device.failures
counts_enough count spare b c (Ok (ends.Into target)) pays ends rises = omega (arith, rises)
counts_enough count spare b c (Ok ends.Marked) pays ends rises = let marks = pays.marks in omega (arith, marks, ends.1)
counts_enough count spare b c (Err fault) pays ends rises = omega (arith, rises)

-- the taking of a block and the writing of copies into it
pub pays_once : (count spare : ℕ) (a b c : LogState) (r : Result Copied MoveFault) → Lasts a.device b.device → CostsATake a.device b.device → b.device.reads ≡ a.device.reads
    → bad_count b.table + a.device.failures ≤ bad_count a.table + b.device.failures → bad_count a.table + b.device.failures ≤ bad_count b.table + a.device.failures
    → bad_count b.table ≤ bad_count c.table → CopiesEnd count spare c.device b.table c.table r → PaysWriting count b c r → PaysOneBlock count a c r
pays_once count spare a b c r lasts take same marked answered rises ends pays =
    let marks = pays.marks in
    let totaled : b.device.failures + left_open r ≤ c.device.failures = omega (arith, marks, rises) in
    let costs = subst (λ (g : Geometry). Costs (most_written count r) (g.pages + 1) (left_open r) b.device c.device) lasts.geometry pays.costs in
    let reads = pays.reads in
    let changes = lasts.changes in
    let failures = lasts.failures in
    record {
      costs = costs_once a.device.geometry.pages (most_written count r) (most_changes count r) (left_open r) a.device b.device c.device lasts take totaled (counts_enough count spare b c r pays ends totaled) costs;
      marks = omega (arith, marked, marks);
      answers = on_ok_weaker r (λ others. omega (arith, answered, others)) pays.answers;
      reads = omega (arith, same, reads, changes, failures);
    }

-- the same where none was taken
pub pays_untaken : (count : ℕ) (a b : LogState) (fault : MoveFault) → Lasts a.device b.device → CostsATake a.device b.device → b.device.reads ≡ a.device.reads
    → bad_count b.table + a.device.failures ≤ bad_count a.table + b.device.failures → PaysOneBlock count a b (Err fault)
pays_untaken count a b fault lasts take same marked =
    let changes = lasts.changes in
    let failures = lasts.failures in
    record {
      costs = costs_taken a.device.geometry.pages count a.device b.device lasts take;
      marks = omega (arith, marked);
      answers = tt;
      reads = omega (arith, same, changes, failures);
    }

-- ---- ends

-- the block is open still, with the pages less, or closed where the last page is suspect
pub open_after : (count w : ℕ) (placed : Placed) (t u : Table) → t.open_block ≡ Some w → ReportsGroup (next_group t count w) placed → TableEnds count t u (Ok placed) → OpenAfter placed.block (placed.first + count) placed.suspect u
open_after count w placed t u opened reported ends = go placed.suspect ends where
  go : (suspect : Bool) → OkTable suspect count t u → OpenAfter placed.block (placed.first + count) suspect u
  go true is = ap (λ (x : Table). x.open_block) is
  go false takes =
      let next : (u.entry placed.block).next ≡ (u.entry w).next = ap (λ k. (u.entry k).next) reported.block in
      (takes.open_block ∙ opened ∙ ap Some (sym reported.block), next ∙ ap (λ (x : BlockEntry). x.next) (takes.here w opened) ∙ ap (λ n. n + count) (sym reported.first))

-- what was written in a block before stays so
pub begun_still : (count w : ℕ) (t u : Table) (result : Result Placed GroupFault) → TableEnds count t u result → (t.entry w).next ≤ (u.entry w).next
begun_still count w t u (Ok placed) ends = go placed.suspect ends where
  go : (suspect : Bool) → OkTable suspect count t u → (t.entry w).next ≤ (u.entry w).next
  go true is = let same : (u.entry w).next ≡ (t.entry w).next = ap (λ (x : Table). (x.entry w).next) is in omega (arith, same)
  go false takes = taken t.open_block refl where
    taken : (o : Option ℕ) → t.open_block ≡ o → (t.entry w).next ≤ (u.entry w).next
    taken None none = let same : (u.entry w).next ≡ (t.entry w).next = ap (λ (x : BlockEntry). x.next) (takes.others w (λ at. let two : None ≡ Some w = sym none ∙ at in absurd cc)) in omega (arith, same)
    taken (Some o) some = elim (cases_eq w o) [
      | inl e ↦
          let here : (u.entry o).next ≡ (t.entry o).next + count = ap (λ (x : BlockEntry). x.next) (takes.here o some) in
          subst (λ k. (t.entry k).next ≤ (u.entry k).next) (sym e) (omega (arith, here))
      | inr ne ↦
          let same : (u.entry w).next ≡ (t.entry w).next = ap (λ (x : BlockEntry). x.next) (takes.others w (λ at. let two : Some o ≡ Some w = sym some ∙ at in let e : o ≡ w = cc in ne (sym e))) in
          omega (arith, same)
    ]
begun_still count w t u (Err groups.NoRoom) is = let same : (u.entry w).next ≡ (t.entry w).next = ap (λ (x : Table). (x.entry w).next) is in omega (arith, same)
begun_still count w t u (Err groups.Failed) is = let same : (u.entry w).next ≡ (t.entry w).next = ap (λ (x : Table). (x.entry w).next) is in omega (arith, same)
begun_still count w t u (Err groups.Lost) is = let same : (u.entry w).next ≡ (t.entry w).next = ap (λ (x : Table). (x.entry w).next) is in omega (arith, same)
begun_still count w t u (Err groups.Gone) is = let same : (u.entry w).next ≡ (t.entry w).next = ap (λ (x : Table). (x.entry w).next) is in omega (arith, same)

pub ends_on : (count spare : ℕ) (d : Device) (t u v : Table) (r : Result Copied MoveFault) → u.geometry ≡ t.geometry → ((b : ℕ) → (u.entry b).committed ≡ (t.entry b).committed) → bad_count t ≤ bad_count u
    → CopiesEnd count spare d u v r → CopiesEnd count spare d t v r
ends_on count spare d t u v (Ok (ends.Into target)) geometry committed rises (is, power) = (
  record {
    within = subst (λ (g : Geometry). target.block < g.blocks) geometry is.within;
    good = is.good;
    uncommitted = sym (committed target.block) ∙ is.uncommitted;
    fits = subst (λ (g : Geometry). target.first + count ≤ g.pages) geometry is.fits;
    begun = is.begun;
    open_block = is.open_block;
    checkpoint = is.checkpoint;
  },
  power,
)
ends_on count spare d t u v (Ok ends.Marked) geometry committed rises (closed, more, power) = (closed, omega (arith, rises, more), power)
ends_on count spare d t u v (Err fault) geometry committed rises why = why
