-- The newest pages after a group of the buffered pages.
use Rattle.std.proofs.Common.{◌≡◌, ◌≢◌, ◌<◌, ◌^◌, ℕ, ◌+◌, true, false, List, [], length, Result, Err, Some, None, refl, sym, ap, subst, ◌∙◌, arith, inl, inr}
use Rattle.std.specs.Option.{option_map, option_map_or}
use Rattle.std.proofs.lemmas.Bool.{cases_Bool, eq-eqb}
use Rattle.volume_terms.specs.laws.List.{slice_get_there}
use Rattle.nand_model.specs.Flash.{Flash}
use Rattle.nand_model.specs.Calls.{Device, Lasts}
use Rattle.nand_model.specs.Changes.{Grows}
use Rattle.nand_model.specs.declared.geometry.Geometry.{Geometry}
use Rattle.flash_tree.specs.FreeBlocks.{LeavesFree}
use Rattle.flash_tree.specs.Keeping.{KeepsNewest}
use Rattle.flash_tree.specs.Mount.{bad_blocks}
use Rattle.flash_tree.specs.Newest.{Spot, IsNewest, HasNewest}
use Rattle.flash_tree.specs.declared.place.FreshPage.{FreshPage}
use Rattle.flash_tree.specs.declared.place.Key.{Key}
use Rattle.block_state.specs.Counting.{how_many}
use Rattle.block_state.specs.Committed.{bad_count, free_count, committed_count}
use Rattle.block_state.specs.Table.{Table, is_bad, is_free, is_open}
use Rattle.block_state.specs.laws.Counting.{counts_same}
use Rattle.chunk_index.specs.declared.form.CommittedPage.{CommittedPage}
use Rattle.chunk_index.specs.declared.form.Present.{Present}
use Rattle.chunk_index.specs.declared.form.Present.TheVariants as presents
use Rattle.chunk_index.specs.declared.index.Index.{Index}
use Rattle.chunk_index.specs.Maps.{committed_pages, present}
use Rattle.page_store.specs.Buffering.{Buffers, key_at}
use Rattle.page_store.specs.laws.Buffering.{place_within}
use Rattle.page_store.specs.Shown.{data_of, data_at, data_by, data_in, present_data}
use Rattle.transactions.specs.Committing.{fresh_name, fresh_bytes, no_key}
use Rattle.transactions.specs.Groups.{AddsPages, GroupsAfter, closed, next_group}
use Rattle.transactions.specs.Handing.{HandsOut}
use Rattle.transactions.specs.Naming.{IsNamed, NamesOnce}
use Rattle.transactions.specs.Newest.{NewestAfter, ShowsGroup}
use Rattle.transactions.specs.Ready.{IsReady}
use Rattle.transactions.specs.Written.{tag_in}
use Rattle.transactions.specs.declared.group.GroupFault.{GroupFault}
use Rattle.transactions.specs.declared.group.Placed.{Placed}
use Rattle.transactions.specs.laws.Newest.{added_shows, commit_comes_last, newest_after}
use Rattle.transactions.specs.declared.group.GroupFault.TheVariants as group_faults
use Rattle.flash_log.specs.Consistency.{AreHeld, AreCommitted, HasFreeBlocks, IsCommittedKey, IsCommittedAt, KeepsFree, SameData, IsConsistentLog, TablesAgree}
use Rattle.flash_log.specs.laws.FreeBlocks.{leaves_uncommitted, newest_where_committed}
use Rattle.flash_tree.specs.laws.Place.{had_power}
use Rattle.flash_log.specs.laws.Keeping.{limits_ends}
use Rattle.flash_log.specs.Erased.{KeepsErased}
use Rattle.flash_log.specs.Passing.{KeepsFound}
use Rattle.flash_log.specs.laws.Found.{findable_still}
use Rattle.flash_log.specs.laws.Moves.{may_lie_later}
use Rattle.pages.specs.Stores.{Carries, HasPage}
use Rattle.transactions.specs.Checking.{log_of}
use Rattle.flash_log.specs.Steps.{Step}
use Rattle.flash_log.specs.laws.Steps.{moves_committed_none}
use Rattle.page_store.proofs.Following.{on_flash_committed, committed_reads}
use Rattle.page_store.proofs.Freeing.{free_is}

-- ---- a group that does not count

-- the tables agree, where the group's number is used and no block is open
pub tables_closed : (spare : ℕ) (t : Table) (x : Index) → TablesAgree spare t x → TablesAgree spare (closed t) x
tables_closed spare t x a = record {
  counts = record { counts = a.counts.counts; within = a.counts.within };
  within = λ o c p is. may_lie_later t (closed t) o c p refl (omega arith) (a.within o c p is);
  fits = a.fits;
  written = λ o is. let two : None ≡ Some o = is in absurd cc;
  uncommitted = a.uncommitted;
  apart = a.apart;
}

pub same_committed_pages : (x : Index) (f g : Flash) → KeepsNewest f g → SameData (committed_pages x) f g
same_committed_pages x f g keeps o c p xs is v =
    let s = keeps o c v.spot v.newest in
    record { spot = v.spot; newest = s.newest; version_is = v.version_is; stored = s.page ∙ v.stored }

pub committed_group : (x : Index) (f g : Flash) → KeepsNewest f g → AreCommitted f (committed_pages x) → AreCommitted g (committed_pages x)
committed_group x f g keeps committed o c p at =
    let k = committed o c p at in
    let spot : Spot = record { block = p.block; page = p.page; tag = k.tag } in
    record { tag = k.tag; newest = (keeps o c spot k.newest).newest; version = k.version }

-- blocks that were free of committed pages are it still
pub free_group : (spare : ℕ) (d e : Device) (t u : Table) (x : Index) → IsConsistentLog spare d t x → AreHeld t x → u ≡ closed t → Lasts d e → IsReady e u → (d.honest ≡ true → KeepsNewest d.flash e.flash) → KeepsFree spare d e x x
free_group spare d e t u x consistent held is lasts can_write newest honest free = elim (cases_Bool d.gone) [
  | inl gone ↦ subst (λ (z : Device). LeavesFree z.geometry z.flash spare (IsCommittedKey (committed_pages x))) (sym (lasts.gone gone)) free
  | inr power ↦ leaves_uncommitted spare e u x can_write (subst (λ (s : Table). TablesAgree spare s x) (sym is) (tables_closed spare t x consistent.tables))
      (subst (λ (s : Table). AreHeld s x) (sym is) held) (committed_group x d.flash e.flash (newest honest) (consistent.newest honest power))
]

pub keeps_group : (spare : ℕ) (d e : Device) (t u : Table) (x : Index) → IsConsistentLog spare d t x → AreHeld t x → t.next_group < 2 ^ 62 → u ≡ closed t → Lasts d e → IsReady e u → HandsOut d e t u
    → (d.honest ≡ true → KeepsNewest d.flash e.flash) → (d.honest ≡ true → KeepsFound t d e) → KeepsErased d e t u
    → Step spare (log_of d t) (log_of e u) x x
keeps_group spare d e t u x consistent held less is lasts can_write numbers newest found erased = record {
  lasts = lasts;
  can_write = can_write;
  consistent = record {
    tables = subst (λ (s : Table). TablesAgree spare s x) (sym is) (tables_closed spare t x consistent.tables);
    newest = λ honest power.
        let was : d.honest ≡ true = sym lasts.honest ∙ honest in
        committed_group x d.flash e.flash (newest was) (consistent.newest was (had_power d e lasts power));
    ordinary = λ honest. consistent.ordinary (sym lasts.honest ∙ honest);
    limits = limits_ends 0 t u (Err group_faults.Failed) is less consistent.limits;
  };
  numbers = numbers;
  geometry = ap (λ (s : Table). s.geometry) is;
  marks = λ b bad. ap (λ (s : Table). (s.entry b).bad) is ∙ bad;
  committed_count = ap committed_count is;
  index = moves_committed_none x;
  same_data = λ honest. same_committed_pages x d.flash e.flash (newest honest);
  free = free_group spare d e t u x consistent held is lasts can_write newest;
  findable = findable_still spare d e t x held lasts consistent found;
  erased = erased;
}

-- ---- its names

module _ (pages : List FreshPage) (number : ℕ) where
  -- page i of the group is of the key that page i of the buffer is of
  named_key : (o c i : ℕ) → i < length pages → IsNamed (fresh_name pages number) o c i → key_at pages i ≡ Some (record { object = o; chunk = c })
  named_key o c i lt named =
      let there = slice_get_there pages i lt in
      let key : (fresh_name pages number i).key ≡ there.0.key = ap (λ m. option_map_or (λ (p : FreshPage). p.key) m no_key) there.1 in
      let object : there.0.key.object ≡ o = sym (ap (λ (k : Key). k.object) key) ∙ named.object in
      let chunk : there.0.key.chunk ≡ c = sym (ap (λ (k : Key). k.chunk) key) ∙ named.chunk in
      let same : there.0.key ≡ record { object = o; chunk = c } = λ j. record { object = object j; chunk = chunk j } in
      ap (option_map (λ (p : FreshPage). p.key)) there.1 ∙ ap Some same

  key_named : (o c i : ℕ) → i < length pages → key_at pages i ≡ Some (record { object = o; chunk = c }) → IsNamed (fresh_name pages number) o c i
  key_named o c i lt is =
      let there = slice_get_there pages i lt in
      let key : (fresh_name pages number i).key ≡ there.0.key = ap (λ m. option_map_or (λ (p : FreshPage). p.key) m no_key) there.1 in
      let k : Key = record { object = o; chunk = c } in
      let both : Some there.0.key ≡ Some k = sym (ap (option_map (λ (p : FreshPage). p.key)) there.1) ∙ is in
      let same : there.0.key ≡ k = cc in
      record { object = ap (λ (z : Key). z.object) key ∙ ap (λ (z : Key). z.object) same; chunk = ap (λ (z : Key). z.chunk) key ∙ ap (λ (z : Key). z.chunk) same }

-- its data
bytes_is : (pages : List FreshPage) (i : ℕ) → i < length pages → data_in pages i ≡ Some (fresh_bytes pages i)
bytes_is pages i lt =
    let there = slice_get_there pages i lt in
    ap (option_map (λ (p : FreshPage). p.bytes.items)) there.1 ∙ sym (ap (λ m. Some (option_map_or (λ (p : FreshPage). p.bytes.items) m [])) there.1)

-- the newest pages, however the writing of the group ends
pub newest_written : (d e : Device) (t : Table) (pages : List FreshPage) (o : ℕ) → IsReady d t → d.honest ≡ true → Grows d.flash e.flash → (result : Result Placed GroupFault)
    → GroupsAfter (next_group t (length pages) o) (fresh_name pages t.next_group) (fresh_bytes pages) d.flash e.flash result
    → NewestAfter (next_group t (length pages) o) (fresh_name pages t.next_group) (fresh_bytes pages) d.flash e.flash result
newest_written d e t pages o can_write honest grows result groups =
    newest_after (next_group t (length pages) o) (fresh_name pages t.next_group) (fresh_bytes pages) d.flash e.flash grows
    (commit_comes_last (next_group t (length pages) o) (fresh_name pages t.next_group) d.flash (record { versions = λ i lt. refl; seq = t.next_seq; below = can_write.below honest }))
    result groups

-- once the group is added
pub shows_written : (d e : Device) (t : Table) (pages : List FreshPage) (o : ℕ) → IsReady d t → d.honest ≡ true → Grows d.flash e.flash
    → AddsPages (next_group t (length pages) o) (fresh_name pages t.next_group) (fresh_bytes pages) d.flash e.flash
    → ShowsGroup (next_group t (length pages) o) (fresh_name pages t.next_group) (fresh_bytes pages) d.flash e.flash
shows_written d e t pages o can_write honest grows =
    added_shows (next_group t (length pages) o) (fresh_name pages t.next_group) (fresh_bytes pages) d.flash e.flash grows
    (commit_comes_last (next_group t (length pages) o) (fresh_name pages t.next_group) d.flash (record { versions = λ i lt. refl; seq = t.next_seq; below = can_write.below honest }))

-- ---- a group that counts

module _ (t : Table) (x : Index) (pages : List FreshPage) (buffers : Buffers x pages) where
  -- it does not name a key that is not present in the buffer
  pub not_named : (q c : ℕ) → ((i : ℕ) → present x q c ≡ presents.InBuffer i → ⊥) → (i : ℕ) → i < length pages → IsNamed (fresh_name pages t.next_group) q c i → ⊥
  not_named q c out i lt named = out i (buffers.reported q c i (named_key pages t.next_group q c i lt named))

-- and once one that is present there
pub named_once : (t : Table) (x : Index) (pages : List FreshPage) (o : ℕ) → Buffers x pages → (q c i : ℕ) → present x q c ≡ presents.InBuffer i
    → NamesOnce (next_group t (length pages) o) (fresh_name pages t.next_group) q c i
named_once t x pages o buffers q c i is =
    let key = buffers.there q c i is in
    let lt : i < length pages = place_within pages i (record { object = q; chunk = c }) key in
    record {
      within = lt;
      named = key_named pages t.next_group q c i lt key;
      once = λ k l named. let two : presents.InBuffer k ≡ presents.InBuffer i = sym (buffers.reported q c k (named_key pages t.next_group q c k l named)) ∙ is in cc;
    }

module _ (t : Table) (x : Index) (pages : List FreshPage) (o : ℕ) (buffers : Buffers x pages) (f g : Flash)
    (shows : ShowsGroup (next_group t (length pages) o) (fresh_name pages t.next_group) (fresh_bytes pages) f g) where
  unnamed : (q c : ℕ) (k : CommittedPage) → present x q c ≡ presents.OnFlash k → (i : ℕ) → i < length pages → IsNamed (fresh_name pages t.next_group) q c i → ⊥
  unnamed q c k is = not_named t x pages buffers q c (λ i there. let two : presents.OnFlash k ≡ presents.InBuffer i = sym is ∙ there in cc)

  -- a page of the buffer is the newest of its key
  pub committed_buffered : (q c i : ℕ) → present x q c ≡ presents.InBuffer i → IsCommittedAt g q c (record { block = o; page = (t.entry o).next + i; version = t.next_group })
  committed_buffered q c i is =
      let there = shows.named q c i (named_once t x pages o buffers q c i is) in
      record { tag = tag_in (next_group t (length pages) o) (fresh_name pages t.next_group) i; newest = there.newest; version = refl }

  -- and reads
  pub reads_buffered : (i : ℕ) → i < length pages → data_at g (record { block = o; page = (t.entry o).next + i; version = t.next_group }) ≡ data_in pages i
  reads_buffered i lt =
      let there = slice_get_there pages i lt in
      let key : key_at pages i ≡ Some there.0.key = ap (option_map (λ (p : FreshPage). p.key)) there.1 in
      let is = buffers.reported there.0.key.object there.0.key.chunk i key in
      let with = shows.named there.0.key.object there.0.key.chunk i (named_once t x pages o buffers there.0.key.object there.0.key.chunk i is) in
      ap data_of with.stored ∙ sym (bytes_is pages i lt)

  module _ (committed : AreCommitted f (committed_pages x)) where
    -- a committed page that is present stays the newest, and its data stay
    pub committed_on_flash : (q c : ℕ) (k : CommittedPage) → present x q c ≡ presents.OnFlash k → IsCommittedAt g q c k
    committed_on_flash q c k is =
        let a = committed q c k (on_flash_committed x q c k is) in
        let s = shows.others q c (record { block = k.block; page = k.page; tag = a.tag }) (unnamed q c k is) a.newest in
        record { tag = a.tag; newest = s.newest; version = a.version }

    pub reads_on_flash : (q c : ℕ) (k : CommittedPage) → present x q c ≡ presents.OnFlash k → data_at g k ≡ data_at f k
    reads_on_flash q c k is =
        let a = committed q c k (on_flash_committed x q c k is) in
        let s = shows.others q c (record { block = k.block; page = k.page; tag = a.tag }) (unnamed q c k is) a.newest in
        ap data_of s.page

    -- the present pages are the newest of their keys
    pub carries_present : Carries g (present_data x pages f)
    carries_present q c xs is = go (present x q c) refl where
      carried : (k : CommittedPage) → IsCommittedAt g q c k → data_at g k ≡ Some xs → HasNewest g q c xs
      carried k at has =
          let reads = committed_reads g q c k at in
          let both : Some reads.0 ≡ Some xs = sym reads.1 ∙ has in
          let e : reads.0 ≡ xs = cc in
          subst (HasNewest g q c) e (record { spot = reads.2.spot; newest = reads.2.newest; stored = reads.2.stored })

      go : (r : Present) → present x q c ≡ r → HasNewest g q c xs
      go presents.Absent at = let two : None ≡ Some xs = sym (ap (data_by f pages) at) ∙ is in absurd cc
      go (presents.OnFlash k) at = carried k (committed_on_flash q c k at) (reads_on_flash q c k at ∙ sym (ap (data_by f pages) at) ∙ is)
      go (presents.InBuffer i) at =
          let key = buffers.there q c i at in
          let lt : i < length pages = place_within pages i (record { object = q; chunk = c }) key in
          carried (record { block = o; page = (t.entry o).next + i; version = t.next_group }) (committed_buffered q c i at) (reads_buffered i lt ∙ sym (ap (data_by f pages) at) ∙ is)

    -- and none of them lies in a free block of the table that was
    pub free_present : (spare : ℕ) (z : Geometry) → z ≡ t.geometry → ((b : ℕ) → g.bad b ≡ (t.entry b).bad) → t.open_block ≡ Some o → AreHeld t x → HasFreeBlocks t spare → LeavesFree z g spare (HasPage (present_data x pages f))
    free_present spare z size bad opened held free = record {
      free = is_free t;
      sufficient =
          let bads : bad_blocks z g ≡ bad_count t = ap (λ (y : Geometry). how_many g.bad y.blocks) size ∙ counts_same g.bad (is_bad t) t.geometry.blocks (λ b lt. bad b) in
          let many : how_many (is_free t) z.blocks ≡ free_count t = ap (λ (y : Geometry). how_many (is_free t) y.blocks) size in
          omega (arith, bads, many, free);
      each = λ b lt is. record { good = bad b ∙ (free_is t b is).0; apart = λ q c s (xs, has) newest. apart b is q c s xs has newest (present x q c) refl };
    } where
      not_open : (b : ℕ) → is_free t b ≡ true → o ≢ b
      not_open b is e =
          let shut : is_open t.open_block b ≡ false = (free_is t b is).2 in
          let two : true ≡ false = sym (ap (λ z. is_open z b) opened ∙ eq-eqb o b e) ∙ shut in
          absurd cc

      apart : (b : ℕ) → is_free t b ≡ true → (q c : ℕ) (s : Spot) (xs : List ℕ) → present_data x pages f q c ≡ Some xs → IsNewest g q c s → (r : Present) → present x q c ≡ r → s.block ≢ b
      apart b is q c s xs has newest presents.Absent at = let two : None ≡ Some xs = sym (ap (data_by f pages) at) ∙ has in absurd cc
      apart b is q c s xs has newest (presents.OnFlash k) at = λ here.
          let there : s.block ≡ k.block = newest_where_committed g q c k s (committed_on_flash q c k at) newest in
          let some = held q c k (on_flash_committed x q c k at) in
          let none = (free_is t b is).1 in
          let same : (t.entry k.block).committed ≡ (t.entry b).committed = ap (λ n. (t.entry n).committed) (sym there ∙ here) in
          omega (arith, some, none, same)
      apart b is q c s xs has newest (presents.InBuffer i) at = λ here.
          let there : s.block ≡ o = newest_where_committed g q c (record { block = o; page = (t.entry o).next + i; version = t.next_group }) s (committed_buffered q c i at) newest in
          not_open b is (sym there ∙ here)
