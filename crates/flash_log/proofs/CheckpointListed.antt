-- The entries of the committed keys list the tree.
use Rattle.std.proofs.Common.{◌≡◌, ◌<◌, ◌≤◌, ◌+◌, ◌*◌, ℕ, true, false, List, length, get_or, slice_get, Some, refl, sym, ap, subst, ◌∙◌, arith, inl, inr}
use Rattle.std.specs.Prelude.{All, AllPairs, Contains}
use Rattle.std.proofs.lemmas.Option.{slice_get-get_or, slice_get_within, get_or_from_slice_get}
use Rattle.volume_terms.specs.laws.List.{at_mapped, mapped_at}
use Rattle.volume_terms.specs.Rounding.{ceiling}
use Rattle.nand_model.specs.Calls.{Device, Lasts}
use Rattle.nand_model.specs.declared.geometry.Geometry.{Geometry}
use Rattle.page_tags.specs.Checks.{IsCheckEntry, IsEntryBefore}
use Rattle.page_tags.specs.declared.check.CheckEntry.{CheckEntry}
use Rattle.flash_tree.specs.Checkpoints.{ListsTree, entry_of}
use Rattle.flash_tree.specs.Keeping.{StaysNewest}
use Rattle.flash_tree.specs.Mount.{sizes_of}
use Rattle.flash_tree.specs.Newest.{Spot, IsNewest, HasNewest}
use Rattle.flash_tree.specs.Numbering.{AreBelow}
use Rattle.flash_tree.specs.Tree.{InFootprint}
use Rattle.flash_tree.specs.laws.Checking.{lists_committed}
use Rattle.flash_tree.specs.laws.Place.{had_power}
use Rattle.block_state.specs.Committed.{committed_count}
use Rattle.block_state.specs.Table.{Table}
use Rattle.chunk_index.specs.declared.form.CommittedKey.{CommittedKey}
use Rattle.chunk_index.specs.declared.form.CommittedPage.{CommittedPage}
use Rattle.chunk_index.specs.declared.index.Index.{Index}
use Rattle.chunk_index.specs.Committed.{IsListOf, HasCommitted}
use Rattle.chunk_index.specs.Maps.{CommittedMap, committed_pages}
use Rattle.posix_profile.specs.State.{Objects}
use Rattle.transactions.specs.Checking.{log_of}
use Rattle.transactions.specs.Ready.{IsReady}
use Rattle.std.proofs.lemmas.Bool.{cases_Bool}
use Rattle.flash_log.specs.Passing.{Passes}
use Rattle.flash_log.specs.Consistency.{AreHeld, AreCommitted, IsConsistentLog}
use Rattle.flash_log.specs.Taking.{Takes}
use Rattle.flash_log.specs.laws.FreeBlocks.{newest_where_committed}
use Rattle.flash_log.specs.CheckpointDue.{IsDue, check_pages}
use Rattle.flash_log.specs.CheckpointKeeping.{IsExact, KeepsPages, ShowsExactly}
use Rattle.flash_log.specs.CheckpointListing.{committed_keys, check_entry, check_entries}
use Rattle.flash_log.specs.CheckpointSource.{CanList, index_entries}
use Rattle.flash_log.specs.CheckpointWriting.{ListCommitted, MayTake}
use Rattle.flash_log.specs.declared.checkpoint_source.Checks.{Checks}
use Rattle.flash_log.proofs.KeyLists.{lists_keys}
use Rattle.flash_log.proofs.CheckpointShown.{shows_still}

-- ---- entries and committed keys

module _ (m : CommittedMap) (ks : List CommittedKey) (list : IsListOf m ks) where
  -- an entry is of a committed key
  entry_at : (i : ℕ) (d : CheckEntry) → i < length (check_entries ks) → (k : CommittedKey) × (slice_get ks i ≡ Some k) × (check_entry k ≡ get_or (check_entries ks) i d)
  entry_at i d lt = at_mapped check_entry ks i (get_or (check_entries ks) i d) (slice_get-get_or (check_entries ks) i d lt)

  committed_by : (e : CheckEntry) → Contains (check_entries ks) e → (k : CommittedKey) × (m k.key.object k.key.chunk ≡ Some k.at) × (check_entry k ≡ e)
  committed_by e (i, lt, is) = let there = entry_at i e lt in (there.0, list.each i there.0 there.1, there.2 ∙ is)

  -- and each committed key has one
  listed : (o c : ℕ) (p : CommittedPage) → m o c ≡ Some p → Contains (check_entries ks) (check_entry (record { key = record { object = o; chunk = c }; at = p }))
  listed o c p is =
      let there = list.all o c p is in
      let e : CheckEntry = check_entry (record { key = record { object = o; chunk = c }; at = p }) in
      let at : slice_get (check_entries ks) there.0 ≡ Some e = mapped_at check_entry ks there.0 _ there.1 in
      (there.0, slice_get_within (check_entries ks) there.0 e at, get_or_from_slice_get (check_entries ks) there.0 e e at)

  entries_rise : AllPairs IsEntryBefore (check_entries ks)
  entries_rise i j d lt within =
      let one = entry_at i d (omega (arith, lt, within)) in
      let two = entry_at j d within in
      subst (λ e. IsEntryBefore e (get_or (check_entries ks) j d)) one.2 (subst (IsEntryBefore (check_entry one.0)) two.2 (list.rise i j one.0 two.0 lt one.1 two.1))

  each_entry : (P : CheckEntry → Type 0) → ((k : CommittedKey) → m k.key.object k.key.chunk ≡ Some k.at → P (check_entry k)) → All P (check_entries ks)
  each_entry P each i d lt = let there = entry_at i d lt in subst P there.2 (each there.0 (list.each i there.0 there.1))

-- ---- the committed keys of a log

module _ (spare : ℕ) (d : Device) (t : Table) (x : Index) (can_write : IsReady d t) (consistent : IsConsistentLog spare d t x) where
  abbrev keys : List CommittedKey
  keys = committed_keys (committed_pages x)

  -- their list is whole
  pub lists : IsListOf (committed_pages x) keys
  lists = lists_keys (committed_pages x) (λ o c p is. let name = (consistent.tables.within o c p is).name in (name.object.1, name.chunk))

  entries_valid : All IsCheckEntry (index_entries x)
  entries_valid = each_entry (committed_pages x) keys lists IsCheckEntry (λ k is.
      let may = consistent.tables.within k.key.object k.key.chunk k.at is in
      let limit = consistent.limits.0 in
      let sizes : t.geometry ≡ d.geometry = can_write.geometry in
      record {
        object = may.name.object.1;
        chunk = may.name.chunk;
        version = omega (arith, may.name.version.1, limit);
        block = omega (arith, may.block, t.geometry.most_blocks);
        page = omega (arith, may.page, t.geometry.most_pages);
      })

  -- as long as the blocks count
  pub can_list : (e : Device) (u : Table) (checks : Checks) → HasCommitted (committed_pages x) (committed_count t) → ((n k : ℕ) → HasCommitted (committed_pages x) n → HasCommitted (committed_pages x) k → n ≡ k) → Lasts d e → IsReady e u
      → IsDue spare t → checks.index.now ≡ x → checks.geometry ≡ e.geometry → checks.entries ≡ committed_count t → checks.pages ≡ check_pages t → CanList checks e.geometry u.next_group
  can_list e u checks totaled one lasts later due same geometry entries pages = record {
    geometry = geometry;
    lists = subst (λ (y : Index). IsListOf (committed_pages y) (committed_keys (committed_pages y))) (sym same) lists;
    entries = entries ∙ one (committed_count t) (length keys) totaled (keys, lists, refl) ∙ ap (λ (y : Index). length (committed_keys (committed_pages y))) (sym same);
    pages = pages ∙ ap (λ n. ceiling (32 * (1 + n)) t.geometry.bytes) (sym entries) ∙ ap (λ (g : Geometry). ceiling (32 * (1 + checks.entries)) g.bytes) sizes;
    within_limit = let most = due.pages in let pages_same : t.geometry.pages ≡ e.geometry.pages = ap (λ (g : Geometry). g.pages) sizes in omega (arith, pages, most, pages_same);
    number = later.numbers.0;
  } where
    sizes : t.geometry ≡ e.geometry
    sizes = can_write.geometry ∙ sym lasts.geometry

  -- ---- the tree

  module _ (honest : d.honest ≡ true) (power : d.gone ≡ false) (s : ℕ) (objects : Objects) (exact : ShowsExactly d.geometry d.flash (committed_pages x) s objects) where
    are_committed : AreCommitted d.flash (committed_pages x)
    are_committed = consistent.newest honest power

    abbrev lists_tree : ListsTree d.geometry d.flash (index_entries x)
    lists_tree = record {
      spare = s;
      objects = objects;
      volume = exact.volume;
      shows = exact.shows;
      all = λ o c foot.
          let is = exact.all o c foot in
          (check_entry (record { key = record { object = o; chunk = c }; at = is.0 }), listed (committed_pages x) keys lists o c is.0 is.1, refl, refl);
      only = λ e is.
          let by = committed_by (committed_pages x) keys lists e is in
          subst (λ (f : CheckEntry). InFootprint (sizes_of d.geometry s) (HasNewest d.flash) objects f.object f.chunk × ((p : Spot) × IsNewest d.flash f.object f.chunk p × (f ≡ entry_of p))) by.2
          (of_key by.0 by.1);
    } where
      of_key : (k : CommittedKey) → committed_pages x k.key.object k.key.chunk ≡ Some k.at
          → InFootprint (sizes_of d.geometry s) (HasNewest d.flash) objects k.key.object k.key.chunk × ((p : Spot) × IsNewest d.flash k.key.object k.key.chunk p × (check_entry k ≡ entry_of p))
      of_key k is =
          let at = are_committed k.key.object k.key.chunk k.at is in
          let place : Spot = record { block = k.at.block; page = k.at.page; tag = at.tag } in
          let entry : check_entry k ≡ entry_of place =
          λ i. record { object = sym at.newest.holds.object i; chunk = sym at.newest.holds.chunk i; version = sym at.version i; block = k.at.block; page = k.at.page } in
          (exact.only k.key.object k.key.chunk (k.at, is), (place, at.newest, entry))

    -- and after a step that keeps the pages
    module _ (held : AreHeld t x) (e : Device) (u : Table) (keeps : KeepsPages (log_of d t) (log_of e u)) where
      stays : (o c : ℕ) (p : Spot) → InFootprint (sizes_of d.geometry s) (HasNewest d.flash) objects o c → IsNewest d.flash o c p → StaysNewest d.flash e.flash o c p
      stays o c p foot newest =
          let is = exact.all o c foot in
          let there : p.block ≡ is.0.block = newest_where_committed d.flash o c is.0 p (are_committed o c is.0 is.1) newest in
          keeps.newest honest o c p (consistent.ordinary honest o c is.0 is.1) newest (subst (λ b. 1 ≤ (t.entry b).committed) (sym there) (held o c is.0 is.1))

      lists_later : ListsTree e.geometry e.flash (index_entries x)
      lists_later = subst (λ (g : Geometry). ListsTree g e.flash (index_entries x)) (sym keeps.lasts.geometry) (lists_committed d.geometry d.flash e.flash (index_entries x) lists_tree stays)

      -- the same tree is shown
      shows_later : ShowsExactly e.geometry e.flash (committed_pages x) s objects
      shows_later = subst (λ (g : Geometry). ShowsExactly g e.flash (committed_pages x) s objects) (sym keeps.lasts.geometry) (shows_still d.geometry d.flash e.flash (committed_pages x) s objects exact stays)

  pub shows_after : (held : AreHeld t x) (e : Device) (u : Table) → KeepsPages (log_of d t) (log_of e u) → d.honest ≡ true → (s : ℕ) (objects : Objects)
      → ShowsExactly d.geometry d.flash (committed_pages x) s objects → ShowsExactly e.geometry e.flash (committed_pages x) s objects
  shows_after held e u keeps honest s objects exact = elim (cases_Bool d.gone) [
    | inl gone ↦ subst (λ (f : Device). ShowsExactly f.geometry f.flash (committed_pages x) s objects) (sym (keeps.lasts.gone gone)) exact
    | inr power ↦ shows_later honest power s objects exact held e u keeps
  ]

  -- the entries list it, where the committed keys are those of the tree
  pub list_committed : (held : AreHeld t x) (exact : IsExact d x) (e : Device) (u : Table) → KeepsPages (log_of d t) (log_of e u) → e.gone ≡ false → ListCommitted x e
  list_committed held exact e u keeps power honest =
      let was : d.honest ≡ true = sym keeps.lasts.honest ∙ honest in
      let shown = exact was in
      lists_later was (had_power d e keeps.lasts power) shown.0 shown.1 shown.2 held e u keeps

  -- the block that was taken may take the checkpoint
  pub may_take : (held : AreHeld t x) (e : Device) (u : Table) (block : ℕ) → IsReady e u → Passes d e t u → KeepsPages (log_of d t) (log_of e u) → Takes block e t u → e.gone ≡ false → MayTake block x e u
  may_take held e u block later passes keeps takes power = record {
    open_block = takes.open_block;
    next = takes.next;
    uncommitted = passes.committed block ∙ takes.uncommitted;
    entries = entries_valid;
    rise = entries_rise (committed_pages x) keys lists;
    apart = λ f is at.
        let by = committed_by (committed_pages x) keys lists f is in
        let some = held by.0.key.object by.0.key.chunk by.0.at by.1 in
        let here : by.0.at.block ≡ block = ap (λ (g : CheckEntry). g.block) by.2 ∙ at in
        let none : (t.entry by.0.at.block).committed ≡ 0 = ap (λ b. (t.entry b).committed) here ∙ takes.uncommitted in
        omega (arith, some, none);
    ordinary = λ honest f is at.
        let by = committed_by (committed_pages x) keys lists f is in
        consistent.ordinary (was honest) by.0.key.object by.0.key.chunk by.0.at by.1 (ap (λ (g : CheckEntry). g.object) by.2 ∙ at);
    fresh = λ honest. subst (λ n. AreBelow e.flash n (u.entry block).seq) (sym passes.next_group) (subst (λ n. AreBelow e.flash t.next_group n) (sym takes.seq) (takes.below honest));
  } where
    was : e.honest ≡ true → d.honest ≡ true
    was honest = sym keeps.lasts.honest ∙ honest
