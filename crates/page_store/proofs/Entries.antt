-- The tables of the entries of a checkpoint.
use Rattle.std.specs.Prelude.{◌≡◌, ◌<◌, ◌^◌, ℕ, ◌+◌, Bool, true, false, ◌&&◌, List, map, Option, Some, None, slice_get, AllPairs, Contains}
use Rattle.std.specs.Option.{option_map}
use Rattle.std.proofs.Common.{refl, sym, ◌∙◌, ap, subst, arith, get_or}
use Rattle.std.proofs.lemmas.Option.{get_or_from_slice_get, slice_get-map, slice_get_within, slice_get-get_or}
use Rattle.nand_model.specs.Flash.{Flash}
use Rattle.nand_model.specs.Calls.{Device}
use Rattle.nand_model.specs.declared.geometry.Geometry.{Geometry}
use Rattle.page_tags.specs.Checks.{IsCheckEntry, IsEntryBefore}
use Rattle.page_tags.specs.declared.check.CheckEntry.{CheckEntry}
use Rattle.flash_tree.specs.Checkpoints.{Checkpoint, check_tag, IsWhole}
use Rattle.flash_tree.specs.Newest.{IsNewest, Numbers, AreAbove, AreGreatest}
use Rattle.flash_tree.specs.Places.{ComesBefore}
use Rattle.flash_tree.specs.laws.Checking.{has_page, some_pages, same_block}
use Rattle.flash_tree.specs.laws.Reporting.{AreNewestAt}
use Rattle.block_state.specs.Table.{Table, is_free}
use Rattle.nand_model.specs.Trusting.{trusted_as}
use Rattle.nand_model.specs.laws.Trusted.{honest_of, trusted_of}
use Rattle.chunk_index.specs.Adding.{entry_key, AreInPages, AreLow, AreWithin}
use Rattle.chunk_index.specs.Counts.{Recounts}
use Rattle.chunk_index.specs.Entries.{as_committed}
use Rattle.chunk_index.specs.Committed.{HoldsNone, IsListOf, KeyRises}
use Rattle.chunk_index.specs.Maps.{committed_pages, present, count_committed_in, CountsAgree}
use Rattle.chunk_index.specs.declared.form.CommittedKey.{CommittedKey}
use Rattle.chunk_index.specs.declared.form.CommittedPage.{CommittedPage}
use Rattle.chunk_index.specs.declared.form.Present.TheVariants as presents
use Rattle.chunk_index.specs.declared.index.Index.{Index}
use Rattle.transactions.specs.Ready.{IsWaiting}
use Rattle.flash_log.specs.Consistency.{AreCommitted, MayLie}
use Rattle.flash_log.specs.Taking.{LiesApart}
use Rattle.mount_scan.specs.FoundCheckpoint.{HasForm}
use Rattle.page_store.specs.Checked.{numbers_at, MayAllBeCommitted, IsAsSaid, IsTrustedFor}
use Rattle.page_store.specs.Opened.{AreLeft, IsOpenedBy, IsTableOf, OnlySeqs}
use Rattle.page_store.proofs.Tables.{ready_from}

-- what is read of a list that was mapped
pub mapped : {X Y : Type 0} (f : X → Y) (xs : List X) (i : ℕ) (x : X) → slice_get xs i ≡ Some x → slice_get (map f xs) i ≡ Some (f x)
mapped f xs i x at = slice_get-map f xs i ∙ ap (option_map f) at

mapped_from : {X Y : Type 0} (f : X → Y) (xs : List X) (i : ℕ) (y : Y) → slice_get (map f xs) i ≡ Some y → (x : X) × (slice_get xs i ≡ Some x) × (f x ≡ y)
mapped_from {X} {Y} f xs i y at = go (slice_get xs i) refl where
  go : (m : Option X) → slice_get xs i ≡ m → (x : X) × (slice_get xs i ≡ Some x) × (f x ≡ y)
  go None is = let two : None ≡ Some y = sym (slice_get-map f xs i ∙ ap (option_map f) is) ∙ at in absurd cc
  go (Some x) is =
      let two : Some (f x) ≡ Some y = sym (slice_get-map f xs i ∙ ap (option_map f) is) ∙ at in
      let same : f x ≡ y = cc in
      (x, is, same)

pub contains_at : (es : List CheckEntry) (i : ℕ) (e : CheckEntry) → slice_get es i ≡ Some e → Contains es e
contains_at es i e at = (i, slice_get_within es i e at, get_or_from_slice_get es i e e at)

pub there_at : (es : List CheckEntry) (e : CheckEntry) → Contains es e → (i : ℕ) × (slice_get es i ≡ Some e)
there_at es e has = (has.0, slice_get-get_or es has.0 e has.1 ∙ ap Some has.2)

-- ---- the list that the index is made of

-- the keys of entries in order rise
pub keys_rise : (es : List CheckEntry) → AllPairs IsEntryBefore es → KeyRises (map entry_key es)
keys_rise es rise i j k l lt at there =
    let one = mapped_from entry_key es i k at in
    let two = mapped_from entry_key es j l there in
    let less = slice_get_within es j two.0 two.1 in
    let order : IsEntryBefore (get_or es i one.0) (get_or es j one.0) = rise i j one.0 lt less in
    let before : IsEntryBefore one.0 two.0 =
    subst (λ (f : CheckEntry). IsEntryBefore one.0 f) (get_or_from_slice_get es j two.0 one.0 two.1) (subst (λ (e : CheckEntry). IsEntryBefore e (get_or es j one.0)) (get_or_from_slice_get es i one.0 one.0 one.1) order) in
    subst (λ (g : CommittedKey). ComesBefore k.key.object k.key.chunk g.key.object g.key.chunk) two.2
    (subst (λ (f : CommittedKey). ComesBefore f.key.object f.key.chunk two.0.object two.0.chunk) one.2 before)

pub keys_within : (d : Device) (c : Checkpoint) (g : Geometry) → MayAllBeCommitted d c → g ≡ d.geometry → AreWithin g.blocks (map entry_key c.entries)
keys_within d c g placed same i k at =
    let one = mapped_from entry_key c.entries i k at in
    let lies : one.0.block < d.geometry.blocks = (placed i one.0 one.1).block in
    subst (λ (f : CommittedKey). f.at.block < g.blocks) one.2 (subst (λ (h : Geometry). one.0.block < h.blocks) (sym same) lies)

pub keys_in_pages : (d : Device) (c : Checkpoint) (g : Geometry) → MayAllBeCommitted d c → g ≡ d.geometry → AreInPages g.pages (map entry_key c.entries)
keys_in_pages d c g placed same i k at =
    let one = mapped_from entry_key c.entries i k at in
    let lies : one.0.page < d.geometry.pages = (placed i one.0 one.1).page in
    subst (λ (f : CommittedKey). f.at.page < g.pages) one.2 (subst (λ (h : Geometry). one.0.page < h.pages) (sym same) lies)

pub keys_low : (d : Device) (c : Checkpoint) → MayAllBeCommitted d c → AreLow (map entry_key c.entries)
keys_low d c placed i k at =
    let one = mapped_from entry_key c.entries i k at in
    subst (λ (f : CommittedKey). f.key.chunk < 2 ^ 32) one.2 (placed i one.0 one.1).low

-- ---- what is committed

module _ (d : Device) (c : Checkpoint) (x : Index) (form : HasForm d c) (placed : MayAllBeCommitted d c) (list : IsListOf (committed_pages x) (map entry_key c.entries)) where
  -- an entry reports on a page that is committed
  pub reported_by : (o k : ℕ) (p : CommittedPage) → committed_pages x o k ≡ Some p → (i : ℕ) × (e : CheckEntry) × (slice_get c.entries i ≡ Some e) × (entry_key e ≡ record { key = record { object = o; chunk = k }; at = p })
  reported_by o k p is =
      let there = list.all o k p is in
      let one = mapped_from entry_key c.entries there.0 (record { key = record { object = o; chunk = k }; at = p }) there.1 in
      (there.0, one.0, one.1, one.2)

  pub lies_within : (o k : ℕ) (p : CommittedPage) → committed_pages x o k ≡ Some p → (p.block < d.geometry.blocks) × (p.page < d.geometry.pages)
  lies_within o k p is =
      let (i, e, at, same) = reported_by o k p is in
      let may = placed i e at in
      let block : e.block ≡ p.block = ap (λ (y : CommittedKey). y.at.block) same in
      let page : e.page ≡ p.page = ap (λ (y : CommittedKey). y.at.page) same in
      (omega (arith, may.block, block), omega (arith, may.page, page))

  -- of a chunk that a tree may look up
  pub lies_low : (o k : ℕ) (p : CommittedPage) → committed_pages x o k ≡ Some p → k < 2 ^ 32
  lies_low o k p is =
      let (i, e, at, same) = reported_by o k p is in
      let low = (placed i e at).low in
      let chunk : e.chunk ≡ k = ap (λ (y : CommittedKey). y.key.chunk) same in
      omega (arith, low, chunk)

  -- none of them in the block of the checkpoint
  pub none_there : HoldsNone (committed_pages x) c.block
  none_there o k p is same_block =
      let (i, e, at, same) = reported_by o k p is in
      (placed i e at).apart (ap (λ (y : CommittedKey). y.at.block) same ∙ same_block)

  few_chunk : (i : ℕ) (e : CheckEntry) → slice_get c.entries i ≡ Some e → e.chunk < 2 ^ 64
  few_chunk i e at = (subst IsCheckEntry (get_or_from_slice_get c.entries i e e at) (form.entries i e (slice_get_within c.entries i e at))).chunk

  pub may_lie : (t : Table) → t.geometry ≡ d.geometry → t.next_group ≡ c.number + 1 → (o k : ℕ) (p : CommittedPage) → committed_pages x o k ≡ Some p → MayLie t o k p
  may_lie t geometry next o k p is =
      let (i, e, at, same) = reported_by o k p is in
      let may = placed i e at in
      let within = lies_within o k p is in
      let object : e.object ≡ o = ap (λ (y : CommittedKey). y.key.object) same in
      let chunk : e.chunk ≡ k = ap (λ (y : CommittedKey). y.key.chunk) same in
      let version : e.version ≡ p.version = ap (λ (y : CommittedKey). y.at.version) same in
      let within_limit = few_chunk i e at in
      record {
        block = subst (λ (g : Geometry). p.block < g.blocks) (sym geometry) within.0;
        page = subst (λ (g : Geometry). p.page < g.pages) (sym geometry) within.1;
        name = record {
          object = (omega (arith, may.object.0, object), omega (arith, may.object.1, object));
          chunk = omega (arith, within_limit, chunk);
          version = (omega (arith, may.version.0, version), omega (arith, may.version.1, version, next));
        };
      }

  -- where the entries are newest, so is what is committed
  pub are_newest : (flash : Flash) → AreNewestAt flash c.entries → AreCommitted flash (committed_pages x)
  are_newest flash newest o k p is =
      let (i, e, at, same) = reported_by o k p is in
      let (s, last, reported) = newest i e at in
      let object : e.object ≡ o = ap (λ (y : CommittedKey). y.key.object) same in
      let chunk : e.chunk ≡ k = ap (λ (y : CommittedKey). y.key.chunk) same in
      let block : s.block ≡ p.block = sym (ap (λ (f : CheckEntry). f.block) reported) ∙ ap (λ (y : CommittedKey). y.at.block) same in
      let page : s.page ≡ p.page = sym (ap (λ (f : CheckEntry). f.page) reported) ∙ ap (λ (y : CommittedKey). y.at.page) same in
      let key : IsNewest flash o k s = subst (λ j. IsNewest flash o j s) chunk (subst (λ j. IsNewest flash j e.chunk s) object last) in
      record {
        tag = s.tag;
        newest = subst (λ q. IsNewest flash o k (record { block = p.block; page = q; tag = s.tag })) page (subst (λ b. IsNewest flash o k (record { block = b; page = s.page; tag = s.tag })) block key);
        version = sym (ap (λ (f : CheckEntry). f.version) reported) ∙ ap (λ (y : CommittedKey). y.at.version) same;
      }

-- what is present is what is committed, so nothing is buffered
pub not_buffered : (x : Index) → ((o k : ℕ) → present x o k ≡ as_committed (committed_pages x o k)) → (o k j : ℕ) → present x o k ≡ presents.InBuffer j → ⊥
not_buffered x shown o k j is = go (committed_pages x o k) refl where
  go : (m : Option CommittedPage) → committed_pages x o k ≡ m → ⊥
  go None at = let two : presents.Absent ≡ presents.InBuffer j = sym (shown o k ∙ ap as_committed at) ∙ is in cc
  go (Some p) at = let two : presents.OnFlash p ≡ presents.InBuffer j = sym (shown o k ∙ ap as_committed at) ∙ is in cc

-- ---- the tables

-- the numbers of a checkpoint are the greatest, where none is above them
pub greatest_at : (g : Geometry) (flash : Flash) (c : Checkpoint) → IsWhole g flash c → AreAbove flash (numbers_at c) → AreGreatest flash (numbers_at c)
greatest_at g flash c whole above = record {
  above = above;
  least = λ m over. over c.block 0 (check_tag c 0) whole.good (has_page g flash c whole (some_pages g flash c whole));
}

-- the checkpoint's block is free
pub is_free_block : (d : Device) (c : Checkpoint) (n : Numbers) (t0 t1 t2 : Table) (x : Index) → HasForm d c → IsTableOf d n t0 → OnlySeqs t0 t1 → CountsAgree t2 x → Recounts (λ b. 0) (count_committed_in x) t1 t2 → count_committed_in x c.block ≡ 0
    → is_free t2 c.block ≡ true
is_free_block d c n t0 t1 t2 x form is only agree recounts none =
    let good : (t2.entry c.block).bad ≡ false = recounts.bad c.block ∙ only.bad c.block ∙ is.good c.block form.good in
    let committed : (t2.entry c.block).committed ≡ 0 = agree.counts c.block ∙ none in
    let closed : t2.open_block ≡ None = recounts.open_block ∙ only.open_block ∙ is.closed in
    grind (arith, good, committed, closed)

module _ (d : Device) (c : Checkpoint) (t0 t1 t2 t3 : Table) (x : Index) (form : HasForm d c) (placed : MayAllBeCommitted d c) (whole : d.honest ≡ true → IsWhole d.geometry d.flash c)
    (is : IsTableOf d (numbers_at c) t0) (only : OnlySeqs t0 t1) (list : IsListOf (committed_pages x) (map entry_key c.entries)) (shown : (o k : ℕ) → present x o k ≡ as_committed (committed_pages x o k))
    (agree : CountsAgree t2 x) (recounts : Recounts (λ b. 0) (count_committed_in x) t1 t2) (last : t3 ≡ record t2 { checkpoint = Some c.block }) (empty : count_committed_in x c.block ≡ 0) where
  abbrev noted : Table
  noted = record t2 { checkpoint = Some c.block }

  geometry : t2.geometry ≡ d.geometry
  geometry = recounts.geometry ∙ only.geometry ∙ is.geometry

  closed : t2.open_block ≡ None
  closed = recounts.open_block ∙ only.open_block ∙ is.closed

  group : AreLeft (numbers_at c) → t2.next_group ≡ c.number + 1
  group left = recounts.next_group ∙ only.next_group ∙ is.group left

  seq : AreLeft (numbers_at c) → t2.next_seq ≡ c.seq + 1
  seq left = recounts.next_seq ∙ only.next_seq ∙ is.seq left

  -- no committed page lies in the checkpoint's block
  lies_apart : LiesApart noted
  lies_apart b is =
      let same : c.block ≡ b = cc in
      subst (λ k. (t2.entry k).committed ≡ 0) same (agree.counts c.block ∙ empty)

  -- no block is open while the checkpoint's is noted
  waiting : (reported : Bool) (b : ℕ) → Some c.block ≡ Some b → IsWaiting (trusted_as reported d) noted b
  waiting reported b is_block =
      let same : c.block ≡ b = cc in
      record {
        within = subst (λ k. k < d.geometry.blocks) same form.block;
        good = subst (λ k. d.flash.bad k ≡ false) same form.good;
        closed = closed;
      }

  pub opened_for : (reported : Bool) → IsTrustedFor c reported d → IsOpenedBy (Some c.block) (trusted_as reported d) t3 x (numbers_at c)
  opened_for reported trusted = subst (λ (t : Table). IsOpenedBy (Some c.block) (trusted_as reported d) t x (numbers_at c)) (sym last) (record {
    counts = record { counts = agree.counts; within = agree.within };
    geometry = geometry;
    good = λ b good. recounts.bad b ∙ only.bad b ∙ is.good b good;
    closed = closed;
    noted = refl;
    apart = lies_apart;
    shown = shown;
    unbuffered = not_buffered x shown;
    within = lies_within d c x form placed list;
    low = lies_low d c x form placed list;
    newest = λ both. are_newest d c x form placed list d.flash (said both).newest;
    numbers = λ both. greatest_at d.geometry d.flash c (whole (honest_of d.honest reported both)) (said both).above;
    can_write = λ left.
        ready_from (trusted_as reported d) (numbers_at c) noted geometry (λ b. recounts.bad b ∙ only.bad b ∙ is.marks left b) closed (waiting reported) (group left) (seq left) (λ both. (said both).above);
    group = group;
    seq = seq;
    lie = λ left. may_lie d c x form placed list noted geometry (group left);
  }) where
    said : (d.honest && reported) ≡ true → IsAsSaid d.flash c
    said both = trusted (trusted_of d.honest reported both) (honest_of d.honest reported both)
