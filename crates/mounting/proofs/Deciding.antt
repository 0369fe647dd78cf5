-- When a device can be trusted whose tables were found by summaries: where all that is committed is newest, and no number is greater.
use Rattle.std.specs.Prelude.{◌≡◌, ◌&&◌, ◌<◌, ℕ, Bool, true, false, List, map, Option, Some, None, slice_get}
use Rattle.std.specs.Option.{option_map}
use Rattle.std.proofs.Common.{refl, sym, ◌∙◌, ap, subst, inl, inr, arith}
use Rattle.std.proofs.lemmas.Option.{slice_get-map}
use Rattle.nand_model.specs.Calls.{Device}
use Rattle.nand_model.specs.Flash.{Flash, IsWithin}
use Rattle.nand_model.specs.Trusting.{trusted_as}
use Rattle.page_tags.specs.declared.check.CheckEntry.{CheckEntry}
use Rattle.flash_tree.specs.Checkpoints.{entry_of}
use Rattle.flash_tree.specs.Newest.{Spot, IsNewest, Numbers, AreAbove, AreGreatest}
use Rattle.flash_tree.specs.laws.NewestExists.{IsStated, all_or_one}
use Rattle.flash_tree.specs.laws.Reporting.{AreNewestAt, IsNewestAt, all_reported, above_reported}
use Rattle.block_state.specs.Table.{Table}
use Rattle.chunk_index.specs.Listing.{block_keys}
use Rattle.chunk_index.specs.Maps.{committed_pages}
use Rattle.chunk_index.specs.declared.form.CommittedKey.{CommittedKey}
use Rattle.chunk_index.specs.declared.form.CommittedPage.{CommittedPage}
use Rattle.chunk_index.specs.declared.index.Index.{Index}
use Rattle.flash_log.specs.Consistency.{AreCommitted, IsCommittedAt}
use Rattle.page_store.specs.Opened.{IsOpenedBy}

-- ---- the keys that are committed, as entries

abbrev entry_at : CommittedKey → CheckEntry
entry_at k = record { object = k.key.object; chunk = k.key.chunk; version = k.at.version; block = k.at.block; page = k.at.page }

abbrev pub entries_in : Index → ℕ → List CheckEntry
entries_in x b = map entry_at (block_keys x b)

-- all that is committed in these blocks is newest, and no number is greater
pub record IsAsCommitted (flash : Flash) (blocks : ℕ) (x : Index) (n : Numbers) : Type 0 where
  pub newest : (b : ℕ) → b < blocks → AreNewestAt flash (entries_in x b)
  pub above : AreAbove flash n

committed_reported : (pages blocks : ℕ) (flash : Flash) (x : Index) (n : Numbers) → IsWithin pages blocks flash → IsStated (IsAsCommitted flash blocks x n)
committed_reported pages blocks flash x n within = elim (all_or_one (λ b. AreNewestAt flash (entries_in x b)) (λ b. all_reported pages blocks flash within (entries_in x b)) blocks) [
  | inr (b, lt, not) ↦ inr (λ is. not (is.newest b lt))
  | inl newest ↦ elim (above_reported pages blocks flash within n) [
    | inr not ↦ inr (λ is. not is.above)
    | inl above ↦ inl (record { newest = newest; above = above })
  ]
]

-- so a device is trusted exactly where it is so
pub decide : (d : Device) (x : Index) (n : Numbers) → IsWithin d.geometry.pages d.geometry.blocks d.flash
    → (reported : Bool) × (reported ≡ true → IsAsCommitted d.flash d.geometry.blocks x n) × (IsAsCommitted d.flash d.geometry.blocks x n → reported ≡ true)
decide d x n within = elim (committed_reported d.geometry.pages d.geometry.blocks d.flash x n within) [
  | inl is ↦ (true, (λ reported. is), λ _. refl)
  | inr not ↦ (false, (λ reported. let two : false ≡ true = reported in absurd cc), λ is. absurd (not is))
]

-- ---- what is committed is newest

-- the lists of the keys that are committed in a block are whole
pub record ListsKeys : Type 0 where
  pub committed : (x : Index) (b i : ℕ) (k : CommittedKey) → slice_get (block_keys x b) i ≡ Some k → committed_pages x k.key.object k.key.chunk ≡ Some k.at
  pub all : (x : Index) (b o c : ℕ) (p : CommittedPage) → committed_pages x o c ≡ Some p → p.block ≡ b
      → (i : ℕ) × (slice_get (block_keys x b) i ≡ Some (record { key = record { object = o; chunk = c }; at = p }))

-- a page that is reported to be newest is committed so
committed_from : (flash : Flash) (o c : ℕ) (p : CommittedPage) → IsNewestAt flash (entry_at (record { key = record { object = o; chunk = c }; at = p })) → IsCommittedAt flash o c p
committed_from flash o c p (s, newest, is) =
    let block : s.block ≡ p.block = sym (ap (λ (e : CheckEntry). e.block) is) in
    let page : s.page ≡ p.page = sym (ap (λ (e : CheckEntry). e.page) is) in
    let same : s ≡ record { block = p.block; page = p.page; tag = s.tag } = λ i. record { block = block i; page = page i; tag = s.tag } in
    record { tag = s.tag; newest = subst (IsNewest flash o c) same newest; version = sym (ap (λ (e : CheckEntry). e.version) is) }

-- and back
newest_from : (flash : Flash) (k : CommittedKey) → IsCommittedAt flash k.key.object k.key.chunk k.at → IsNewestAt flash (entry_at k)
newest_from flash k at =
    let s : Spot = record { block = k.at.block; page = k.at.page; tag = at.tag } in
    let object : k.key.object ≡ at.tag.object = sym at.newest.holds.object in
    let chunk : k.key.chunk ≡ at.tag.chunk = sym at.newest.holds.chunk in
    let version : k.at.version ≡ at.tag.version = sym at.version in
    let same : entry_at k ≡ entry_of s = λ i. record { object = object i; chunk = chunk i; version = version i; block = k.at.block; page = k.at.page } in
    (s, at.newest, same)

pub are_committed : ListsKeys → (flash : Flash) (blocks : ℕ) (x : Index) (n : Numbers) → ((o c : ℕ) (p : CommittedPage) → committed_pages x o c ≡ Some p → p.block < blocks) → IsAsCommitted flash blocks x n → AreCommitted flash (committed_pages x)
are_committed lists flash blocks x n within as_committed o c p is =
    let listed = lists.all x p.block o c p is refl in
    let key : CommittedKey = record { key = record { object = o; chunk = c }; at = p } in
    committed_from flash o c p (as_committed.newest p.block (within o c p is) listed.0 (entry_at key) (slice_get-map entry_at (block_keys x p.block) listed.0 ∙ ap (option_map entry_at) listed.1))

-- an entry is of a key that is committed
key_of : (keys : List CommittedKey) (i : ℕ) (e : CheckEntry) → slice_get (map entry_at keys) i ≡ Some e → (k : CommittedKey) × (slice_get keys i ≡ Some k) × (entry_at k ≡ e)
key_of keys i e is = go (slice_get keys i) refl where
  go : (o : Option CommittedKey) → slice_get keys i ≡ o → (k : CommittedKey) × (slice_get keys i ≡ Some k) × (entry_at k ≡ e)
  go None none = absurd (let two : None ≡ Some e = sym (ap (option_map entry_at) none) ∙ sym (slice_get-map entry_at keys i) ∙ is in cc)
  go (Some k) some = (k, some, let two : Some (entry_at k) ≡ Some e = sym (ap (option_map entry_at) some) ∙ sym (slice_get-map entry_at keys i) ∙ is in cc)

pub as_committed : ListsKeys → (flash : Flash) (blocks : ℕ) (x : Index) (n : Numbers) → AreCommitted flash (committed_pages x) → AreAbove flash n → IsAsCommitted flash blocks x n
as_committed lists flash blocks x n committed above = record {
  newest = λ b lt i e at.
      let k = key_of (block_keys x b) i e at in
      subst (IsNewestAt flash) k.2 (newest_from flash k.0 (committed k.0.key.object k.0.key.chunk k.0.at (lists.committed x b i k.0 k.1)));
  above = above;
}

-- ---- the tables of a device that is trusted so

-- where of an honest device that is trusted all that is committed is newest, and the numbers are the greatest, its tables are as those of a
-- checkpoint or a scan
pub opened_as : (reported : Bool) (d : Device) (t : Table) (x : Index) (n : Numbers) → IsOpenedBy None (trusted_as false d) t x n → ((d.honest && reported) ≡ true → AreCommitted d.flash (committed_pages x))
    → ((d.honest && reported) ≡ true → AreGreatest d.flash n) → IsOpenedBy None (trusted_as reported d) t x n
opened_as reported d t x n was committed greatest = record {
  counts = was.counts;
  geometry = was.geometry;
  good = was.good;
  closed = was.closed;
  noted = was.noted;
  apart = was.apart;
  shown = was.shown;
  unbuffered = was.unbuffered;
  within = was.within;
  low = was.low;
  newest = committed;
  numbers = greatest;
  can_write = λ left.
      let r = was.can_write left in
      record {
        geometry = r.geometry;
        marks = r.marks;
        open_block = λ o is. absurd (let two : None ≡ Some o = sym was.closed ∙ is in cc);
        waits = λ c is. absurd (let two : None ≡ Some c = sym was.noted ∙ is in cc);
        numbers = r.numbers;
        below = λ both b p tag good has.
            let at = (greatest both).above b p tag good has in
            let version = has.valid.version.1 in
            let group = was.group left in
            let seq = was.seq left in
            let group_most = at.1 in
            let seq_most = at.2 in
            (omega (arith, version, group_most, group), omega (arith, group_most, group), omega (arith, seq_most, seq));
      };
  group = was.group;
  seq = was.seq;
  lie = was.lie;
}
