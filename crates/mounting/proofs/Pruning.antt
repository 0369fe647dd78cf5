-- The tables once all pages but those of some keys are forgotten.
use Rattle.std.specs.Prelude.{◌≡◌, ◌<◌, ◌≤◌, ◌^◌, ℕ, Bool, true, false, length, Option, Some, None, slice_get}
use Rattle.std.proofs.Common.{sym, ◌∙◌, ap, subst, inl, inr, arith}
use Rattle.std.proofs.lemmas.Bool.{cases_Bool}
use Rattle.volume_terms.specs.laws.List.{slice_get_there}
use Rattle.volume_terms.specs.laws.Number.{no_more_than_places}
use Rattle.nand_model.specs.Flash.{Flash}
use Rattle.nand_model.specs.Calls.{Device}
use Rattle.nand_model.specs.Changes.{OnlyReads}
use Rattle.nand_model.specs.declared.geometry.Geometry.{Geometry}
use Rattle.page_tags.specs.declared.tag.Tag.{Tag}
use Rattle.flash_tree.specs.Groups.{HasTag}
use Rattle.flash_tree.specs.Newest.{Spot, IsNewest, Numbers, AreGreatest}
use Rattle.flash_tree.specs.laws.Newest.{one_tag}
use Rattle.flash_tree.specs.laws.Place.{same_flash}
use Rattle.block_state.specs.Table.{Table}
use Rattle.chunk_index.specs.Counts.{Recounts}
use Rattle.chunk_index.specs.Listing.{block_keys}
use Rattle.chunk_index.specs.Entries.{as_committed}
use Rattle.chunk_index.specs.Maps.{committed_pages, count_committed_in, present, CountsAgree, Retains}
use Rattle.chunk_index.specs.declared.form.CommittedKey.{CommittedKey}
use Rattle.chunk_index.specs.declared.form.CommittedPage.{CommittedPage}
use Rattle.chunk_index.specs.declared.form.Present.TheVariants as presents
use Rattle.chunk_index.specs.declared.index.Index.{Index}
use Rattle.chunk_index.specs.Committed.{HoldsNone}
use Rattle.transactions.specs.Ready.{IsReady}
use Rattle.flash_log.specs.Taking.{LiesApart}
use Rattle.flash_log.specs.Consistency.{IsCommittedAt, AreCommitted, MayLie}
use Rattle.page_store.specs.Opened.{IsOpened, IsOpenedBy, AreLeft, committed_at}
use Rattle.mounting.specs.Marked.{AreFitting}
use Rattle.mounting.specs.Tables.{KeepsOnly, IsPruned}

-- what is retained is only what a test keeps
pub keeps_only : (keeps : ℕ → ℕ → Bool) (x y : Index) → Retains keeps x y → KeepsOnly keeps x y
keeps_only keeps x y retains = record { same = retains.committed; none = retains.committed_no_more }

module _ (keeps : ℕ → ℕ → Bool) (noted : Option ℕ) (a b : Device) (t u : Table) (x y : Index) (n : Numbers) (reads : OnlyReads a b) (opened : IsOpenedBy noted a t x n) (retains : Retains keeps x y)
    (counts : CountsAgree u y) (recounts : Recounts (count_committed_in x) (count_committed_in y) t u) (none : (b : ℕ) → count_committed_in x b ≡ 0 → HoldsNone (committed_pages x) b) (zero : (b : ℕ) → HoldsNone (committed_pages y) b → count_committed_in y b ≡ 0) where
  was_honest : b.honest ≡ true → a.honest ≡ true
  was_honest honest = sym reads.lasts.honest ∙ honest

  flash_is : b.honest ≡ true → b.flash ≡ a.flash
  flash_is honest = same_flash a b reads (was_honest honest)

  -- what is committed was committed before
  was_committed : (o c : ℕ) (p : CommittedPage) → committed_pages y o c ≡ Some p → committed_pages x o c ≡ Some p
  was_committed o c p is = elim (cases_Bool (keeps o c)) [
    | inl stays ↦ sym (retains.committed o c stays) ∙ is
    | inr goes ↦ let two : None ≡ Some p = sym (retains.committed_no_more o c goes) ∙ is in absurd cc
  ]

  shown : (o c : ℕ) → present y o c ≡ as_committed (committed_pages y o c)
  shown o c = elim (cases_Bool (keeps o c)) [
    | inl stays ↦ retains.present o c stays ∙ opened.shown o c ∙ sym (ap as_committed (retains.committed o c stays))
    | inr goes ↦ retains.present_no_more o c goes ∙ sym (ap as_committed (retains.committed_no_more o c goes))
  ]

  unbuffered : (o c i : ℕ) → present y o c ≡ presents.InBuffer i → ⊥
  unbuffered o c i is = elim (cases_Bool (keeps o c)) [
    | inl stays ↦ opened.unbuffered o c i (sym (retains.present o c stays) ∙ is)
    | inr goes ↦ let two : presents.Absent ≡ presents.InBuffer i = sym (retains.present_no_more o c goes) ∙ is in absurd cc
  ]

  closed : u.open_block ≡ None
  closed = recounts.open_block ∙ opened.closed

  -- the block that is noted holds no committed page still
  apart : LiesApart u
  apart c at =
      let was : t.checkpoint ≡ Some c = sym recounts.checkpoint ∙ at in
      let held : count_committed_in x c ≡ 0 = sym (opened.counts.counts c) ∙ opened.apart c was in
      counts.counts c ∙ zero c (λ o k p is. none c held o k p (was_committed o k p is))

  geometry : u.geometry ≡ b.geometry
  geometry = recounts.geometry ∙ opened.geometry ∙ sym reads.lasts.geometry

  can_write : AreLeft n → IsReady b u
  can_write left =
      let was = opened.can_write left in
      record {
        geometry = geometry;
        marks = λ k. recounts.bad k ∙ was.marks k ∙ sym (ap (λ (f : ℕ → Bool). f k) reads.bad);
        open_block = λ o is. absurd (let two : None ≡ Some o = sym closed ∙ is in cc);
        waits = λ c is.
            let waiting = was.waits c (sym recounts.checkpoint ∙ is) in
            record {
              within = subst (λ (g : Geometry). c < g.blocks) (sym reads.lasts.geometry) waiting.within;
              good = ap (λ (f : ℕ → Bool). f c) reads.bad ∙ waiting.good;
              closed = closed;
            };
        numbers = (subst (λ k. 1 ≤ k) (sym recounts.next_group) was.numbers.0, subst (λ k. 1 ≤ k) (sym recounts.next_seq) was.numbers.1);
        below = below;
      } where
        below : b.honest ≡ true → (k p : ℕ) (tag : Tag) → b.flash.bad k ≡ false → HasTag b.flash k p tag → (tag.version < u.next_group) × (tag.group < u.next_group) × (tag.seq < u.next_seq)
        below honest k p tag good has =
            let same : b.flash ≡ a.flash = flash_is honest in
            let before = (opened.can_write left).below (was_honest honest) k p tag (sym (ap (λ (f : Flash). f.bad k) same) ∙ good) (subst (λ (f : Flash). HasTag f k p tag) same has) in
            (subst (λ m. tag.version < m) (sym recounts.next_group) before.0, subst (λ m. tag.group < m) (sym recounts.next_group) before.1, subst (λ m. tag.seq < m) (sym recounts.next_seq) before.2)

  lie : AreLeft n → (o c : ℕ) (p : CommittedPage) → committed_pages y o c ≡ Some p → MayLie u o c p
  lie left o c p is =
      let was = opened.lie left o c p (was_committed o c p is) in
      record {
        block = subst (λ (g : Geometry). p.block < g.blocks) (sym recounts.geometry) was.block;
        page = subst (λ (g : Geometry). p.page < g.pages) (sym recounts.geometry) was.page;
        name = record {
          object = was.name.object;
          chunk = was.name.chunk;
          version = (was.name.version.0, subst (λ m. p.version ≤ m) (sym recounts.next_group) was.name.version.1);
        };
      }

  -- the tables are still those of a device that was opened
  pub still_opened : IsOpenedBy noted b u y n
  still_opened = record {
    counts = counts;
    geometry = geometry;
    good = λ k good. recounts.bad k ∙ opened.good k (sym (ap (λ (f : ℕ → Bool). f k) reads.bad) ∙ good);
    closed = closed;
    noted = recounts.checkpoint ∙ opened.noted;
    apart = apart;
    shown = shown;
    unbuffered = unbuffered;
    within = λ o c p is. subst (λ (g : Geometry). (p.block < g.blocks) × (p.page < g.pages)) (sym reads.lasts.geometry) (opened.within o c p (was_committed o c p is));
    low = λ o c p is. opened.low o c p (was_committed o c p is);
    newest = λ honest o c p is. subst (λ (f : Flash). IsCommittedAt f o c p) (sym (flash_is honest)) (opened.newest (was_honest honest) o c p (was_committed o c p is));
    numbers = λ honest. subst (λ (f : Flash). AreGreatest f n) (sym (flash_is honest)) (opened.numbers (was_honest honest));
    can_write = can_write;
    group = λ left. recounts.next_group ∙ opened.group left;
    seq = λ left. recounts.next_seq ∙ opened.seq left;
    lie = lie;
  }

-- the tables by a block that is noted are those by what they note
as_noted : (noted : Option ℕ) (d : Device) (t : Table) (x : Index) (n : Numbers) → IsOpenedBy noted d t x n → IsOpenedBy t.checkpoint d t x n
as_noted noted d t x n opened = subst (λ k. IsOpenedBy k d t x n) (sym opened.noted) opened

pub pruned_by : (keeps : ℕ → ℕ → Bool) (noted : Option ℕ) (d : Device) (t : Table) (x y : Index) (n : Numbers) → IsOpenedBy noted d t y n → KeepsOnly keeps x y
    → (d.honest ≡ true → (o c : ℕ) (s : Spot) → c < 2 ^ 32 → keeps o c ≡ true → IsNewest d.flash o c s → committed_pages x o c ≡ Some (committed_at s)) → IsPruned keeps d t y n
pruned_by keeps noted d t x y n opened only all = record {
  tables = as_noted noted d t y n opened;
  all = λ honest o c s low stays newest. only.same o c stays ∙ all honest o c s low stays newest;
  others = only.none;
}

-- after a scan of which the index committed all
pub scan_pruned : (keeps : ℕ → ℕ → Bool) (a b : Device) (t u : Table) (x y : Index) (n : Numbers) → OnlyReads a b → IsOpened a t x n → IsOpenedBy None b u y n → KeepsOnly keeps x y → IsPruned keeps b u y n
scan_pruned keeps a b t u x y n reads scanned opened only = pruned_by keeps None b u x y n opened only
    (λ honest o c s low stays newest.
    let was : a.honest ≡ true = sym reads.lasts.honest ∙ honest in
    scanned.all was o c s low (subst (λ (f : Flash). IsNewest f o c s) (same_flash a b reads was) newest))

-- the lists of the keys that are committed in a block are whole
pub record ListsAreWhole : Type 0 where
  pub committed : (x : Index) (b i : ℕ) (k : CommittedKey) → slice_get (block_keys x b) i ≡ Some k → committed_pages x k.key.object k.key.chunk ≡ Some k.at
  pub here : (x : Index) (b i : ℕ) (k : CommittedKey) → slice_get (block_keys x b) i ≡ Some k → k.at.block ≡ b
  pub count : (x : Index) (b : ℕ) → length (block_keys x b) ≡ count_committed_in x b
  pub once : (x : Index) (b i j : ℕ) (k l : CommittedKey) → slice_get (block_keys x b) i ≡ Some k → slice_get (block_keys x b) j ≡ Some l → k.key ≡ l.key → i ≡ j

-- On an honest device no block has more committed pages than it has pages: two keys are never in one page, since a page has one tag.
module _ (lists : ListsAreWhole) (pages : ℕ) (flash : Flash) (x : Index) (committed : AreCommitted flash (committed_pages x)) (within : (o c : ℕ) (p : CommittedPage) → committed_pages x o c ≡ Some p → p.page < pages) (b : ℕ) where
  at : (i : ℕ) → i < count_committed_in x b → (k : CommittedKey) × (slice_get (block_keys x b) i ≡ Some k)
  at i lt = let count = lists.count x b in slice_get_there (block_keys x b) i (omega (arith, lt, count))

  abbrev page_at : (i : ℕ) → i < count_committed_in x b → ℕ
  page_at i lt = (at i lt).0.at.page

  below : (i : ℕ) (lt : i < count_committed_in x b) → page_at i lt < pages
  below i lt = let k = at i lt in within k.0.key.object k.0.key.chunk k.0.at (lists.committed x b i k.0 k.1)

  -- two keys in one page are one key
  one_key : (k l : CommittedKey) → committed_pages x k.key.object k.key.chunk ≡ Some k.at → committed_pages x l.key.object l.key.chunk ≡ Some l.at → k.at.block ≡ l.at.block → k.at.page ≡ l.at.page → k.key ≡ l.key
  one_key k l is also block page =
      let first = committed k.key.object k.key.chunk k.at is in
      let second = committed l.key.object l.key.chunk l.at also in
      let moved : HasTag flash l.at.block l.at.page first.tag = subst (λ q. HasTag flash l.at.block q first.tag) page (subst (λ q. HasTag flash q k.at.page first.tag) block first.newest.holds.has) in
      let same : first.tag ≡ second.tag = one_tag flash l.at.block l.at.page first.tag second.tag moved second.newest.holds.has in
      let object : k.key.object ≡ l.key.object = sym first.newest.holds.object ∙ ap (λ (t : Tag). t.object) same ∙ second.newest.holds.object in
      let chunk : k.key.chunk ≡ l.key.chunk = sym first.newest.holds.chunk ∙ ap (λ (t : Tag). t.chunk) same ∙ second.newest.holds.chunk in
      λ i. record { object = object i; chunk = chunk i }

  once : (i j : ℕ) (k : i < count_committed_in x b) (l : j < count_committed_in x b) → page_at i k ≡ page_at j l → i ≡ j
  once i j k l same =
      let one = at i k in
      let two = at j l in
      lists.once x b i j one.0 two.0 one.1 two.1
      (one_key one.0 two.0 (lists.committed x b i one.0 one.1) (lists.committed x b j two.0 two.1) (lists.here x b i one.0 one.1 ∙ sym (lists.here x b j two.0 two.1)) same)

  pub few_committed : count_committed_in x b ≤ pages
  few_committed = no_more_than_places (count_committed_in x b) pages page_at below once

pub fitting : (lists : ListsAreWhole) (keeps : ℕ → ℕ → Bool) (d : Device) (t : Table) (x : Index) (n : Numbers) → IsPruned keeps d t x n → d.honest ≡ true → AreFitting t
fitting lists keeps d t x n pruned honest b =
    let within_limit = few_committed lists t.geometry.pages d.flash x (pruned.tables.newest honest) (λ o c p is. subst (λ (g : Geometry). p.page < g.pages) (sym pruned.tables.geometry) (pruned.tables.within o c p is).1) b in
    omega (arith, within_limit, pruned.tables.counts.counts b)
