-- The entries of a summary list what is committed in its block.
use Rattle.std.proofs.Common.{◌≡◌, ◌<◌, ◌≤◌, ℕ, true, length, get_or, sym, ap, subst, ◌∙◌, arith, inl, inr}
use Rattle.std.specs.Prelude.{Contains}
use Rattle.std.proofs.lemmas.Bool.{cases_lt}
use Rattle.std.proofs.lemmas.List.Elements.{Contains-get_or}
use Rattle.nand_model.specs.Calls.{Device}
use Rattle.nand_model.specs.declared.geometry.Geometry.{Geometry}
use Rattle.page_tags.specs.declared.check.CheckEntry.{CheckEntry}
use Rattle.page_tags.specs.declared.tag.Tag.{Tag}
use Rattle.flash_tree.specs.Checkpoints.{entry_of}
use Rattle.flash_tree.specs.Groups.{HasTag}
use Rattle.flash_tree.specs.Newest.{Spot}
use Rattle.flash_tree.specs.Summaries.{IsEntryIn}
use Rattle.flash_tree.specs.Summarizing.{ListsKey}
use Rattle.flash_tree.specs.laws.Newest.{one_spot, one_tag}
use Rattle.block_state.specs.Table.{Table}
use Rattle.chunk_index.specs.declared.index.Index.{Index}
use Rattle.chunk_index.specs.Maps.{committed_pages}
use Rattle.transactions.specs.Checking.{log_of}
use Rattle.transactions.specs.Ready.{IsReady}
use Rattle.flash_log.specs.Copying.{IsFresh}
use Rattle.flash_log.specs.Consistency.{AreHeld, IsCommittedKey, IsCommittedAt, IsConsistentLog}
use Rattle.flash_log.specs.Steps.{Step}
use Rattle.flash_log.specs.SummaryMaking.{ComesBefore, IsListOf, ListsEntries, Summarizes, WasWritten, entry_at, page_of, summary_of}
use Rattle.flash_log.specs.SummarySource.{CanSummarize}
use Rattle.flash_log.specs.declared.summary_source.SummarySource.{SummarySource}
use Rattle.flash_log.specs.declared.summary_writing.WrittenBlock.{WrittenBlock}
use Rattle.flash_log.specs.laws.CommittedPages.{spot_of}
use Rattle.flash_log.proofs.Summarized.{step_summarized}

module _ (spare : ℕ) (x : Index) (d : Device) (t : Table) (w : ℕ) (b : WrittenBlock) (source : SummarySource) (can_write : IsReady d t) (consistent : IsConsistentLog spare d t x) (fresh : IsFresh w d t)
    (was : WasWritten b d t) (block : source.head.block ≡ b.block) (seq : source.head.seq ≡ b.seq) (lists : ListsEntries b.block (committed_pages x) source.entries.now)
    (within_limit : length source.entries.now ≤ t.geometry.pages) (can : CanSummarize source d.geometry t.next_group) (honest : d.honest ≡ true) where
  -- the committed page of an entry is the newest of its key
  at : (e : CheckEntry) → Contains source.entries.now e → IsCommittedAt d.flash e.object e.chunk (page_of e)
  at e listed = consistent.newest honest fresh.power e.object e.chunk (page_of e) (lists.only e listed).1

  spot : (e : CheckEntry) → Contains source.entries.now e → Spot
  spot e listed = spot_of (page_of e) (at e listed).tag

  is_entry : (e : CheckEntry) (listed : Contains source.entries.now e) → e ≡ entry_of (spot e listed)
  unfolding at spot
  is_entry e listed =
      let here = at e listed in
      λ i. record { object = sym here.newest.holds.object i; chunk = sym here.newest.holds.chunk i; version = sym here.version i; block = e.block; page = e.page }

  in_block : (e : CheckEntry) → Contains source.entries.now e → e.block ≡ source.head.block
  in_block e listed = (lists.only e listed).0 ∙ sym block

  -- ---- the form

  entry_in : (e : CheckEntry) → Contains source.entries.now e → IsEntryIn d.geometry source.head e
  entry_in e listed =
      let may = consistent.tables.within e.object e.chunk (page_of e) (lists.only e listed).1 in
      let limit = consistent.limits.0 in
      record {
        entry = record {
          object = may.name.object.1;
          chunk = may.name.chunk;
          version = omega (arith, may.name.version.1, limit);
          block = omega (arith, may.block, t.geometry.most_blocks);
          page = omega (arith, may.page, t.geometry.most_pages);
        };
        block = in_block e listed;
        page = subst (λ (g : Geometry). e.page < g.pages) can_write.geometry may.page;
      }

  -- two entries are of two pages
  later : (e f : CheckEntry) → Contains source.entries.now e → Contains source.entries.now f → ComesBefore e f → e.page < f.page
  later e f listed listed' before = elim (cases_lt e.page f.page) [
    | inl lt ↦ lt
    | inr le ↦
        let same : e.page ≡ f.page = omega (arith, le, before.page) in
        let blocks : e.block ≡ f.block = in_block e listed ∙ sym (in_block f listed') in
        let one = at e listed in
        let two = at f listed' in
        let there : HasTag d.flash f.block f.page one.tag = subst (λ p. HasTag d.flash f.block p one.tag) same (subst (λ k. HasTag d.flash k e.page one.tag) blocks one.newest.holds.has) in
        let tag : one.tag ≡ two.tag = one_tag d.flash f.block f.page one.tag two.tag there two.newest.holds.has in
        absurd (before.key
        (sym one.newest.holds.object ∙ ap (λ (u : Tag). u.object) tag ∙ two.newest.holds.object)
        (sym one.newest.holds.chunk ∙ ap (λ (u : Tag). u.chunk) tag ∙ two.newest.holds.chunk))
  ]

  contains : (k : ℕ) (e : CheckEntry) → k < length source.entries.now → Contains source.entries.now (get_or source.entries.now k e)
  contains k e lt = Contains-get_or source.entries.now k e lt

  pub is_list : IsListOf (summary_of source t w) d
  unfolding spot
  is_list = record {
    form = record {
      size = can.pages;
      head = record {
        block = let within = was.within in omega (arith, block, within, t.geometry.most_blocks);
        entries = let count = can.count in omega (arith, count, within_limit, t.geometry.most_pages);
        seq = let older = was.older w fresh.open_block in let next = (can_write.open_block w fresh.open_block).seq.1 in let limit = consistent.limits.1 in omega (arith, seq, older, next, limit);
      };
      count = can.count;
      block = subst (λ (g : Geometry). source.head.block < g.blocks) can_write.geometry (subst (λ k. k < t.geometry.blocks) (sym block) was.within);
      each = λ k e lt. entry_in (get_or source.entries.now k e) (contains k e lt);
      rise = λ i j e lt within. later (get_or source.entries.now i e) (get_or source.entries.now j e) (contains i e (omega (arith, lt, within))) (contains j e within) (lists.order i j e lt within);
    };
    lists = record {
      older = let older = was.older w fresh.open_block in omega (arith, seq, older);
      seqs = λ l u has. was.own honest l u (subst (λ k. HasTag d.flash k l u) block has) ∙ sym seq;
      only = λ e listed. (spot e listed, (at e listed).newest.holds, in_block e listed, is_entry e listed);
    };
  }

  -- ---- the keys

  pub lists_key : (o c : ℕ) → IsCommittedKey (committed_pages x) o c → ListsKey d.flash (summary_of source t w) o c
  lists_key o c (q, is) p newest here =
      let committed = consistent.newest honest fresh.power o c q is in
      let place : p ≡ spot_of q committed.tag = one_spot d.flash o c p (spot_of q committed.tag) newest committed.newest in
      let inside : q.block ≡ b.block = ap (λ (s : Spot). s.block) (sym place) ∙ here ∙ block in
      let entry : entry_at o c q ≡ entry_of (spot_of q committed.tag) =
      λ i. record { object = sym committed.newest.holds.object i; chunk = sym committed.newest.holds.chunk i; version = sym committed.version i; block = q.block; page = q.page } in
      subst (λ e. Contains source.entries.now e) (entry ∙ ap entry_of (sym place)) (lists.all o c q is inside)

-- so the log keeps what each call keeps, once the list is written
pub step_listed : (spare : ℕ) (x : Index) (d f : Device) (t v : Table) (w : ℕ) (b : WrittenBlock) (source : SummarySource) → IsReady d t → IsConsistentLog spare d t x → AreHeld t x → IsFresh w d t → WasWritten b d t
    → (source.head.block ≡ b.block) × (source.head.seq ≡ b.seq) → ListsEntries b.block (committed_pages x) source.entries.now → length source.entries.now ≤ t.geometry.pages → CanSummarize source d.geometry t.next_group
    → Summarizes (summary_of source t w) (log_of d t) (log_of f v) → Step spare (log_of d t) (log_of f v) x x
step_listed spare x d f t v w b source can_write consistent held fresh was head lists within_limit can does =
    step_summarized spare x (summary_of source t w) w d f t v held consistent fresh does
    (λ honest. lists_key spare x d t w b source can_write consistent fresh was head.0 head.1 lists within_limit can honest)
