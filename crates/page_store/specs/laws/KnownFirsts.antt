-- What a table that knows the first pages of blocks knows still.
use Rattle.std.specs.Prelude.{◌≡◌, ◌<◌, ◌≤◌, ℕ, Some, None}
use Rattle.std.proofs.Common.{sym, ◌∙◌, subst, arith}
use Rattle.nand_model.specs.Flash.{Flash}
use Rattle.nand_model.specs.Calls.{Device}
use Rattle.nand_model.specs.declared.geometry.Geometry.{Geometry}
use Rattle.flash_tree.specs.Newest.{Numbers}
use Rattle.flash_tree.specs.Numbering.{AreBelow}
use Rattle.block_state.specs.Table.{Table}
use Rattle.chunk_index.specs.Counts.{Recounts}
use Rattle.chunk_index.specs.declared.index.Index.{Index}
use Rattle.transactions.specs.Sources.{IsPageName}
use Rattle.page_store.specs.KnownFirsts.{KnowsFirsts}
use Rattle.page_store.specs.Opened.{IsOpened, IsOpenedBy, OnlySeqs}

-- a table with the same numbers of blocks, of which as many pages were programmed
pub known_same : (flash : Flash) (t t' : Table) → t'.geometry ≡ t.geometry → ((b : ℕ) → (t'.entry b).next ≡ (t.entry b).next) → ((b : ℕ) → (t'.entry b).seq ≡ (t.entry b).seq)
    → KnowsFirsts flash t → KnowsFirsts flash t'
known_same flash t t' geometry next seq known = record {
  erased = λ b lt begins. let was = known.erased b (within b lt) begins in (next b ∙ was.0, seq b ∙ was.1);
  written = λ b lt good not.
      let was = known.written b (within b lt) good not in
      let same_next = next b in
      let same_seq = seq b in
      (omega (arith, was.0, same_next), omega (arith, was.1, same_seq));
  tagged = λ b u lt good has. seq b ∙ known.tagged b u (within b lt) good has;
  aged = λ b le.
      let same_next = next b in
      let same_seq = seq b in
      let was = known.aged b (omega (arith, le, same_next)) in
      omega (arith, was, same_seq);
} where
  within : (b : ℕ) → b < t'.geometry.blocks → b < t.geometry.blocks
  within b lt = subst (λ (g : Geometry). b < g.blocks) geometry lt

-- as one whose committed pages were recounted
pub known_counted : (flash : Flash) (before after : ℕ → ℕ) (t t' : Table) → Recounts before after t t' → KnowsFirsts flash t → KnowsFirsts flash t'
known_counted flash before after t t' recounts = known_same flash t t' recounts.geometry recounts.next recounts.seq

-- the tables of a device that was scanned are so still once the numbers of blocks were noted
pub opened_noted : (d : Device) (t t' : Table) (x : Index) (n : Numbers) → OnlySeqs t t' → IsOpened d t x n → IsOpened d t' x n
opened_noted d t t' x n only opened = record {
  tables = record {
    counts = record {
      counts = λ b. only.committed b ∙ was.counts.counts b;
      within = λ b le. was.counts.within b (subst (λ (g : Geometry). g.blocks ≤ b) only.geometry le);
    };
    geometry = only.geometry ∙ was.geometry;
    good = λ b good. only.bad b ∙ was.good b good;
    closed = closed;
    noted = noted;
    apart = λ c at. absurd (let two : None ≡ Some c = sym noted ∙ at in cc);
    shown = was.shown;
    unbuffered = was.unbuffered;
    within = was.within;
    low = was.low;
    newest = was.newest;
    numbers = was.numbers;
    can_write = λ left.
        let can_write = was.can_write left in
        let group = only.next_group in
        let seq = only.next_seq in
        record {
          geometry = only.geometry ∙ can_write.geometry;
          marks = λ b. only.bad b ∙ can_write.marks b;
          open_block = λ o at. absurd (let two : None ≡ Some o = sym closed ∙ at in cc);
          waits = λ c at. absurd (let two : None ≡ Some c = sym noted ∙ at in cc);
          numbers = (omega (arith, group, can_write.numbers), omega (arith, seq, can_write.numbers));
          below = λ honest. subst (λ k. AreBelow d.flash k t'.next_seq) (sym group) (subst (λ k. AreBelow d.flash t.next_group k) (sym seq) (can_write.below honest));
        };
    group = λ left. only.next_group ∙ was.group left;
    seq = λ left. only.next_seq ∙ was.seq left;
    lie = λ left o c p is.
        let lies = was.lie left o c p is in
        record {
          block = subst (λ (g : Geometry). p.block < g.blocks) (sym only.geometry) lies.block;
          page = subst (λ (g : Geometry). p.page < g.pages) (sym only.geometry) lies.page;
          name = subst (λ k. IsPageName k (record { key = record { object = o; chunk = c }; version = p.version })) (sym only.next_group) lies.name;
        };
  };
  all = opened.all;
} where
  was : IsOpenedBy None d t x n
  was = opened.tables

  closed : t'.open_block ≡ None
  closed = only.open_block ∙ was.closed

  noted : t'.checkpoint ≡ None
  noted = only.checkpoint ∙ was.noted
