use Rattle.std.proofs.Common.{◌≡◌, ◌<◌, ◌≤◌, ◌+◌, ◌*◌, Some, List, length, sym, ap, subst, ◌∙◌, arith}
use Rattle.volume_terms.specs.Rounding.{ceiling}
use Rattle.volume_terms.specs.laws.Rounding.{ceiling_le}
use Rattle.nand_model.specs.Calls.{Device}
use Rattle.nand_model.specs.declared.geometry.Geometry.{Geometry}
use Rattle.page_tags.specs.declared.check.CheckEntry.{CheckEntry}
use Rattle.block_state.specs.Table.{Table}
use Rattle.block_state.specs.TableOf.{table}
use Rattle.chunk_index.specs.Maps.{committed_pages}
use Rattle.transactions.specs.Checking.{log_of}
use Rattle.flash_log.specs.SummaryMaking.{ListsEntries, SummaryEnds, summary_of}
use Rattle.flash_log.specs.SummarySource.{CanSummarize, summary_size}
use Rattle.flash_log.specs.laws.Bills.{pays_none}
use Rattle.flash_log.specs.laws.Mountable.{mountable_after}
use Rattle.flash_log.specs.laws.Moves.{are_held}
use Rattle.flash_log.specs.laws.Room.{same_page}
use Rattle.flash_log.specs.laws.Steps.{step_none}
use Rattle.flash_log.proofs.IndexStays.{holds_counts, holds_here}
use Rattle.flash_log.proofs.SummaryLists.{is_list, step_listed}
use Rattle.flash_log.proofs.log.Log.summarize.Goals as goal

pub list_entries-requires-clause-copies : goal.list_entries-requires-clause-copies
list_entries-requires-clause-copies g c =
    let tables = c.args.self.now.consistent.tables in
    let fits = tables.fits c.args.written.block in
    let count = tables.counts.counts c.args.written.block in
    let pages = ap (λ (x : Geometry). x.pages) c.args.self.now.can_write.geometry in
    omega (arith, fits, count, pages, c.args.self.now.room_size.copies)

pub list_entries-requires-clause-entries : goal.list_entries-requires-clause-entries
list_entries-requires-clause-entries g c =
    let tables = c.args.self.now.consistent.tables in
    let fits = tables.fits c.args.written.block in
    let count = tables.counts.counts c.args.written.block in
    let pages = ap (λ (x : Geometry). x.pages) c.args.self.now.can_write.geometry in
    omega (arith, fits, count, pages, c.args.self.now.room_size.entries)

pub returns-then-next_group-clause-step : goal.returns-then-next_group-clause-step
returns-then-next_group-clause-step g c = step_none c.args.self.now.spare (g.N.Nand.state c.args.self.now.device) (table c.args.self.now.blocks) c.args.self.now.index c.args.self.now.can_write c.args.self.now.consistent

pub returns-in_default-clause-step : goal.returns-in_default-clause-step
returns-in_default-clause-step g c = step_none c.args.self.now.spare (g.N.Nand.state c.args.self.now.device) (table c.args.self.now.blocks) c.args.self.now.index c.args.self.now.can_write c.args.self.now.consistent

pub returns-then-source-pages-clause-step : goal.returns-then-source-pages-clause-step
returns-then-source-pages-clause-step g c = step_none c.args.self.now.spare (g.N.Nand.state c.args.self.now.device) (table c.args.self.now.blocks) c.args.self.now.index c.args.self.now.can_write c.args.self.now.consistent

pub returns-then-source-pages-clause-pays : goal.returns-then-source-pages-clause-pays
returns-then-source-pages-clause-pays g c = record {
  size = 0;
  most = omega arith;
  fits = let size = ap (λ (x : Geometry). x.pages) c.args.self.now.can_write.geometry in omega (arith, size, c.requires.count);
  pays = pays_none 0 ((g.N.Nand.state c.args.self.now.device).geometry.pages + 1) (log_of (g.N.Nand.state c.args.self.now.device) (table c.args.self.now.blocks)) _;
}

pub write_listed-requires-clause-source : goal.write_listed-requires-clause-source
write_listed-requires-clause-source g c =
    let can_write = c.args.self.now.can_write in
    subst (λ (x : Geometry). CanSummarize c.in-Some.source x (table c.args.self.now.blocks).next_group) (c.geometry-geometry.ensures ∙ can_write.geometry)
    (c.in-Some.ensures.can (table c.args.self.now.blocks).next_group can_write.numbers.0)

pub write_listed-requires-clause-most : goal.write_listed-requires-clause-most
write_listed-requires-clause-most g c =
    let can = write_listed-requires-clause-source g c in
    let tables = c.args.self.now.consistent.tables in
    let fits = tables.fits c.args.written.block in
    let count = tables.counts.counts c.args.written.block in
    let listed = c.list_entries.ensures.count in
    let entries : length c.in-Some.source.entries.now ≡ length c.list_entries.new.self.entries.items = ap (λ (l : List CheckEntry). length l) (c.in-Some.ensures.entries ∙ c.deref.ensures.value) in
    let pages = ap (λ (x : Geometry). x.pages) c.args.self.now.can_write.geometry in
    subst (λ n. n ≤ summary_size (g.N.Nand.state c.args.self.now.device).geometry) (sym can.pages) (ceiling_le _ _ _ (omega (arith, fits, count, listed, entries, pages)))

pub write_listed-requires-clause-lists : goal.write_listed-requires-clause-lists
write_listed-requires-clause-lists g c =
    let log = c.args.self.now in
    let can = write_listed-requires-clause-source g c in
    let fits = log.consistent.tables.fits c.args.written.block in
    let count = log.consistent.tables.counts.counts c.args.written.block in
    let listed = c.list_entries.ensures.count in
    let entries : c.in-Some.source.entries.now ≡ c.list_entries.new.self.entries.items = c.in-Some.ensures.entries ∙ c.deref.ensures.value in
    let within_limit : length c.in-Some.source.entries.now ≤ (table log.blocks).geometry.pages = let same = ap (λ (l : List CheckEntry). length l) entries in omega (arith, fits, count, listed, same) in
    λ honest. is_list log.spare log.index (g.N.Nand.state log.device) (table log.blocks) c.args.block c.args.written c.in-Some.source log.can_write log.consistent c.requires.fresh c.requires.written
    c.in-Some.ensures.head.0 c.in-Some.ensures.head.1 (subst (λ (l : List CheckEntry). ListsEntries c.args.written.block (committed_pages log.index) l) (sym entries) c.list_entries.ensures.lists) within_limit can honest

pub returns-clause-step : goal.returns-clause-step
returns-clause-step g c =
    let log = c.args.self.now in
    let d : Device = g.N.Nand.state log.device in
    let t : Table = table log.blocks in
    let can = subst (λ (x : Geometry). CanSummarize c.in-Some.source x t.next_group) (c.geometry-geometry.ensures ∙ log.can_write.geometry) (c.in-Some.ensures.can t.next_group log.can_write.numbers.0) in
    let fits = log.consistent.tables.fits c.args.written.block in
    let count = log.consistent.tables.counts.counts c.args.written.block in
    let listed = c.list_entries.ensures.count in
    let entries : c.in-Some.source.entries.now ≡ c.list_entries.new.self.entries.items = c.in-Some.ensures.entries ∙ c.deref.ensures.value in
    let within_limit : length c.in-Some.source.entries.now ≤ t.geometry.pages = let same = ap (λ (l : List CheckEntry). length l) entries in omega (arith, fits, count, listed, same) in
    let lists = subst (λ (l : List CheckEntry). ListsEntries c.args.written.block (committed_pages log.index) l) (sym entries) c.list_entries.ensures.lists in
    let held = are_held t log.index (c.the_counts_are_of_the_keys.ensures.none log.index) log.consistent.tables.counts in
    let step = step_listed log.spare log.index d (g.N.Nand.state c.write_listed.new.device) t (table c.write_listed.new.blocks) c.args.block c.args.written c.in-Some.source log.can_write log.consistent held
    c.requires.fresh c.requires.written c.in-Some.ensures.head lists within_limit can c.write_listed.ensures.does in
    step

pub invariant_of-self-2-clause-can_write : goal.invariant_of-self-2-clause-can_write
invariant_of-self-2-clause-can_write g c = c.write_listed.ensures.does.keeps.can_write

pub invariant_of-self-2-clause-consistent : goal.invariant_of-self-2-clause-consistent
invariant_of-self-2-clause-consistent g c =
    let log = c.args.self.now in
    let d : Device = g.N.Nand.state log.device in
    let t : Table = table log.blocks in
    let can = subst (λ (x : Geometry). CanSummarize c.in-Some.source x t.next_group) (c.geometry-geometry.ensures ∙ log.can_write.geometry) (c.in-Some.ensures.can t.next_group log.can_write.numbers.0) in
    let fits = log.consistent.tables.fits c.args.written.block in
    let count = log.consistent.tables.counts.counts c.args.written.block in
    let listed = c.list_entries.ensures.count in
    let entries : c.in-Some.source.entries.now ≡ c.list_entries.new.self.entries.items = c.in-Some.ensures.entries ∙ c.deref.ensures.value in
    let within_limit : length c.in-Some.source.entries.now ≤ t.geometry.pages = let same = ap (λ (l : List CheckEntry). length l) entries in omega (arith, fits, count, listed, same) in
    let lists = subst (λ (l : List CheckEntry). ListsEntries c.args.written.block (committed_pages log.index) l) (sym entries) c.list_entries.ensures.lists in
    let held = are_held t log.index (c.the_counts_are_of_the_keys.ensures.none log.index) log.consistent.tables.counts in
    let step = step_listed log.spare log.index d (g.N.Nand.state c.write_listed.new.device) t (table c.write_listed.new.blocks) c.args.block c.args.written c.in-Some.source log.can_write log.consistent held
    c.requires.fresh c.requires.written c.in-Some.ensures.head lists within_limit can c.write_listed.ensures.does in
    step.consistent

pub invariant_of-self-2-clause-room_size : goal.invariant_of-self-2-clause-room_size
invariant_of-self-2-clause-room_size g c =
    let room_size = c.args.self.now.room_size in
    let geometry = c.write_listed.ensures.does.keeps.lasts.geometry in
    let same = c.list_entries.ensures.same in
    let pages = ap (λ (x : Geometry). x.pages) geometry in
    let bytes = ap (λ (x : Geometry). x.bytes) geometry in
    record {
      copies = omega (arith, room_size.copies, same.copies, pages);
      entries = omega (arith, room_size.entries, same.entries, pages);
      scratch = same_page c.list_entries.new.self.scratch.len c.write_listed.new.scratch _ (omega arith) ∙ omega (arith, room_size.scratch, same.scratch, bytes);
    }

pub invariant_of-self-2-clause-mountable : goal.invariant_of-self-2-clause-mountable
invariant_of-self-2-clause-mountable g c =
    let log = c.args.self.now in
    let d : Device = g.N.Nand.state log.device in
    let t : Table = table log.blocks in
    let can = subst (λ (x : Geometry). CanSummarize c.in-Some.source x t.next_group) (c.geometry-geometry.ensures ∙ log.can_write.geometry) (c.in-Some.ensures.can t.next_group log.can_write.numbers.0) in
    let fits = log.consistent.tables.fits c.args.written.block in
    let count = log.consistent.tables.counts.counts c.args.written.block in
    let listed = c.list_entries.ensures.count in
    let entries : c.in-Some.source.entries.now ≡ c.list_entries.new.self.entries.items = c.in-Some.ensures.entries ∙ c.deref.ensures.value in
    let within_limit : length c.in-Some.source.entries.now ≤ t.geometry.pages = let same = ap (λ (l : List CheckEntry). length l) entries in omega (arith, fits, count, listed, same) in
    let lists = subst (λ (l : List CheckEntry). ListsEntries c.args.written.block (committed_pages log.index) l) (sym entries) c.list_entries.ensures.lists in
    let held = are_held t log.index (c.the_counts_are_of_the_keys.ensures.none log.index) log.consistent.tables.counts in
    let step = step_listed log.spare log.index d (g.N.Nand.state c.write_listed.new.device) t (table c.write_listed.new.blocks) c.args.block c.args.written c.in-Some.source log.can_write log.consistent held
    c.requires.fresh c.requires.written c.in-Some.ensures.head lists within_limit can c.write_listed.ensures.does in
    mountable_after log.origin.first log.spare (log_of d t) (log_of (g.N.Nand.state c.write_listed.new.device) (table c.write_listed.new.blocks)) log.index log.index step log.mountable

pub returns-clause-ends : goal.returns-clause-ends
returns-clause-ends g c =
    let within_limit = c.if-source-pages.false in
    let pages : c.pages.result ≡ (table c.args.self.now.blocks).geometry.pages = c.pages.ensures ∙ ap (λ (x : Geometry). x.pages) c.geometry-geometry.ensures in
    c.write_listed.ensures.ends c.args.count c.args.self.now.spare (omega (arith, within_limit, pages, c.requires.count))

pub returns-in_default-clause-writes : goal.returns-in_default-clause-writes
returns-in_default-clause-writes g c = λ honest room is.
    let log = c.args.self.now in
    let short = c.in_default.ensures.none in
    let listed = c.list_entries.ensures.count in
    let count = log.consistent.tables.counts.counts c.args.written.block in
    let same : length c.deref.result.now ≡ ((table log.blocks).entry c.args.written.block).committed = ap (λ (l : List CheckEntry). length l) c.deref.ensures.value ∙ listed ∙ sym count in
    let geometry = c.geometry-geometry.ensures in
    let most : c.geometry-geometry.result.pages < ceiling (32 * (1 + ((table log.blocks).entry c.args.written.block).committed)) c.geometry-geometry.result.bytes = subst (λ n. c.geometry-geometry.result.pages < ceiling (32 * (1 + n)) c.geometry-geometry.result.bytes) same short in
    let there = subst (λ (x : Geometry). x.pages < ceiling (32 * (1 + ((table log.blocks).entry c.args.written.block).committed)) x.bytes) geometry most in
    absurd (omega (arith, there, room.0))

pub returns-then-source-pages-clause-writes : goal.returns-then-source-pages-clause-writes
returns-then-source-pages-clause-writes g c = λ honest room is.
    let log = c.args.self.now in
    let t : Table = table log.blocks in
    let geometry = c.geometry-geometry.ensures in
    let can = subst (λ (x : Geometry). CanSummarize c.in-Some.source x t.next_group) geometry (c.in-Some.ensures.can t.next_group log.can_write.numbers.0) in
    let listed = c.list_entries.ensures.count in
    let count = log.consistent.tables.counts.counts c.args.written.block in
    let same : length c.in-Some.source.entries.now ≡ (t.entry c.args.written.block).committed = ap (λ (l : List CheckEntry). length l) (c.in-Some.ensures.entries ∙ c.deref.ensures.value) ∙ listed ∙ sym count in
    let pages : c.in-Some.source.pages ≡ ceiling (32 * (1 + (t.entry c.args.written.block).committed)) t.geometry.bytes = can.pages ∙ ap (λ n. ceiling (32 * (1 + n)) t.geometry.bytes) same in
    let size : c.pages.result ≡ t.geometry.pages = c.pages.ensures ∙ ap (λ (x : Geometry). x.pages) geometry in
    let more = c.if-source-pages.true in
    absurd (omega (arith, more, pages, size, room.0, c.requires.count))

pub returns-clause-writes : goal.returns-clause-writes
returns-clause-writes g c = λ honest room is.
    let log = c.args.self.now in
    let did = c.write_listed.ensures in
    let within_limit = c.if-source-pages.false in
    let pages : c.pages.result ≡ (table log.blocks).geometry.pages = c.pages.ensures ∙ ap (λ (x : Geometry). x.pages) c.geometry-geometry.ensures in
    let ended = subst (SummaryEnds c.args.count log.spare (log_of (g.N.Nand.state log.device) (table log.blocks)) (log_of (g.N.Nand.state c.write_listed.new.device) (table c.write_listed.new.blocks))) is
    (did.ends c.args.count log.spare (omega (arith, within_limit, pages, c.requires.count))) in
    let both : Some c.args.block ≡ Some ended.0.block = sym c.requires.fresh.open_block ∙ did.does.open_block ended.0.block ended.0.clear.open_block in
    let same : ended.0.block ≡ c.args.block = cc in
    record {
      summary = summary_of c.in-Some.source (table log.blocks) c.args.block;
      whole = did.whole honest is;
      block = c.in-Some.ensures.head.0;
      number = c.in-Some.ensures.head.1;
      open_block = ended.0.clear.open_block ∙ ap Some same;
    }

pub returns-then-next_group-clause-holds : goal.returns-then-next_group-clause-holds
returns-then-next_group-clause-holds g c = holds_here (table c.args.self.now.blocks)

pub returns-in_default-clause-holds : goal.returns-in_default-clause-holds
returns-in_default-clause-holds g c = holds_here (table c.args.self.now.blocks)

pub returns-then-source-pages-clause-holds : goal.returns-then-source-pages-clause-holds
returns-then-source-pages-clause-holds g c = holds_here (table c.args.self.now.blocks)

pub returns-clause-holds : goal.returns-clause-holds
returns-clause-holds g c =
    let keeps = c.write_listed.ensures.does.keeps in
    holds_counts (table c.args.self.now.blocks) (table c.write_listed.new.blocks) keeps.committed keeps.marked keeps.uncommitted
