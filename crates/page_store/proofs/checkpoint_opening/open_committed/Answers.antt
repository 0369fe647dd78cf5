use Rattle.std.proofs.Common.{◌∙◌, sym, subst}
use Rattle.std.specs.Prelude.{List, map}
use Rattle.page_tags.specs.declared.check.CheckEntry.{CheckEntry}
use Rattle.block_state.specs.TableOf.{table}
use Rattle.chunk_index.specs.Adding.{entry_key, AreInPages, AreLow, AreWithin}
use Rattle.chunk_index.specs.Committed.{IsListOf, KeyRises}
use Rattle.chunk_index.specs.Maps.{committed_pages}
use Rattle.mount_scan.specs.FoundCheckpoint.{checkpoint_of}
use Rattle.page_store.specs.Checked.{numbers_at}
use Rattle.mount_scan.specs.FirstPages.{AreNoted}
use Rattle.page_store.proofs.Buckets.{not_true}
use Rattle.page_store.proofs.Entries.{keys_rise, keys_in_pages, keys_low, keys_within, none_there, is_free_block, opened_for}
use Rattle.page_store.proofs.TrueTables.{all_may, keeps_tree}
use Rattle.page_store.proofs.KnowingFirsts.{committed_firsts}
use Rattle.page_store.proofs.checkpoint_opening.open_committed.Goals as goal

pub returns-then-not-may_all_be_committed-clause-made : goal.returns-then-not-may_all_be_committed-clause-made
returns-then-not-may_all_be_committed-clause-made g c = λ (honest, true_flash).
    absurd (not_true c.may_all_be_committed.result c.if-not-may_all_be_committed.true
    (c.may_all_be_committed.ensures.1 (all_may (g.N.Nand.state c.args.device.now) (checkpoint_of c.args.found.now) honest (c.requires.whole honest) true_flash.truth (g.met.N.Nand.within c.args.device.now))))

pub from_committed-requires-clause-rise : goal.from_committed-requires-clause-rise
from_committed-requires-clause-rise g c = subst (λ (es : List CheckEntry). KeyRises (map entry_key es)) (sym c.deref-2.ensures.value) (keys_rise c.args.found.now.entries.items c.requires.form.rise)

pub from_committed-requires-clause-within : goal.from_committed-requires-clause-within
from_committed-requires-clause-within g c =
    subst (λ (es : List CheckEntry). AreWithin (table c.note_firsts.new.blocks).geometry.blocks (map entry_key es)) (sym c.deref-2.ensures.value)
    (keys_within (g.N.Nand.state c.args.device.now) (checkpoint_of c.args.found.now) (table c.note_firsts.new.blocks).geometry (c.may_all_be_committed.ensures.0 c.if-not-may_all_be_committed.false)
    (c.note_firsts.ensures.only.geometry ∙ c.in_ok-blocks.ensures.table.geometry))

pub from_committed-requires-clause-pages : goal.from_committed-requires-clause-pages
from_committed-requires-clause-pages g c =
    subst (λ (es : List CheckEntry). AreInPages (table c.note_firsts.new.blocks).geometry.pages (map entry_key es)) (sym c.deref-2.ensures.value)
    (keys_in_pages (g.N.Nand.state c.args.device.now) (checkpoint_of c.args.found.now) (table c.note_firsts.new.blocks).geometry (c.may_all_be_committed.ensures.0 c.if-not-may_all_be_committed.false)
    (c.note_firsts.ensures.only.geometry ∙ c.in_ok-blocks.ensures.table.geometry))

pub from_committed-requires-clause-low : goal.from_committed-requires-clause-low
from_committed-requires-clause-low g c =
    subst (λ (es : List CheckEntry). AreLow (map entry_key es)) (sym c.deref-2.ensures.value)
    (keys_low (g.N.Nand.state c.args.device.now) (checkpoint_of c.args.found.now) (c.may_all_be_committed.ensures.0 c.if-not-may_all_be_committed.false))

pub note_checkpoint-requires-clause-free : goal.note_checkpoint-requires-clause-free
note_checkpoint-requires-clause-free g c =
    let d = g.N.Nand.state c.args.device.now in
    let placed = c.may_all_be_committed.ensures.0 c.if-not-may_all_be_committed.false in
    let list = subst (λ (es : List CheckEntry). IsListOf (committed_pages c.in_ok-index.index) (map entry_key es)) c.deref-2.ensures.value c.in_ok-index.ensures.list in
    is_free_block d (checkpoint_of c.args.found.now) (numbers_at (checkpoint_of c.args.found.now)) (table c.in_ok-blocks.blocks) (table c.note_firsts.new.blocks) (table c.in_ok-index.blocks) c.in_ok-index.index c.requires.form
    c.in_ok-blocks.ensures.table c.note_firsts.ensures.only c.in_ok-index.ensures.agree c.in_ok-index.ensures.counts
    (c.the_counts_are_of_the_keys.ensures.zero c.in_ok-index.index c.args.found.now.block (none_there d (checkpoint_of c.args.found.now) c.in_ok-index.index c.requires.form placed list))

pub returns-clause-opened : goal.returns-clause-opened
returns-clause-opened g c = λ reported trusted.
    let placed = c.may_all_be_committed.ensures.0 c.if-not-may_all_be_committed.false in
    let list = subst (λ (es : List CheckEntry). IsListOf (committed_pages c.in_ok-index.index) (map entry_key es)) c.deref-2.ensures.value c.in_ok-index.ensures.list in
    opened_for (g.N.Nand.state c.args.device.now) (checkpoint_of c.args.found.now) (table c.in_ok-blocks.blocks) (table c.note_firsts.new.blocks) (table c.in_ok-index.blocks) (table c.note_checkpoint.new.self)
    c.in_ok-index.index c.requires.form placed c.requires.whole c.in_ok-blocks.ensures.table c.note_firsts.ensures.only list c.in_ok-index.ensures.shown c.in_ok-index.ensures.agree c.in_ok-index.ensures.counts
    c.note_checkpoint.ensures (c.the_counts_are_of_the_keys.ensures.zero c.in_ok-index.index c.args.found.now.block (none_there (g.N.Nand.state c.args.device.now) (checkpoint_of c.args.found.now) c.in_ok-index.index c.requires.form placed list)) reported trusted

pub returns-clause-tree : goal.returns-clause-tree
returns-clause-tree g c = λ (honest, true_flash).
    let d = g.N.Nand.state c.args.device.now in
    let placed = c.may_all_be_committed.ensures.0 c.if-not-may_all_be_committed.false in
    let list = subst (λ (es : List CheckEntry). IsListOf (committed_pages c.in_ok-index.index) (map entry_key es)) c.deref-2.ensures.value c.in_ok-index.ensures.list in
    keeps_tree d (checkpoint_of c.args.found.now) honest (c.requires.whole honest) true_flash.truth _ (table c.in_ok-index.blocks) c.requires.form placed list c.note_checkpoint.ensures

pub returns-clause-firsts : goal.returns-clause-firsts
returns-clause-firsts g c =
    let d = g.N.Nand.state c.args.device.now in
    let noted : AreNoted d d.geometry.blocks c.deref.result.now = subst (AreNoted d d.geometry.blocks) (sym c.deref.ensures.value) c.requires.firsts.noted in
    committed_firsts d (checkpoint_of c.args.found.now) (table c.in_ok-blocks.blocks) (table c.note_firsts.new.blocks) (table c.in_ok-index.blocks) (table c.note_checkpoint.new.self) c.requires.form
    c.in_ok-blocks.ensures.table c.in_ok-blocks.ensures.unwritten (c.note_firsts.ensures.knows d noted) _ c.in_ok-index.ensures.counts c.note_checkpoint.ensures
