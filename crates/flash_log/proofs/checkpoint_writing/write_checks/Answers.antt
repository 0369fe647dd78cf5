use Rattle.std.proofs.Common.{◌≡◌, ℕ, true, refl, sym, ap, ◌∙◌, arith}
use Rattle.nand_model.specs.Calls.{Device}
use Rattle.nand_model.specs.declared.geometry.Geometry.{Geometry}
use Rattle.page_tags.specs.Checks.{check_page}
use Rattle.block_state.specs.Table.{Table}
use Rattle.block_state.specs.TableOf.{table}
use Rattle.transactions.specs.Checking.{WritesCheckpoint}
use Rattle.flash_log.specs.CheckpointSource.{CanList, index_entries}
use Rattle.flash_log.specs.CheckpointListing.{committed_keys}
use Rattle.chunk_index.specs.Maps.{committed_pages}
use Rattle.flash_log.specs.CheckpointWriting.{MayTake}
use Rattle.flash_log.specs.contracts.checkpoint_source.ChecksPageSource.TheImpl.{ghosts}
use Rattle.flash_log.specs.declared.checkpoint_source.Checks.{Checks}
use Rattle.flash_log.proofs.CheckpointWritten.{same_size, block_after, good_now, committed_now, bad_same, bad_noted, leaves_noted, leaves_group, marks_noted, marks_group, whole}
use Rattle.flash_log.proofs.checkpoint_writing.write_checks.Goals as goal

-- the pages are those of a checkpoint
abbrev written : (checks : Checks) (block : ℕ) (d : Device) (t : Table) → CanList checks d.geometry t.next_group → MayTake block checks.index.now d t → d.honest ≡ true → WritesCheckpoint ghosts checks d t
written checks block d t list take honest = record {
  block = block;
  open_block = take.open_block;
  first = take.next;
  entries = index_entries checks.index.now;
  size = same_size checks d.geometry t.next_group list;
  names = λ i lt. refl;
  bytes = λ i lt. ap (λ (g : Geometry). check_page g.bytes (index_entries checks.index.now) i) list.geometry;
  each = take.entries;
  rise = take.rise;
  apart = take.apart;
  ordinary = take.ordinary honest;
  fresh = take.fresh honest;
}

pub note-requires-clause-block : goal.note-requires-clause-block
note-requires-clause-block g c =
    let d : Device = g.N.Nand.state c.args.device.now in
    let e : Device = g.N.Nand.state c.write_checkpoint.new.device in
    let t : Table = table c.args.blocks.now in
    let u : Table = table c.write_checkpoint.new.blocks in
    let w = c.write_checkpoint.ensures in
    block_after ghosts c.args.checks.now d e t u c.write_checkpoint.result c.args.block c.requires.take.open_block c.requires.can_write w.lasts w.group (written c.args.checks.now c.args.block d t c.requires.list c.requires.take) w.can_write

pub note-requires-clause-good : goal.note-requires-clause-good
note-requires-clause-good g c =
    let d : Device = g.N.Nand.state c.args.device.now in
    let e : Device = g.N.Nand.state c.write_checkpoint.new.device in
    let t : Table = table c.args.blocks.now in
    let u : Table = table c.write_checkpoint.new.blocks in
    let w = c.write_checkpoint.ensures in
    good_now ghosts c.args.checks.now d e t u c.write_checkpoint.result c.args.block c.requires.take.open_block c.requires.can_write w.lasts w.group (written c.args.checks.now c.args.block d t c.requires.list c.requires.take) w.can_write

pub note-requires-clause-uncommitted : goal.note-requires-clause-uncommitted
note-requires-clause-uncommitted g c =
    let d : Device = g.N.Nand.state c.args.device.now in
    let e : Device = g.N.Nand.state c.write_checkpoint.new.device in
    let t : Table = table c.args.blocks.now in
    let u : Table = table c.write_checkpoint.new.blocks in
    let w = c.write_checkpoint.ensures in
    committed_now ghosts c.args.checks.now d e t u c.write_checkpoint.result c.args.block c.requires.take.open_block c.requires.can_write w.lasts w.group (written c.args.checks.now c.args.block d t c.requires.list c.requires.take) c.requires.take.uncommitted

pub note-requires-in-Err-Gone-clause-block : goal.note-requires-in-Err-Gone-clause-block
note-requires-in-Err-Gone-clause-block g c =
    let d : Device = g.N.Nand.state c.args.device.now in
    let e : Device = g.N.Nand.state c.write_checkpoint.new.device in
    let t : Table = table c.args.blocks.now in
    let u : Table = table c.write_checkpoint.new.blocks in
    let w = c.write_checkpoint.ensures in
    block_after ghosts c.args.checks.now d e t u c.write_checkpoint.result c.args.block c.requires.take.open_block c.requires.can_write w.lasts w.group (written c.args.checks.now c.args.block d t c.requires.list c.requires.take) w.can_write

pub note-requires-in-Err-Gone-clause-good : goal.note-requires-in-Err-Gone-clause-good
note-requires-in-Err-Gone-clause-good g c =
    let d : Device = g.N.Nand.state c.args.device.now in
    let e : Device = g.N.Nand.state c.write_checkpoint.new.device in
    let t : Table = table c.args.blocks.now in
    let u : Table = table c.write_checkpoint.new.blocks in
    let w = c.write_checkpoint.ensures in
    good_now ghosts c.args.checks.now d e t u c.write_checkpoint.result c.args.block c.requires.take.open_block c.requires.can_write w.lasts w.group (written c.args.checks.now c.args.block d t c.requires.list c.requires.take) w.can_write

pub note-requires-in-Err-Gone-clause-uncommitted : goal.note-requires-in-Err-Gone-clause-uncommitted
note-requires-in-Err-Gone-clause-uncommitted g c =
    let d : Device = g.N.Nand.state c.args.device.now in
    let e : Device = g.N.Nand.state c.write_checkpoint.new.device in
    let t : Table = table c.args.blocks.now in
    let u : Table = table c.write_checkpoint.new.blocks in
    let w = c.write_checkpoint.ensures in
    committed_now ghosts c.args.checks.now d e t u c.write_checkpoint.result c.args.block c.requires.take.open_block c.requires.can_write w.lasts w.group (written c.args.checks.now c.args.block d t c.requires.list c.requires.take) c.requires.take.uncommitted

pub returns-then-placed-clause-leaves : goal.returns-then-placed-clause-leaves
returns-then-placed-clause-leaves g c =
    let d : Device = g.N.Nand.state c.args.device.now in
    let e : Device = g.N.Nand.state c.write_checkpoint.new.device in
    let t : Table = table c.args.blocks.now in
    let u : Table = table c.write_checkpoint.new.blocks in
    let w = c.write_checkpoint.ensures in
    let after = c.in-Ok.ensures.checked in
    leaves_noted ghosts c.args.checks.now d e t u c.write_checkpoint.result c.args.block c.requires.take.open_block c.requires.can_write w.lasts w.group (written c.args.checks.now c.args.block d t c.requires.list c.requires.take) (table c.note.new.blocks) c.note.ensures w.can_write c.requires.number (w.group.quiet tt)
    (λ lists honest was. after (record { honest = honest; writes = written c.args.checks.now c.args.block d t c.requires.list c.requires.take honest; tree = lists honest }) was c.args.block c.requires.take.open_block)

pub returns-then-placed-clause-block : goal.returns-then-placed-clause-block
returns-then-placed-clause-block g c =
    let d : Device = g.N.Nand.state c.args.device.now in
    let e : Device = g.N.Nand.state c.write_checkpoint.new.device in
    let t : Table = table c.args.blocks.now in
    let u : Table = table c.write_checkpoint.new.blocks in
    let w = c.write_checkpoint.ensures in
    marks_noted ghosts c.args.checks.now d e t u c.write_checkpoint.result c.args.block c.requires.take.open_block c.requires.can_write w.lasts w.group (written c.args.checks.now c.args.block d t c.requires.list c.requires.take) (table c.note.new.blocks) c.note.ensures w.can_write c.requires.take.uncommitted

pub returns-then-placed-clause-counts : goal.returns-then-placed-clause-counts
returns-then-placed-clause-counts g c =
    let d : Device = g.N.Nand.state c.args.device.now in
    let e : Device = g.N.Nand.state c.write_checkpoint.new.device in
    let t : Table = table c.args.blocks.now in
    let u : Table = table c.write_checkpoint.new.blocks in
    let w = c.write_checkpoint.ensures in
    (bad_noted ghosts c.args.checks.now d e t u c.write_checkpoint.result c.args.block c.requires.take.open_block c.requires.can_write w.lasts w.group (written c.args.checks.now c.args.block d t c.requires.list c.requires.take) (table c.note.new.blocks) c.note.ensures, (omega (arith, c.in-Ok.ensures.group.ends.2)))

pub returns-else-placed-clause-leaves : goal.returns-else-placed-clause-leaves
returns-else-placed-clause-leaves g c =
    let d : Device = g.N.Nand.state c.args.device.now in
    let e : Device = g.N.Nand.state c.write_checkpoint.new.device in
    let t : Table = table c.args.blocks.now in
    let u : Table = table c.write_checkpoint.new.blocks in
    let w = c.write_checkpoint.ensures in
    let after = c.in-Ok.ensures.checked in
    leaves_noted ghosts c.args.checks.now d e t u c.write_checkpoint.result c.args.block c.requires.take.open_block c.requires.can_write w.lasts w.group (written c.args.checks.now c.args.block d t c.requires.list c.requires.take) (table c.note.new.blocks) c.note.ensures w.can_write c.requires.number (w.group.quiet tt)
    (λ lists honest was. after (record { honest = honest; writes = written c.args.checks.now c.args.block d t c.requires.list c.requires.take honest; tree = lists honest }) was c.args.block c.requires.take.open_block)

pub returns-else-placed-clause-block : goal.returns-else-placed-clause-block
returns-else-placed-clause-block g c =
    let d : Device = g.N.Nand.state c.args.device.now in
    let e : Device = g.N.Nand.state c.write_checkpoint.new.device in
    let t : Table = table c.args.blocks.now in
    let u : Table = table c.write_checkpoint.new.blocks in
    let w = c.write_checkpoint.ensures in
    marks_noted ghosts c.args.checks.now d e t u c.write_checkpoint.result c.args.block c.requires.take.open_block c.requires.can_write w.lasts w.group (written c.args.checks.now c.args.block d t c.requires.list c.requires.take) (table c.note.new.blocks) c.note.ensures w.can_write c.requires.take.uncommitted

pub returns-else-placed-clause-counts : goal.returns-else-placed-clause-counts
returns-else-placed-clause-counts g c =
    let d : Device = g.N.Nand.state c.args.device.now in
    let e : Device = g.N.Nand.state c.write_checkpoint.new.device in
    let t : Table = table c.args.blocks.now in
    let u : Table = table c.write_checkpoint.new.blocks in
    let w = c.write_checkpoint.ensures in
    (bad_noted ghosts c.args.checks.now d e t u c.write_checkpoint.result c.args.block c.requires.take.open_block c.requires.can_write w.lasts w.group (written c.args.checks.now c.args.block d t c.requires.list c.requires.take) (table c.note.new.blocks) c.note.ensures, (omega (arith, c.in-Ok.ensures.group.ends.2)))

pub returns-in-Err-Gone-clause-leaves : goal.returns-in-Err-Gone-clause-leaves
returns-in-Err-Gone-clause-leaves g c =
    let d : Device = g.N.Nand.state c.args.device.now in
    let e : Device = g.N.Nand.state c.write_checkpoint.new.device in
    let t : Table = table c.args.blocks.now in
    let u : Table = table c.write_checkpoint.new.blocks in
    let w = c.write_checkpoint.ensures in
    let after = (rw c.in-Err-Gone.field-0-is at c.in-Err-Gone.ensures.checked) in
    leaves_noted ghosts c.args.checks.now d e t u c.write_checkpoint.result c.args.block c.requires.take.open_block c.requires.can_write w.lasts w.group (written c.args.checks.now c.args.block d t c.requires.list c.requires.take) (table c.note-in-Err-Gone.new.blocks) c.note-in-Err-Gone.ensures w.can_write c.requires.number (w.group.quiet tt)
    (λ lists honest was. after (record { honest = honest; writes = written c.args.checks.now c.args.block d t c.requires.list c.requires.take honest; tree = lists honest }) was c.args.block c.requires.take.open_block)

pub returns-in-Err-Gone-clause-block : goal.returns-in-Err-Gone-clause-block
returns-in-Err-Gone-clause-block g c =
    let d : Device = g.N.Nand.state c.args.device.now in
    let e : Device = g.N.Nand.state c.write_checkpoint.new.device in
    let t : Table = table c.args.blocks.now in
    let u : Table = table c.write_checkpoint.new.blocks in
    let w = c.write_checkpoint.ensures in
    marks_noted ghosts c.args.checks.now d e t u c.write_checkpoint.result c.args.block c.requires.take.open_block c.requires.can_write w.lasts w.group (written c.args.checks.now c.args.block d t c.requires.list c.requires.take) (table c.note-in-Err-Gone.new.blocks) c.note-in-Err-Gone.ensures w.can_write c.requires.take.uncommitted

pub returns-in-Err-Gone-clause-counts : goal.returns-in-Err-Gone-clause-counts
returns-in-Err-Gone-clause-counts g c =
    let d : Device = g.N.Nand.state c.args.device.now in
    let e : Device = g.N.Nand.state c.write_checkpoint.new.device in
    let t : Table = table c.args.blocks.now in
    let u : Table = table c.write_checkpoint.new.blocks in
    let w = c.write_checkpoint.ensures in
    let ends = rw c.in-Err-Gone.field-0-is at c.in-Err-Gone.ensures.group.ends in
    (bad_noted ghosts c.args.checks.now d e t u c.write_checkpoint.result c.args.block c.requires.take.open_block c.requires.can_write w.lasts w.group (written c.args.checks.now c.args.block d t c.requires.list c.requires.take) (table c.note-in-Err-Gone.new.blocks) c.note-in-Err-Gone.ensures, ends.1)

pub returns-in-Err-Failed-clause-leaves : goal.returns-in-Err-Failed-clause-leaves
returns-in-Err-Failed-clause-leaves g c =
    let d : Device = g.N.Nand.state c.args.device.now in
    let e : Device = g.N.Nand.state c.write_checkpoint.new.device in
    let t : Table = table c.args.blocks.now in
    let u : Table = table c.write_checkpoint.new.blocks in
    let w = c.write_checkpoint.ensures in
    let after = rw c.in-Err-Failed.field-0-is at c.in-Err-Failed.ensures.checked in
    let ends = rw c.in-Err-Failed.field-0-is at c.in-Err-Failed.ensures.group.table in
    leaves_group ghosts c.args.checks.now d e t u c.write_checkpoint.result c.args.block c.requires.take.open_block c.requires.can_write w.lasts w.group (written c.args.checks.now c.args.block d t c.requires.list c.requires.take) w.can_write c.requires.number (w.group.quiet tt) (ap (λ (x : Table). x.open_block) ends) (ap (λ (x : Table). x.checkpoint) ends)
    (λ lists honest was. after (record { honest = honest; writes = written c.args.checks.now c.args.block d t c.requires.list c.requires.take honest; tree = lists honest }) was c.args.block c.requires.take.open_block)

pub returns-in-Err-Failed-clause-block : goal.returns-in-Err-Failed-clause-block
returns-in-Err-Failed-clause-block g c =
    let d : Device = g.N.Nand.state c.args.device.now in
    let e : Device = g.N.Nand.state c.write_checkpoint.new.device in
    let t : Table = table c.args.blocks.now in
    let u : Table = table c.write_checkpoint.new.blocks in
    let w = c.write_checkpoint.ensures in
    let ends = rw c.in-Err-Failed.field-0-is at c.in-Err-Failed.ensures.group.table in
    marks_group ghosts c.args.checks.now d e t u c.write_checkpoint.result c.args.block c.requires.take.open_block c.requires.can_write w.lasts w.group (written c.args.checks.now c.args.block d t c.requires.list c.requires.take) w.can_write c.requires.take.uncommitted (ap (λ (x : Table). x.open_block) ends) (ap (λ (x : Table). x.checkpoint) ends)

pub returns-in-Err-Failed-clause-counts : goal.returns-in-Err-Failed-clause-counts
returns-in-Err-Failed-clause-counts g c =
    let d : Device = g.N.Nand.state c.args.device.now in
    let e : Device = g.N.Nand.state c.write_checkpoint.new.device in
    let t : Table = table c.args.blocks.now in
    let u : Table = table c.write_checkpoint.new.blocks in
    let w = c.write_checkpoint.ensures in
    let ends = rw c.in-Err-Failed.field-0-is at c.in-Err-Failed.ensures.group.ends in
    (bad_same ghosts c.args.checks.now d e t u c.write_checkpoint.result c.args.block c.requires.take.open_block c.requires.can_write w.lasts w.group (written c.args.checks.now c.args.block d t c.requires.list c.requires.take), ends.3)

pub returns-in-Err-Lost-clause-leaves : goal.returns-in-Err-Lost-clause-leaves
returns-in-Err-Lost-clause-leaves g c =
    let d : Device = g.N.Nand.state c.args.device.now in
    let e : Device = g.N.Nand.state c.write_checkpoint.new.device in
    let t : Table = table c.args.blocks.now in
    let u : Table = table c.write_checkpoint.new.blocks in
    let w = c.write_checkpoint.ensures in
    let after = rw c.in-Err-Lost.field-0-is at c.in-Err-Lost.ensures.checked in
    let ends = rw c.in-Err-Lost.field-0-is at c.in-Err-Lost.ensures.group.table in
    leaves_group ghosts c.args.checks.now d e t u c.write_checkpoint.result c.args.block c.requires.take.open_block c.requires.can_write w.lasts w.group (written c.args.checks.now c.args.block d t c.requires.list c.requires.take) w.can_write c.requires.number (w.group.quiet tt) (ap (λ (x : Table). x.open_block) ends) (ap (λ (x : Table). x.checkpoint) ends)
    (λ lists honest was. after (record { honest = honest; writes = written c.args.checks.now c.args.block d t c.requires.list c.requires.take honest; tree = lists honest }) was c.args.block c.requires.take.open_block)

pub returns-in-Err-Lost-clause-block : goal.returns-in-Err-Lost-clause-block
returns-in-Err-Lost-clause-block g c =
    let d : Device = g.N.Nand.state c.args.device.now in
    let e : Device = g.N.Nand.state c.write_checkpoint.new.device in
    let t : Table = table c.args.blocks.now in
    let u : Table = table c.write_checkpoint.new.blocks in
    let w = c.write_checkpoint.ensures in
    let ends = rw c.in-Err-Lost.field-0-is at c.in-Err-Lost.ensures.group.table in
    marks_group ghosts c.args.checks.now d e t u c.write_checkpoint.result c.args.block c.requires.take.open_block c.requires.can_write w.lasts w.group (written c.args.checks.now c.args.block d t c.requires.list c.requires.take) w.can_write c.requires.take.uncommitted (ap (λ (x : Table). x.open_block) ends) (ap (λ (x : Table). x.checkpoint) ends)

pub returns-in-Err-Lost-clause-counts : goal.returns-in-Err-Lost-clause-counts
returns-in-Err-Lost-clause-counts g c =
    let d : Device = g.N.Nand.state c.args.device.now in
    let e : Device = g.N.Nand.state c.write_checkpoint.new.device in
    let t : Table = table c.args.blocks.now in
    let u : Table = table c.write_checkpoint.new.blocks in
    let w = c.write_checkpoint.ensures in
    let ends = rw c.in-Err-Lost.field-0-is at c.in-Err-Lost.ensures.group.ends in
    (bad_same ghosts c.args.checks.now d e t u c.write_checkpoint.result c.args.block c.requires.take.open_block c.requires.can_write w.lasts w.group (written c.args.checks.now c.args.block d t c.requires.list c.requires.take), ends.1)

pub returns-else-placed-clause-ends : goal.returns-else-placed-clause-ends
returns-else-placed-clause-ends g c =
    let d : Device = g.N.Nand.state c.args.device.now in
    let e : Device = g.N.Nand.state c.write_checkpoint.new.device in
    let t : Table = table c.args.blocks.now in
    let u : Table = table c.write_checkpoint.new.blocks in
    let w = c.write_checkpoint.ensures in (
      record {
        checkpoint = record { block = c.args.block; size = c.args.checks.now.pages; number = t.next_group; seq = (t.entry c.args.block).seq; entries = index_entries c.args.checks.now.index.now };
        keys = committed_keys (committed_pages c.args.checks.now.index.now);
        lists = c.requires.list.lists;
        entries = refl;
        noted = ap (λ (x : Table). x.checkpoint) c.note.ensures;
        whole = λ honest.
            let was : d.honest ≡ true = sym w.lasts.honest ∙ honest in
            whole ghosts c.args.checks.now d e t u c.write_checkpoint.result c.args.block c.requires.take.open_block c.requires.can_write w.lasts w.group (written c.args.checks.now c.args.block d t c.requires.list c.requires.take) (written c.args.checks.now c.args.block d t c.requires.list c.requires.take was) refl (c.in-Ok.ensures.group.groups was c.args.block c.requires.take.open_block);
      },
      c.in-Ok.ensures.group.ends.1,
    )
