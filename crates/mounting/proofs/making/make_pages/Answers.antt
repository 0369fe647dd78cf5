use Rattle.block_state.specs.Table.{Table}
use Rattle.block_state.specs.TableOf.{table}
use Rattle.chunk_index.specs.Free.{HasMarks}
use Rattle.chunk_index.specs.Maps.{CountsAgree}
use Rattle.mounting.proofs.Placed.{of_table}
use Rattle.mounting.proofs.making.make_pages.Goals as goal

pub returns-clause-tables : goal.returns-clause-tables
returns-clause-tables g c =
    let on = c.args.on in
    let flash = (g.N.Nand.state on.device).flash in
    let blocks = table c.in_ok-store.store.value.log.blocks in
    let reported = c.in_ok-store.ensures.tables in
    let opened = c.requires.read.tables.tables in
    let can_write = opened.can_write (c.requires.can c.if-worn.false).can.0 in
    record {
      index = reported.0;
      marks = λ t is. of_table (HasMarks flash) t blocks (table on.blocks) reported.1 is (λ b lt. can_write.marks b);
      counts = λ t is. of_table (λ (u : Table). CountsAgree u on.index) t blocks (table on.blocks) reported.1 is opened.counts;
    }
