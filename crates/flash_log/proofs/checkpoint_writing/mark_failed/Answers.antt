use Rattle.nand_model.specs.Calls.{Device}
use Rattle.block_state.specs.Table.{Table}
use Rattle.block_state.specs.TableOf.{table}
use Rattle.flash_log.proofs.CheckpointKeeping.{leaves_marked, most_one, one_more}
use Rattle.flash_log.proofs.CheckpointNoting.{none_marked}
use Rattle.flash_log.proofs.checkpoint_writing.mark_failed.Goals as goal

pub returns-then-bad_count-spare-clause-leaves : goal.returns-then-bad_count-spare-clause-leaves
returns-then-bad_count-spare-clause-leaves g c =
    let d : Device = g.N.Nand.state c.args.device.now in
    let e : Device = g.N.Nand.state c.mark_block.new.device in
    let t : Table = table c.args.blocks.now in
    let u : Table = table c.mark_block.new.blocks in
    let m = c.mark_block.ensures in
    let b = c.requires.block in
    leaves_marked c.args.block d e t u c.mark_block.result b.within b.good b.uncommitted m.marks m.notes m.can_write m.numbers m.newest b.open_block b.first

pub returns-then-bad_count-spare-clause-marks : goal.returns-then-bad_count-spare-clause-marks
returns-then-bad_count-spare-clause-marks g c =
    let d : Device = g.N.Nand.state c.args.device.now in
    let e : Device = g.N.Nand.state c.mark_block.new.device in
    let t : Table = table c.args.blocks.now in
    let u : Table = table c.mark_block.new.blocks in
    let m = c.mark_block.ensures in
    let b = c.requires.block in
    most_one c.args.block d e t u c.mark_block.result b.within b.good b.uncommitted m.marks m.notes

pub returns-else-bad_count-spare-clause-leaves : goal.returns-else-bad_count-spare-clause-leaves
returns-else-bad_count-spare-clause-leaves g c =
    let d : Device = g.N.Nand.state c.args.device.now in
    let e : Device = g.N.Nand.state c.mark_block.new.device in
    let t : Table = table c.args.blocks.now in
    let u : Table = table c.mark_block.new.blocks in
    let m = c.mark_block.ensures in
    let b = c.requires.block in
    leaves_marked c.args.block d e t u c.mark_block.result b.within b.good b.uncommitted m.marks m.notes m.can_write m.numbers m.newest b.open_block b.first

pub returns-else-bad_count-spare-clause-marks : goal.returns-else-bad_count-spare-clause-marks
returns-else-bad_count-spare-clause-marks g c =
    let d : Device = g.N.Nand.state c.args.device.now in
    let e : Device = g.N.Nand.state c.mark_block.new.device in
    let t : Table = table c.args.blocks.now in
    let u : Table = table c.mark_block.new.blocks in
    let m = c.mark_block.ensures in
    let b = c.requires.block in
    most_one c.args.block d e t u c.mark_block.result b.within b.good b.uncommitted m.marks m.notes

pub returns-else-bad_count-spare-clause-ends : goal.returns-else-bad_count-spare-clause-ends
returns-else-bad_count-spare-clause-ends g c =
    let d : Device = g.N.Nand.state c.args.device.now in
    let e : Device = g.N.Nand.state c.mark_block.new.device in
    let t : Table = table c.args.blocks.now in
    let u : Table = table c.mark_block.new.blocks in
    let m = c.mark_block.ensures in
    let b = c.requires.block in
    (one_more c.args.block d e t u c.mark_block.result b.within b.good b.uncommitted m.marks m.notes c.in-Ok.ensures.marks.bad, none_marked c.args.block e.flash t u m.notes b.first c.in-Ok.ensures.marks.bad, c.in-Ok.ensures.marks.ends.is)

pub returns-in-Err-clause-leaves : goal.returns-in-Err-clause-leaves
returns-in-Err-clause-leaves g c =
    let d : Device = g.N.Nand.state c.args.device.now in
    let e : Device = g.N.Nand.state c.mark_block.new.device in
    let t : Table = table c.args.blocks.now in
    let u : Table = table c.mark_block.new.blocks in
    let m = c.mark_block.ensures in
    let b = c.requires.block in
    leaves_marked c.args.block d e t u c.mark_block.result b.within b.good b.uncommitted m.marks m.notes m.can_write m.numbers m.newest b.open_block b.first

pub returns-in-Err-clause-marks : goal.returns-in-Err-clause-marks
returns-in-Err-clause-marks g c =
    let d : Device = g.N.Nand.state c.args.device.now in
    let e : Device = g.N.Nand.state c.mark_block.new.device in
    let t : Table = table c.args.blocks.now in
    let u : Table = table c.mark_block.new.blocks in
    let m = c.mark_block.ensures in
    let b = c.requires.block in
    most_one c.args.block d e t u c.mark_block.result b.within b.good b.uncommitted m.marks m.notes
