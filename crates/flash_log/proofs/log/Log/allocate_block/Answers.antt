use Rattle.std.proofs.Common.{sym, subst}
use Rattle.nand_model.specs.declared.geometry.Geometry.{Geometry}
use Rattle.block_state.specs.TableOf.{table}
use Rattle.transactions.specs.Checking.{log_of}
use Rattle.flash_log.specs.Room.{IsRoomFor}
use Rattle.flash_log.specs.laws.Mountable.{mountable_after}
use Rattle.flash_log.proofs.Allocated.{step_tried}
use Rattle.flash_log.proofs.log.Log.allocate_block.Goals as goal

pub invariant_of-self : goal.invariant_of-self
invariant_of-self g c =
    let log = c.args.self.now in
    let law = c.the_counts_are_of_the_keys.ensures.none log.index in
    let took = c.take_block.ensures in
    let step = step_tried log.spare (g.N.Nand.state log.device) (g.N.Nand.state c.take_block.new.device) (table log.blocks) (table c.take_block.new.blocks) log.index law took.lasts took.can_write took.numbers took.passes log.consistent c.take_block.result took.ends in
    record {
      can_write = took.can_write;
      consistent = step.consistent;
      room_size = subst (λ (x : Geometry). IsRoomFor x log.room) (sym took.lasts.geometry) log.room_size;
      mountable = mountable_after log.origin.first log.spare (log_of (g.N.Nand.state log.device) (table log.blocks)) (log_of (g.N.Nand.state c.take_block.new.device) (table c.take_block.new.blocks)) log.index log.index step log.mountable;
    }

pub returns-clause-step : goal.returns-clause-step
returns-clause-step g c =
    let log = c.args.self.now in
    let law = c.the_counts_are_of_the_keys.ensures.none log.index in
    let took = c.take_block.ensures in
    step_tried log.spare (g.N.Nand.state log.device) (g.N.Nand.state c.take_block.new.device) (table log.blocks) (table c.take_block.new.blocks) log.index law took.lasts took.can_write took.numbers took.passes log.consistent c.take_block.result took.ends
