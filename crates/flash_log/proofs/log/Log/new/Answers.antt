use Rattle.std.proofs.Common.{Option, sym, subst}
use Rattle.nand_model.specs.declared.geometry.Geometry.{Geometry}
use Rattle.block_state.specs.TableOf.{table}
use Rattle.transactions.specs.Checking.{log_of}
use Rattle.flash_log.specs.Mountable.{IsMountableSince}
use Rattle.flash_log.specs.Snapshots.{Snapshot}
use Rattle.flash_log.specs.Room.{IsRoomFor}
use Rattle.flash_log.proofs.log.Log.new.Goals as goal

pub invariant_of-result : goal.invariant_of-result
invariant_of-result g c =
    record {
      can_write = c.requires.1.0;
      consistent = c.requires.1.1.0;
      room_size = subst (λ (k : Geometry). IsRoomFor k c.in-Ok.room) c.geometry.ensures c.in-Ok.ensures;
      mountable = subst (λ (k : Option Snapshot). IsMountableSince k (log_of (g.N.Nand.state c.args.device) (table c.args.blocks)) c.args.index) (sym c.as_chosen.ensures) c.requires.1.1.1;
    }
