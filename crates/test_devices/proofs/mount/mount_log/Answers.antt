use Rattle.std.proofs.Common.{Option, refl, sym, subst}
use Rattle.nand_model.specs.MemoryState.{device}
use Rattle.block_state.specs.TableOf.{table}
use Rattle.transactions.specs.Checking.{log_of}
use Rattle.flash_log.specs.Mountable.{IsMountableSince}
use Rattle.flash_log.specs.Snapshots.{Snapshot}
use Rattle.flash_log.specs.laws.Mountable.{mountable_unknown}
use Rattle.test_devices.proofs.mount.mount_log.Goals as goal

pub invariant_of-result : goal.invariant_of-result
invariant_of-result c =
    let scanned = c.in_ok-found.ensures.scanned in
    let may = c.if-not-may_be_consistent.ensures in
    record {
      can_write = scanned.can_write;
      consistent = may.consistent refl (device c.scan_log.new.nand) scanned;
      room_size = c.in_ok-found.ensures.room;
      mountable = subst (λ (k : Option Snapshot). IsMountableSince k (log_of (device c.scan_log.new.nand) (table c.in_ok-found.found.blocks)) c.in_ok-found.found.index) (sym c.as_chosen.ensures) (mountable_unknown _ _);
    }

pub returns-clause-reserve : goal.returns-clause-reserve
returns-clause-reserve c = c.if-not-may_be_consistent.ensures.within_limit refl
