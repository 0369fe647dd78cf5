use Rattle.std.proofs.Common.{◌≤◌, Option, sym, refl, subst, rules}
use Rattle.nand_model.specs.MemoryState.{device}
use Rattle.block_state.specs.Committed.{bad_count}
use Rattle.block_state.specs.Table.{Table}
use Rattle.block_state.specs.TableOf.{table}
use Rattle.transactions.specs.Checking.{log_of}
use Rattle.flash_log.specs.Mountable.{IsMountableSince}
use Rattle.flash_log.specs.Snapshots.{Snapshot}
use Rattle.flash_log.specs.laws.Mountable.{mountable_unknown}
use Rattle.test_devices.proofs.Beside.{ready_noted, scanned_still, consistent_noted}
use Rattle.test_devices.proofs.mount.mount_log_beside.Goals as goal

pub invariant_of-result : goal.invariant_of-result
invariant_of-result c =
    let still = scanned_still _ _ _ _ _ _ c.in_ok-found.ensures.scanned c.retain.ensures.retains c.retain.ensures.agree c.retain.ensures.counts in
    record {
      can_write = ready_noted _ _ c.args.checkpoint still.closed (search rules) still.can_write (search rules) _ c.note_checkpoint.ensures;
      consistent = consistent_noted (device c.scan_log.new.nand) _ c.args.checkpoint still.closed (search rules) c.args.spare _ (c.if-not-may_be_consistent.ensures.consistent refl _ still) _ c.note_checkpoint.ensures;
      room_size = c.in_ok-found.ensures.room;
      mountable = subst (λ (k : Option Snapshot). IsMountableSince k (log_of (device c.scan_log.new.nand) (table c.note_checkpoint.new.self)) c.retain.new.self) (sym c.as_chosen.ensures) (mountable_unknown _ _);
    }

pub returns-clause-reserve : goal.returns-clause-reserve
returns-clause-reserve c = subst (λ (t : Table). bad_count t ≤ c.args.spare) (sym c.note_checkpoint.ensures) (c.if-not-may_be_consistent.ensures.within_limit refl)
