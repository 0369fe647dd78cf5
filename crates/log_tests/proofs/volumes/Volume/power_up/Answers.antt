use Rattle.std.proofs.Common.{refl, sym, subst, None}
use Rattle.nand_model.specs.MemoryState.{device}
use Rattle.block_state.specs.Table.{Table}
use Rattle.block_state.specs.TableOf.{table}
use Rattle.transactions.specs.Ready.{IsReady}
use Rattle.transactions.specs.laws.Ready.{ready_powered, ready_closed}
use Rattle.log_tests.proofs.volumes.Volume.power_up.Goals as goal

pub invariant_of-self : goal.invariant_of-self
invariant_of-self c =
    let t : Table = table c.args.self.now.blocks in
    let closed = ready_closed _ t c.args.self.now.can_write in
    record { can_write = subst (λ (x : Table). IsReady (device c.power_up.new.self) x) (sym c.close.ensures) (ready_powered _ _ (record t { open_block = None }) closed refl c.power_up.ensures.power) }
