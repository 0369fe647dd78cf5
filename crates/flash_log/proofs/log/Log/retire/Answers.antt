use Rattle.std.proofs.Common.{◌≡◌, ◌≤◌, sym, ap, subst, ◌∙◌, arith}
use Rattle.std.proofs.lemmas.Result.{on_ok_weaker}
use Rattle.nand_model.specs.Calls.{Device}
use Rattle.block_state.specs.Committed.{bad_count}
use Rattle.block_state.specs.Table.{Table}
use Rattle.block_state.specs.TableOf.{table}
use Rattle.transactions.specs.Checking.{log_of}
use Rattle.flash_log.specs.laws.Mountable.{mountable_after}
use Rattle.flash_log.specs.laws.Steps.{step_closed, step_on}
use Rattle.flash_log.specs.laws.Turns.{consistent_closed}
use Rattle.transactions.specs.Ready.{IsReady}
use Rattle.transactions.specs.laws.Ready.{ready_closed}
use Rattle.flash_log.proofs.Refreshed.{fills_closed}
use Rattle.flash_log.proofs.RetireTurns.{ends_closed}
use Rattle.flash_log.specs.Retiring.{RetireEnds}
use Rattle.flash_log.proofs.log.Log.retire.Goals as goal

pub invariant_of-self : goal.invariant_of-self
invariant_of-self g c =
    let self = c.args.self.now in
    let d : Device = g.N.Nand.state self.device in
    let t : Table = table self.blocks in
    let u : Table = table c.close.new.self in
    record {
      can_write = subst (IsReady d) (sym c.close.ensures) (ready_closed d t self.can_write);
      consistent = consistent_closed self.spare d t u self.index c.close.ensures self.consistent;
      room_size = self.room_size;
      mountable = mountable_after self.origin.first self.spare (log_of d t) (log_of d u) self.index self.index (step_closed self.spare d t u self.index c.close.ensures self.can_write self.consistent) self.mountable;
    }

pub retire_all-requires-clause-within_limit : goal.retire_all-requires-clause-within_limit
retire_all-requires-clause-within_limit g c = subst (λ (s : Table). bad_count s ≤ c.args.self.now.spare) (sym c.close.ensures) c.requires.within_limit

pub retire_all-requires-clause-good : goal.retire_all-requires-clause-good
retire_all-requires-clause-good g c =
    let d : Device = g.N.Nand.state c.args.self.now.device in
    let t : Table = table c.args.self.now.blocks in
    let u : Table = table c.close.new.self in
    ap (λ (s : Table). (s.entry c.args.block).bad) c.close.ensures ∙ c.requires.block.good

pub returns-clause-step : goal.returns-clause-step
returns-clause-step g c =
    let d : Device = g.N.Nand.state c.args.self.now.device in
    let t : Table = table c.args.self.now.blocks in
    let u : Table = table c.close.new.self in
    let x = c.args.self.now.index in
    step_on c.args.self.now.spare (log_of d t) (log_of d u) (log_of (g.N.Nand.state c.retire_all.new.self.device) (table c.retire_all.new.self.blocks)) x x c.retire_all.new.self.index
    (step_closed c.args.self.now.spare d t u x c.close.ensures c.args.self.now.can_write c.args.self.now.consistent) c.retire_all.ensures.step

pub returns-clause-pays : goal.returns-clause-pays
returns-clause-pays g c =
    let same : bad_count (table c.close.new.self) ≡ bad_count (table c.args.self.now.blocks) = ap bad_count c.close.ensures in
    let pays = c.retire_all.ensures.pays in
    record {
      costs = pays.costs;
      marks = let marks = pays.marks in omega (arith, same, marks);
      answers = on_ok_weaker c.retire_all.result (λ then. omega (arith, same, then)) pays.answers;
      reads = pays.reads;
    }

pub returns-clause-anew : goal.returns-clause-anew
returns-clause-anew g c =
    let d : Device = g.N.Nand.state c.args.self.now.device in
    let t : Table = table c.args.self.now.blocks in
    let u : Table = table c.close.new.self in
    on_ok_weaker c.retire_all.result (λ fills. fills_closed d (g.N.Nand.state c.retire_all.new.self.device) t u (table c.retire_all.new.self.blocks) c.retire_all.new.self.index c.close.ensures fills) c.retire_all.ensures.anew

pub returns-clause-ends : goal.returns-clause-ends
returns-clause-ends g c =
    let d : Device = g.N.Nand.state c.args.self.now.device in
    let t : Table = table c.args.self.now.blocks in
    let u : Table = table c.close.new.self in
    ends_closed c.args.block c.args.self.now.spare (g.N.Nand.state c.retire_all.new.self.device) t (table c.retire_all.new.self.blocks) c.retire_all.result
    (subst (λ (s : Table). RetireEnds c.args.block c.args.self.now.spare (g.N.Nand.state c.retire_all.new.self.device) s (table c.retire_all.new.self.blocks) c.retire_all.result) c.close.ensures c.retire_all.ensures.ends)

pub returns-clause-empty : goal.returns-clause-empty
returns-clause-empty g c = λ none.
    let empty = ap (λ (s : Table). (s.entry c.args.block).committed) c.close.ensures ∙ none in
    let alone = c.retire_all.ensures.empty empty in
    record { changes = alone.changes; why = alone.why }

pub retire_all-requires-clause-none : goal.retire_all-requires-clause-none
retire_all-requires-clause-none g c = ap (λ (x : Table). x.checkpoint) c.close.ensures ∙ c.requires.none
