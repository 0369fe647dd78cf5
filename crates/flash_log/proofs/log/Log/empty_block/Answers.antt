use Rattle.std.proofs.lemmas.Result.{err_from_is_err_and}
use Rattle.nand_model.specs.Calls.{Device}
use Rattle.block_state.specs.Table.{Table}
use Rattle.block_state.specs.TableOf.{table}
use Rattle.transactions.specs.Checking.{log_of}
use Rattle.flash_log.specs.laws.Bills.{pays_none}
use Rattle.flash_log.specs.laws.Costs.{costs_committed}
use Rattle.flash_log.specs.laws.Moves.{are_held, moves_out_none}
use Rattle.flash_log.specs.laws.Steps.{step_none}
use Rattle.flash_log.proofs.Refreshed.{fills_none}
use Rattle.flash_log.proofs.log.Log.empty_block.Goals as goal

pub returns-then-entry-eq0-clause-step : goal.returns-then-entry-eq0-clause-step
returns-then-entry-eq0-clause-step g c = step_none c.args.self.now.spare (g.N.Nand.state c.args.self.now.device) (table c.args.self.now.blocks) c.args.self.now.index c.args.self.now.can_write c.args.self.now.consistent

pub returns-then-entry-eq0-clause-out : goal.returns-then-entry-eq0-clause-out
returns-then-entry-eq0-clause-out g c = moves_out_none c.args.block c.args.self.now.index

pub returns-then-entry-eq0-clause-anew : goal.returns-then-entry-eq0-clause-anew
returns-then-entry-eq0-clause-anew g c =
    let d : Device = g.N.Nand.state c.args.self.now.device in
    let t : Table = table c.args.self.now.blocks in
    let x = c.args.self.now.index in
    fills_none (log_of d t) x (are_held t x (c.the_counts_are_of_the_keys.ensures.none x) c.args.self.now.consistent.tables.counts)

pub returns-then-entry-eq0-clause-pays : goal.returns-then-entry-eq0-clause-pays
returns-then-entry-eq0-clause-pays g c = pays_none _ _ (log_of (g.N.Nand.state c.args.self.now.device) (table c.args.self.now.blocks)) _

pub returns-in_err-move_committed-clause-pays : goal.returns-in_err-move_committed-clause-pays
returns-in_err-move_committed-clause-pays g c =
    let d : Device = g.N.Nand.state c.args.self.now.device in
    let t : Table = table c.args.self.now.blocks in
    let pays = c.in_err-move_committed.ensures.pays in
    let p = err_from_is_err_and c.from_residual.result c.from_residual.ensures.1 in
    rw p.1 (record {
      costs = costs_committed c.args.block 0 d (g.N.Nand.state c.move_committed.new.self.device) t c.args.self.now.can_write.geometry (c.args.self.now.consistent.tables.fits c.args.block) pays.costs;
      marks = pays.marks;
      answers = tt;
      reads = pays.reads;
    })

pub returns-in-Trusted-clause-pays : goal.returns-in-Trusted-clause-pays
returns-in-Trusted-clause-pays g c =
    let d : Device = g.N.Nand.state c.args.self.now.device in
    let t : Table = table c.args.self.now.blocks in
    let pays = (rw c.in-Trusted.is at c.in_ok-move_committed.ensures).pays in
    record {
      costs = costs_committed c.args.block 0 d (g.N.Nand.state c.move_committed.new.self.device) t c.args.self.now.can_write.geometry (c.args.self.now.consistent.tables.fits c.args.block) pays.costs;
      marks = pays.marks;
      answers = pays.answers;
      reads = pays.reads;
    }

pub returns-in-Suspect-clause-pays : goal.returns-in-Suspect-clause-pays
returns-in-Suspect-clause-pays g c =
    let d : Device = g.N.Nand.state c.args.self.now.device in
    let t : Table = table c.args.self.now.blocks in
    let pays = (rw c.in-Suspect.is at c.in_ok-move_committed.ensures).pays in
    record {
      costs = costs_committed c.args.block 1 d (g.N.Nand.state c.move_committed.new.self.device) t c.args.self.now.can_write.geometry (c.args.self.now.consistent.tables.fits c.args.block) pays.costs;
      marks = pays.marks;
      answers = pays.answers;
      reads = pays.reads;
    }
