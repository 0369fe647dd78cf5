use Rattle.std.proofs.Common.{arith}
use Rattle.std.proofs.lemmas.Result.{err_from_is_err_and, on_ok_weaker}
use Rattle.block_state.specs.Table.{Table}
use Rattle.block_state.specs.TableOf.{table}
use Rattle.transactions.specs.Checking.{log_of}
use Rattle.flash_log.specs.laws.Moves.{are_held}
use Rattle.flash_log.specs.laws.Steps.{step_on}
use Rattle.flash_log.proofs.Collected.{collected_open, ends_retired, out_retired, pays_retired}
use Rattle.flash_log.proofs.Refreshed.{anew_after, anew_none}
use Rattle.flash_log.proofs.log.Log.collect.Goals as goal

pub returns-in_err-move_committed-clause-pays : goal.returns-in_err-move_committed-clause-pays
returns-in_err-move_committed-clause-pays g c =
    let pays = c.in_err-move_committed.ensures.pays in
    let p = err_from_is_err_and c.from_residual.result c.from_residual.ensures.1 in
    rw p.1 (record { costs = pays.costs; marks = pays.marks; answers = tt; reads = pays.reads })

pub returns-in-Trusted-clause-pays : goal.returns-in-Trusted-clause-pays
returns-in-Trusted-clause-pays g c =
    let pays = (rw c.in-Trusted.is at c.in_ok-move_committed.ensures).pays in
    record { costs = pays.costs; marks = pays.marks; answers = pays.answers; reads = pays.reads }

pub returns-in-Trusted-clause-ends : goal.returns-in-Trusted-clause-ends
returns-in-Trusted-clause-ends g c =
    let moved = rw c.in-Trusted.is at c.in_ok-move_committed.ensures in
    let reserve = moved.within_limit in
    let same = c.move_committed.ensures.terms.spare in (
      collected_open c.args.block moved.ends.1.0 c.args.self.now.spare (g.N.Nand.state c.move_committed.new.self.device) (table c.args.self.now.blocks) (table c.move_committed.new.self.blocks) c.move_committed.new.self.index c.requires.has_committed
          moved.ends.1.1 moved.ends.0.uncommitted (omega (arith, reserve, same)) moved.step.consistent,
      moved.ends.2,
    )

pub retire-requires-clause-within_limit : goal.retire-requires-clause-within_limit
retire-requires-clause-within_limit g c = (rw c.in-Suspect.is at c.in_ok-move_committed.ensures).within_limit

pub retire-requires-clause-none : goal.retire-requires-clause-none
retire-requires-clause-none g c = (rw c.in-Suspect.is at c.in_ok-move_committed.ensures).ends.3

pub returns-in-Suspect-clause-step : goal.returns-in-Suspect-clause-step
returns-in-Suspect-clause-step g c =
    step_on c.args.self.now.spare (log_of (g.N.Nand.state c.args.self.now.device) (table c.args.self.now.blocks)) (log_of (g.N.Nand.state c.move_committed.new.self.device) (table c.move_committed.new.self.blocks))
    (log_of (g.N.Nand.state c.retire.new.self.device) (table c.retire.new.self.blocks)) c.args.self.now.index c.move_committed.new.self.index c.retire.new.self.index c.in_ok-move_committed.ensures.step (rw c.move_committed.ensures.terms.spare at c.retire.ensures).step

pub returns-in-Suspect-clause-out : goal.returns-in-Suspect-clause-out
returns-in-Suspect-clause-out g c =
    let moved = rw c.in-Suspect.is at c.in_ok-move_committed.ensures in
    out_retired c.args.block c.in-Suspect.copies c.args.self.now.spare (g.N.Nand.state c.args.self.now.device) (table c.args.self.now.blocks) (table c.move_committed.new.self.blocks)
    c.args.self.now.index c.move_committed.new.self.index c.retire.new.self.index (c.the_counts_are_of_the_keys.ensures.none c.args.self.now.index)
    c.args.self.now.consistent moved.ends.1.0 moved.out (rw c.move_committed.ensures.terms.spare at c.retire.ensures).out

pub returns-in-Suspect-clause-pays : goal.returns-in-Suspect-clause-pays
returns-in-Suspect-clause-pays g c =
    let moved = rw c.in-Suspect.is at c.in_ok-move_committed.ensures in
    pays_retired c.args.block c.in-Suspect.copies (g.N.Nand.state c.args.self.now.device) (g.N.Nand.state c.move_committed.new.self.device) (g.N.Nand.state c.retire.new.self.device)
    (table c.args.self.now.blocks) (table c.move_committed.new.self.blocks) (table c.retire.new.self.blocks) c.retire.result moved.step.lasts.geometry moved.pays (rw c.move_committed.ensures.terms.spare at c.retire.ensures).pays

pub returns-in-Suspect-clause-ends : goal.returns-in-Suspect-clause-ends
returns-in-Suspect-clause-ends g c =
    let moved = rw c.in-Suspect.is at c.in_ok-move_committed.ensures in
    ends_retired c.args.block c.in-Suspect.copies c.args.self.now.spare (g.N.Nand.state c.retire.new.self.device) (table c.args.self.now.blocks) (table c.move_committed.new.self.blocks)
    (table c.retire.new.self.blocks) c.retire.result c.requires.has_committed moved.ends.1.0 moved.ends.0.uncommitted (rw c.move_committed.ensures.terms.spare at c.retire.ensures).ends

pub returns-in-Trusted-clause-anew : goal.returns-in-Trusted-clause-anew
returns-in-Trusted-clause-anew g c =
    let moved = rw c.in-Trusted.is at c.in_ok-move_committed.ensures in
    let y = c.move_committed.new.self.index in
    let t : Table = table c.move_committed.new.self.blocks in
    anew_none c.args.block (log_of (g.N.Nand.state c.args.self.now.device) (table c.args.self.now.blocks)) (log_of (g.N.Nand.state c.move_committed.new.self.device) t) y
    (are_held t y (c.the_counts_are_of_the_keys.ensures.none y) moved.step.consistent.tables.counts) moved.ends.0.uncommitted

pub returns-in-Suspect-clause-anew : goal.returns-in-Suspect-clause-anew
returns-in-Suspect-clause-anew g c =
    let moved = rw c.in-Suspect.is at c.in_ok-move_committed.ensures in
    on_ok_weaker c.retire.result
    (λ fills. anew_after c.args.self.now.spare c.args.block (log_of (g.N.Nand.state c.args.self.now.device) (table c.args.self.now.blocks)) (log_of (g.N.Nand.state c.move_committed.new.self.device) (table c.move_committed.new.self.blocks))
    (log_of (g.N.Nand.state c.retire.new.self.device) (table c.retire.new.self.blocks)) c.args.self.now.index c.move_committed.new.self.index c.retire.new.self.index moved.step moved.ends.0.uncommitted fills)
    (rw c.move_committed.ensures.terms.spare at c.retire.ensures).anew
