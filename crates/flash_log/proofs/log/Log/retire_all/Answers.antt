use Rattle.std.proofs.Common.{ℕ, Some, None, sym, subst, ◌∙◌}
use Rattle.std.proofs.lemmas.Result.{err_from_is_err_and}
use Rattle.nand_model.specs.Calls.{Device}
use Rattle.block_state.specs.Table.{Table}
use Rattle.block_state.specs.TableOf.{table}
use Rattle.chunk_index.specs.Committed.{HoldsNone}
use Rattle.chunk_index.specs.Maps.{committed_pages}
use Rattle.transactions.specs.Checking.{log_of}
use Rattle.flash_tree.specs.laws.Truth.{none_after}
use Rattle.flash_log.specs.laws.Moves.{are_held}
use Rattle.flash_log.proofs.RetireTurns.{Retiring, next_uncommitted, step_next, moved_next, pays_next, retiring_next, retired_all, some_none}
use Rattle.flash_log.proofs.log.Log.retire_all.Goals as goal

pub returns-in_err-suspect-clause-pays : goal.returns-in_err-suspect-clause-pays
returns-in_err-suspect-clause-pays g c =
    let pays = c.in_err-suspect.ensures.pays in
    let p = err_from_is_err_and c.from_residual.result c.from_residual.ensures.1 in
    rw p.1 (record { costs = pays.costs; marks = pays.marks; answers = tt; reads = pays.reads })

pub loop-suspect-init : goal.loop-suspect-init
loop-suspect-init g c =
    let e = c.in_ok-suspect.ensures in
    record {
      terms = e.terms;
      retiring = record { step = e.step; moved = e.out; pays = e.pays; anew = e.anew; out = e.ends.0; power = e.ends.1 };
      empty = λ none. ((e.empty none).changes, e.moves_none none);
    }

pub returns-in_err-suspect-2-clause-step : goal.returns-in_err-suspect-2-clause-step
returns-in_err-suspect-2-clause-step g c =
    let d0 : Device = g.N.Nand.state c.args.self.now.device in
    let d : Device = g.N.Nand.state c.loop-suspect.self.device in
    let t0 : Table = table c.args.self.now.blocks in
    let t : Table = table c.loop-suspect.self.blocks in
    let x0 = c.args.self.now.index in
    let x = c.loop-suspect.self.index in
    let w : ℕ = c.in-Some.next in
    let r : Retiring c.args.self.now.spare c.args.block (log_of d0 t0) (log_of d t) x0 x (Some w) = subst (Retiring c.args.self.now.spare c.args.block (log_of d0 t0) (log_of d t) x0 x) c.in-Some.is c.loop-suspect.invariant.retiring in
    let d' : Device = g.N.Nand.state c.retire_one-in-Some.new.self.device in
    let t' : Table = table c.retire_one-in-Some.new.self.blocks in
    let y = c.retire_one-in-Some.new.self.index in
    step_next c.args.self.now.spare c.args.block w d0 d t0 t x0 x r d' t' y (rw c.loop-suspect.invariant.terms.spare at c.in_err-suspect-2.ensures).step

pub returns-in_err-suspect-2-clause-out : goal.returns-in_err-suspect-2-clause-out
returns-in_err-suspect-2-clause-out g c =
    let d0 : Device = g.N.Nand.state c.args.self.now.device in
    let d : Device = g.N.Nand.state c.loop-suspect.self.device in
    let t0 : Table = table c.args.self.now.blocks in
    let t : Table = table c.loop-suspect.self.blocks in
    let x0 = c.args.self.now.index in
    let x = c.loop-suspect.self.index in
    let w : ℕ = c.in-Some.next in
    let r : Retiring c.args.self.now.spare c.args.block (log_of d0 t0) (log_of d t) x0 x (Some w) = subst (Retiring c.args.self.now.spare c.args.block (log_of d0 t0) (log_of d t) x0 x) c.in-Some.is c.loop-suspect.invariant.retiring in
    let d' : Device = g.N.Nand.state c.retire_one-in-Some.new.self.device in
    let t' : Table = table c.retire_one-in-Some.new.self.blocks in
    let y = c.retire_one-in-Some.new.self.index in
    let none : HoldsNone (committed_pages x0) w = c.the_counts_are_of_the_keys.ensures.none x0 w (sym (c.args.self.now.consistent.tables.counts.counts w) ∙ next_uncommitted c.args.self.now.spare c.args.block w d0 d t0 t x0 x r) in
    moved_next c.args.self.now.spare c.args.block w d0 d t0 t x0 x r y none (rw c.loop-suspect.invariant.terms.spare at c.in_err-suspect-2.ensures).out

pub returns-in_err-suspect-2-clause-pays : goal.returns-in_err-suspect-2-clause-pays
returns-in_err-suspect-2-clause-pays g c =
    let d0 : Device = g.N.Nand.state c.args.self.now.device in
    let d : Device = g.N.Nand.state c.loop-suspect.self.device in
    let t0 : Table = table c.args.self.now.blocks in
    let t : Table = table c.loop-suspect.self.blocks in
    let x0 = c.args.self.now.index in
    let x = c.loop-suspect.self.index in
    let w : ℕ = c.in-Some.next in
    let r : Retiring c.args.self.now.spare c.args.block (log_of d0 t0) (log_of d t) x0 x (Some w) = subst (Retiring c.args.self.now.spare c.args.block (log_of d0 t0) (log_of d t) x0 x) c.in-Some.is c.loop-suspect.invariant.retiring in
    let d' : Device = g.N.Nand.state c.retire_one-in-Some.new.self.device in
    let t' : Table = table c.retire_one-in-Some.new.self.blocks in
    let y = c.retire_one-in-Some.new.self.index in
    let pays = (rw c.loop-suspect.invariant.terms.spare at c.in_err-suspect-2.ensures).pays in
    let p = err_from_is_err_and c.from_residual-in_err-suspect-2.result c.from_residual-in_err-suspect-2.ensures.1 in
    rw p.1 (pays_next c.args.self.now.spare c.args.block w d0 d t0 t x0 x r 0 d' t' _ (record { costs = pays.costs; marks = pays.marks; answers = tt; reads = pays.reads }))

pub loop-suspect-preserved : goal.loop-suspect-preserved
loop-suspect-preserved g c =
    let d0 : Device = g.N.Nand.state c.args.self.now.device in
    let d : Device = g.N.Nand.state c.loop-suspect.self.device in
    let t0 : Table = table c.args.self.now.blocks in
    let t : Table = table c.loop-suspect.self.blocks in
    let x0 = c.args.self.now.index in
    let x = c.loop-suspect.self.index in
    let w : ℕ = c.in-Some.next in
    let r : Retiring c.args.self.now.spare c.args.block (log_of d0 t0) (log_of d t) x0 x (Some w) = subst (Retiring c.args.self.now.spare c.args.block (log_of d0 t0) (log_of d t) x0 x) c.in-Some.is c.loop-suspect.invariant.retiring in
    let d' : Device = g.N.Nand.state c.retire_one-in-Some.new.self.device in
    let t' : Table = table c.retire_one-in-Some.new.self.blocks in
    let y = c.retire_one-in-Some.new.self.index in
    let none : HoldsNone (committed_pages x0) w = c.the_counts_are_of_the_keys.ensures.none x0 w (sym (c.args.self.now.consistent.tables.counts.counts w) ∙ next_uncommitted c.args.self.now.spare c.args.block w d0 d t0 t x0 x r) in
    let e = rw c.loop-suspect.invariant.terms.spare at c.in_ok-suspect-2.ensures in
    let terms = c.in_ok-suspect-2.ensures.terms in
    record {
      terms = record { spare = terms.spare ∙ c.loop-suspect.invariant.terms.spare; first = terms.first ∙ c.loop-suspect.invariant.terms.first };
      retiring = retiring_next c.args.self.now.spare c.args.block w d0 d t0 t x0 x r d' t' y c.in_ok-suspect-2.suspect none e.step e.ends.0 e.out e.pays (are_held t' y (c.the_counts_are_of_the_keys.ensures.none y) e.step.consistent.tables.counts) e.anew e.ends.1;
      empty = λ committed. absurd (some_none w (sym c.in-Some.is ∙ (c.loop-suspect.invariant.empty committed).1));
    }

pub returns-clause-pays : goal.returns-clause-pays
returns-clause-pays g c =
    let r = subst (Retiring c.args.self.now.spare c.args.block (log_of (g.N.Nand.state c.args.self.now.device) (table c.args.self.now.blocks)) (log_of (g.N.Nand.state c.loop-suspect.self.device) (table c.loop-suspect.self.blocks)) c.args.self.now.index c.loop-suspect.self.index)
    c.in_default.is c.loop-suspect.invariant.retiring in
    record { costs = r.pays.costs; marks = r.pays.marks; answers = r.pays.answers; reads = r.pays.reads }

pub returns-clause-anew : goal.returns-clause-anew
returns-clause-anew g c =
    let r = subst (Retiring c.args.self.now.spare c.args.block (log_of (g.N.Nand.state c.args.self.now.device) (table c.args.self.now.blocks)) (log_of (g.N.Nand.state c.loop-suspect.self.device) (table c.loop-suspect.self.blocks)) c.args.self.now.index c.loop-suspect.self.index)
    c.in_default.is c.loop-suspect.invariant.retiring in
    r.anew

pub returns-clause-ends : goal.returns-clause-ends
returns-clause-ends g c =
    let d0 : Device = g.N.Nand.state c.args.self.now.device in
    let d : Device = g.N.Nand.state c.loop-suspect.self.device in
    let t0 : Table = table c.args.self.now.blocks in
    let t : Table = table c.loop-suspect.self.blocks in
    let x0 = c.args.self.now.index in
    let x = c.loop-suspect.self.index in
    let r : Retiring c.args.self.now.spare c.args.block (log_of d0 t0) (log_of d t) x0 x None = subst (Retiring c.args.self.now.spare c.args.block (log_of d0 t0) (log_of d t) x0 x) c.in_default.is c.loop-suspect.invariant.retiring in
    (retired_all c.args.self.now.spare c.args.block d0 d t0 t x0 x r, r.power)

pub returns-in_err-suspect-2-clause-empty : goal.returns-in_err-suspect-2-clause-empty
returns-in_err-suspect-2-clause-empty g c = λ committed. absurd (some_none c.in-Some.next (sym c.in-Some.is ∙ (c.loop-suspect.invariant.empty committed).1))

pub returns-in_err-suspect-clause-empty : goal.returns-in_err-suspect-clause-empty
returns-in_err-suspect-clause-empty g c = λ none.
    let p = err_from_is_err_and c.from_residual.result c.from_residual.ensures.1 in
    let alone = c.in_err-suspect.ensures.empty none in
    record { changes = alone.changes; why = rw (p.1, p.2) alone.why }

pub returns-clause-empty : goal.returns-clause-empty
returns-clause-empty g c = λ none. record { changes = (c.loop-suspect.invariant.empty none).0; why = tt }

pub retire_one-requires-in-Some-clause-none : goal.retire_one-requires-in-Some-clause-none
retire_one-requires-in-Some-clause-none g c = none_after _ _ _ _ c.loop-suspect.invariant.retiring.step.numbers.truth c.requires.none
