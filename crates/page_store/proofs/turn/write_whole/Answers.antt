use Rattle.std.proofs.Common.{◌≡◌, ◌≤◌, ◌∙◌, ◌+◌, ◌*◌, length, refl, ap, sym, subst, arith}
use Rattle.std.proofs.lemmas.Result.{err_from_is_err_and}
use Rattle.nand_model.specs.Counts.{Costs}
use Rattle.nand_model.specs.declared.geometry.Geometry.{Geometry}
use Rattle.block_state.specs.TableOf.{table}
use Rattle.flash_log.specs.laws.Steps.{step_none, step_on}
use Rattle.flash_log.specs.RoomMaking.{WhyNoRoom}
use Rattle.page_store.specs.Buffered.{BufferedLog, held}
use Rattle.page_store.specs.Carrying.{AreWritable}
use Rattle.page_store.proofs.Costing.{costs_again, costs_last, costs_none, costs_on, had_failure, had_none, none_last, one_last, writable_on}
use Rattle.page_store.proofs.Staying.{well_short, well_written}
use Rattle.page_store.proofs.Turning.{answered_after, leaves_on, whole_after, why_before}
use Rattle.page_store.proofs.turn.write_whole.Goals as goal

pub loop-init : goal.loop-init
loop-init g c = record {
  terms = record { spare = refl; first = refl };
  step = step_none c.args.log.now.spare (g.N.Nand.state c.args.log.now.device) (table c.args.log.now.blocks) c.args.log.now.index c.args.log.now.can_write c.args.log.now.consistent;
  buffers = c.requires.buffers;
  same = refl;
  marks = omega arith;
  answers = omega arith;
  costs = costs_none (3 * (g.N.Nand.state c.args.log.now.device).geometry.pages + 3) (g.N.Nand.state c.args.log.now.device);
  reads = omega arith;
  first = λ _. refl;
  within_limit = c.requires.within_limit;
  free = c.requires.free;
  sizes = record { most = refl; bytes = refl };
}

pub take_turn-requires-clause-pages : goal.take_turn-requires-clause-pages
take_turn-requires-clause-pages g c =
    let a : BufferedLog = held c.args.log.now c.args.buffer.now in
    let b : BufferedLog = held c.loop.log c.loop.buffer in
    let so_far = c.loop.invariant in
    subst (AreWritable b.log.device) (sym so_far.same) (writable_on a.log.device b.log.device a.pages so_far.step.lasts c.requires.pages)

pub loop-preserved : goal.loop-preserved
loop-preserved g c =
    let a : BufferedLog = held c.args.log.now c.args.buffer.now in
    let b : BufferedLog = held c.loop.log c.loop.buffer in
    let d : BufferedLog = held c.take_turn.new.log c.take_turn.new.buffer in
    let so_far = c.loop.invariant in
    let again = rw c.loop.invariant.terms.spare at (rw c.in-Again.is at c.in_ok-take_turn.ensures) in
    let waits = again.ends.0 in
    let failed = had_failure b.log d.log again.ends.2 again.pays.pays.marks in
    let size : b.log.device.geometry.pages ≡ a.log.device.geometry.pages = ap (λ (z : Geometry). z.pages) so_far.step.lasts.geometry in
    let long : length b.pages ≤ a.log.device.geometry.pages = let one : d.log.device.geometry.pages ≡ b.log.device.geometry.pages = ap (λ (z : Geometry). z.pages) waits.step.lasts.geometry in omega (arith, again.ends.4, one, size) in
    let turn : Costs 0 (3 * a.log.device.geometry.pages + 3) 0 b.log.device d.log.device =
    costs_again (b.log.device.geometry.pages + 1 + length b.pages) (b.log.device.geometry.pages + 2) (3 * a.log.device.geometry.pages + 3) b.log.device d.log.device (omega (arith, long, size)) failed again.pays.pays.costs in
    record {
      terms = record { spare = again.terms.spare; first = c.take_turn.ensures.terms.first ∙ so_far.terms.first };
      step = step_on c.args.log.now.spare a.log b.log d.log a.index b.index d.index so_far.step waits.step;
      buffers = again.leaves.buffers;
      same = waits.pages ∙ so_far.same;
      marks = let marks = again.pays.pays.marks in omega (arith, so_far.marks, marks);
      answers = let answers = again.pays.pays.answers in omega (arith, so_far.answers, answers);
      costs = costs_on 0 0 (3 * a.log.device.geometry.pages + 3) a.log.device b.log.device d.log.device so_far.costs turn;
      reads = let reads = again.pays.pays.reads in omega (arith, so_far.reads, reads);
      first = λ still. absurd (had_none a.log.device b.log.device d.log.device still so_far.step.lasts.failures failed);
      within_limit = again.ends.3;
      free = again.ends.1;
      sizes = record { most = again.sizes.most ∙ so_far.sizes.most; bytes = again.sizes.bytes ∙ so_far.sizes.bytes };
    }

pub returns-in_err-take_turn-clause-leaves : goal.returns-in_err-take_turn-clause-leaves
returns-in_err-take_turn-clause-leaves g c =
    let a : BufferedLog = held c.args.log.now c.args.buffer.now in
    let b : BufferedLog = held c.loop.log c.loop.buffer in
    let d : BufferedLog = held c.take_turn.new.log c.take_turn.new.buffer in
    let so_far = c.loop.invariant in
    leaves_on c.args.log.now.spare a b d c.args.log.now.consistent so_far.step so_far.same (rw c.loop.invariant.terms.spare at c.take_turn.ensures).leaves

pub returns-in-Written-clause-leaves : goal.returns-in-Written-clause-leaves
returns-in-Written-clause-leaves g c =
    let a : BufferedLog = held c.args.log.now c.args.buffer.now in
    let b : BufferedLog = held c.loop.log c.loop.buffer in
    let d : BufferedLog = held c.take_turn.new.log c.take_turn.new.buffer in
    let so_far = c.loop.invariant in
    leaves_on c.args.log.now.spare a b d c.args.log.now.consistent so_far.step so_far.same (rw c.loop.invariant.terms.spare at c.take_turn.ensures).leaves

pub returns-in-Written-clause-pays : goal.returns-in-Written-clause-pays
returns-in-Written-clause-pays g c =
    let a : BufferedLog = held c.args.log.now c.args.buffer.now in
    let b : BufferedLog = held c.loop.log c.loop.buffer in
    let d : BufferedLog = held c.take_turn.new.log c.take_turn.new.buffer in
    let so_far = c.loop.invariant in
    let turn = (rw c.loop.invariant.terms.spare at (rw c.in-Written.is at c.in_ok-take_turn.ensures)).pays in
    let many = ap length so_far.same in
    let first = so_far.step.lasts in
    let then = (rw c.loop.invariant.terms.spare at c.take_turn.ensures).leaves.log.lasts in
    record {
      costs = costs_last (length a.pages) (length b.pages) c.args.log.now.spare a.log b.log d.log many first then so_far.first so_far.costs turn.pays.costs;
      marks = let marks = turn.pays.marks in omega (arith, so_far.marks, marks);
      answers = let answers = turn.pays.answers in omega (arith, so_far.answers, answers);
      reads = omega (arith, so_far.reads, turn.quiet, many);
      takes_none = none_last (length a.pages) (length b.pages) c.args.log.now.spare a.log b.log d.log many first then so_far.first so_far.costs turn.takes_none;
      takes_one = one_last (length a.pages) (length b.pages) c.args.log.now.spare a.log b.log d.log many first then so_far.first so_far.costs turn.takes_one;
    }

pub returns-in_err-take_turn-clause-pays : goal.returns-in_err-take_turn-clause-pays
returns-in_err-take_turn-clause-pays g c =
    let a : BufferedLog = held c.args.log.now c.args.buffer.now in
    let b : BufferedLog = held c.loop.log c.loop.buffer in
    let d : BufferedLog = held c.take_turn.new.log c.take_turn.new.buffer in
    let so_far = c.loop.invariant in
    let turn = (rw c.loop.invariant.terms.spare at c.in_err-take_turn.ensures).pays in
    let many = ap length so_far.same in
    let first = so_far.step.lasts in
    let then = (rw c.loop.invariant.terms.spare at c.take_turn.ensures).leaves.log.lasts in
    let p = err_from_is_err_and c.from_residual.result c.from_residual.ensures.1 in
    rw p.1 (record {
      costs = costs_last (length a.pages) (length b.pages) c.args.log.now.spare a.log b.log d.log many first then so_far.first so_far.costs turn.pays.costs;
      marks = let marks = turn.pays.marks in omega (arith, so_far.marks, marks);
      answers = tt;
      reads = let reads = turn.pays.reads in omega (arith, so_far.reads, reads);
      takes_none = none_last (length a.pages) (length b.pages) c.args.log.now.spare a.log b.log d.log many first then so_far.first so_far.costs turn.takes_none;
      takes_one = one_last (length a.pages) (length b.pages) c.args.log.now.spare a.log b.log d.log many first then so_far.first so_far.costs turn.takes_one;
    })

pub returns-in-Written-clause-well : goal.returns-in-Written-clause-well
returns-in-Written-clause-well g c =
    let a : BufferedLog = held c.args.log.now c.args.buffer.now in
    let b : BufferedLog = held c.loop.log c.loop.buffer in
    let d : BufferedLog = held c.take_turn.new.log c.take_turn.new.buffer in
    let so_far = c.loop.invariant in
    well_written (length a.pages) (length b.pages) a.log b.log d.log (ap length so_far.same) so_far.step.lasts (rw c.loop.invariant.terms.spare at c.take_turn.ensures).leaves.log.lasts so_far.first _ _ (rw c.loop.invariant.terms.spare at (rw c.in-Written.is at c.in_ok-take_turn.ensures)).well

pub returns-in_err-take_turn-clause-well : goal.returns-in_err-take_turn-clause-well
returns-in_err-take_turn-clause-well g c =
    let a : BufferedLog = held c.args.log.now c.args.buffer.now in
    let b : BufferedLog = held c.loop.log c.loop.buffer in
    let d : BufferedLog = held c.take_turn.new.log c.take_turn.new.buffer in
    let so_far = c.loop.invariant in
    let p = err_from_is_err_and c.from_residual.result c.from_residual.ensures.1 in
    rw p.1 (well_short (length a.pages) (length b.pages) a.log b.log d.log (ap length so_far.same) so_far.step.lasts (rw c.loop.invariant.terms.spare at c.take_turn.ensures).leaves.log.lasts so_far.first _ _ (rw c.loop.invariant.terms.spare at c.in_err-take_turn.ensures).well)

pub returns-in-Written-clause-sizes : goal.returns-in-Written-clause-sizes
returns-in-Written-clause-sizes g c =
    let so_far = c.loop.invariant in
    let turn = (rw c.loop.invariant.terms.spare at c.take_turn.ensures).sizes in
    record { most = turn.most ∙ so_far.sizes.most; bytes = turn.bytes ∙ so_far.sizes.bytes }

pub returns-in_err-take_turn-clause-sizes : goal.returns-in_err-take_turn-clause-sizes
returns-in_err-take_turn-clause-sizes g c =
    let so_far = c.loop.invariant in
    let turn = (rw c.loop.invariant.terms.spare at c.take_turn.ensures).sizes in
    record { most = turn.most ∙ so_far.sizes.most; bytes = turn.bytes ∙ so_far.sizes.bytes }

pub returns-in-Written-clause-ends : goal.returns-in-Written-clause-ends
returns-in-Written-clause-ends g c =
    let a : BufferedLog = held c.args.log.now c.args.buffer.now in
    let b : BufferedLog = held c.loop.log c.loop.buffer in
    let d : BufferedLog = held c.take_turn.new.log c.take_turn.new.buffer in
    let so_far = c.loop.invariant in
    let done = (rw c.loop.invariant.terms.spare at (rw c.in-Written.is at c.in_ok-take_turn.ensures)).ends in
    (whole_after c.args.log.now.spare a b d c.args.log.now.consistent so_far.step so_far.same done.0, done.1, answered_after c.args.log.now.spare a b d so_far.step done.2)

pub returns-in_err-take_turn-clause-ends : goal.returns-in_err-take_turn-clause-ends
returns-in_err-take_turn-clause-ends g c =
    let a : BufferedLog = held c.args.log.now c.args.buffer.now in
    let b : BufferedLog = held c.loop.log c.loop.buffer in
    let d : BufferedLog = held c.take_turn.new.log c.take_turn.new.buffer in
    let so_far = c.loop.invariant in
    let p = err_from_is_err_and c.from_residual.result c.from_residual.ensures.1 in
    let fault = c.in_err-take_turn.field-0.0 in
    rw (p.1, p.2) (why_before (length a.pages) c.args.log.now.spare d.log.device a.log.table b.log.table d.log.table fault so_far.step.geometry so_far.step.committed_count so_far.within_limit
    (subst (λ n. WhyNoRoom n c.args.log.now.spare d.log.device b.log.table d.log.table fault) (ap length so_far.same) (rw c.loop.invariant.terms.spare at c.in_err-take_turn.ensures).ends))
