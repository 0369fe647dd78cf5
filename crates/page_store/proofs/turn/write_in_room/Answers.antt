use Rattle.std.proofs.Common.{length, refl, ap, ◌∙◌, arith, inl, inr}
use Rattle.std.proofs.lemmas.Result.{err_from_is_err_and}
use Rattle.flash_tree.specs.laws.Truth.{none_after}
use Rattle.nand_model.specs.declared.geometry.Geometry.{Geometry}
use Rattle.block_state.specs.TableOf.{table}
use Rattle.transactions.specs.Checking.{log_of}
use Rattle.flash_log.specs.laws.Mountable.{mountable_on}
use Rattle.flash_log.specs.laws.Room.{same_page}
use Rattle.flash_log.specs.laws.Steps.{step_on}
use Rattle.page_store.specs.Buffered.{BufferedLog, held, in_parts}
use Rattle.page_store.specs.GroupWriting.{IsWaiting}
use Rattle.page_store.proofs.Costing.{fits_block, none_with_room}
use Rattle.page_store.proofs.Staying.{attempt_hindered}
use Rattle.page_store.proofs.Turning.{answered_here, attempt_err, commits_then, leaves_committed, leaves_moved, waiting_then, whole_then}
use Rattle.page_store.proofs.turn.write_in_room.Goals as goal

pub invariant_of-log : goal.invariant_of-log
invariant_of-log g c =
    let log = c.args.log.now in
    let committed = (c.write_buffered.ensures.attempts log.spare log.consistent c.requires.free).0.log in
    let geometry = committed.lasts.geometry in
    let pages = ap (λ (x : Geometry). x.pages) geometry in
    let bytes = ap (λ (x : Geometry). x.bytes) geometry in
    record {
      can_write = committed.can_write;
      consistent = committed.consistent;
      room_size = record {
        copies = omega (arith, log.room_size.copies, pages);
        entries = omega (arith, log.room_size.entries, pages);
        scratch = same_page log.room.scratch.len c.write_buffered.new.scratch _ (omega arith) ∙ omega (arith, log.room_size.scratch, bytes);
      };
      mountable = mountable_on log.origin.first (log_of (g.N.Nand.state log.device) (table log.blocks)) (log_of (g.N.Nand.state c.write_buffered.new.device) (table c.write_buffered.new.blocks)) log.index c.write_buffered.new.index
          c.write_buffered.ensures.lasts c.write_buffered.ensures.mountable log.mountable;
    }

pub returns-in_err-write_buffered-clause-leaves : goal.returns-in_err-write_buffered-clause-leaves
returns-in_err-write_buffered-clause-leaves g c = (c.write_buffered.ensures.attempts c.args.log.now.spare c.args.log.now.consistent c.requires.free).0

pub returns-in_err-write_buffered-clause-well : goal.returns-in_err-write_buffered-clause-well
returns-in_err-write_buffered-clause-well g c =
    let a : BufferedLog = held c.args.log.now c.args.buffer.now in
    let b : BufferedLog = in_parts g.N.Nand.state c.write_buffered.new.device c.write_buffered.new.blocks c.write_buffered.new.index c.write_buffered.new.buffer in
    let ends = (c.in_err-write_buffered.ensures.attempts c.args.log.now.spare c.args.log.now.consistent c.requires.free).1 in
    let p = err_from_is_err_and c.from_residual.result c.from_residual.ensures.1 in
    rw p.1 (record { stays_open = tt; unhindered = λ h. absurd (attempt_hindered (length a.pages) c.args.log.now.spare a b c.in_err-write_buffered.field-0.0 ends c.write_buffered.ensures.lasts.honest h) })

pub returns-in_err-write_buffered-clause-ends : goal.returns-in_err-write_buffered-clause-ends
returns-in_err-write_buffered-clause-ends g c =
    let a : BufferedLog = held c.args.log.now c.args.buffer.now in
    let b : BufferedLog = in_parts g.N.Nand.state c.write_buffered.new.device c.write_buffered.new.blocks c.write_buffered.new.index c.write_buffered.new.buffer in
    let ends = (c.in_err-write_buffered.ensures.attempts c.args.log.now.spare c.args.log.now.consistent c.requires.free).1 in
    let p = err_from_is_err_and c.from_residual.result c.from_residual.ensures.1 in
    rw (p.1, p.2) (attempt_err (length a.pages) c.args.log.now.spare a b c.in_err-write_buffered.field-0.0 ends)

pub returns-in-Trusted-clause-leaves : goal.returns-in-Trusted-clause-leaves
returns-in-Trusted-clause-leaves g c = (c.write_buffered.ensures.attempts c.args.log.now.spare c.args.log.now.consistent c.requires.free).0

pub returns-in-Trusted-clause-ends : goal.returns-in-Trusted-clause-ends
returns-in-Trusted-clause-ends g c =
    let a : BufferedLog = held c.args.log.now c.args.buffer.now in
    let b : BufferedLog = in_parts g.N.Nand.state c.write_buffered.new.device c.write_buffered.new.blocks c.write_buffered.new.index c.write_buffered.new.buffer in
    let done = (rw c.in-Trusted.is at c.in_ok-write_buffered.ensures).attempts c.args.log.now.spare c.args.log.now.consistent c.requires.free in
    let same = c.write_buffered.ensures.bad in
    let within_limit = c.requires.within_limit in
    (done.1.0, omega (arith, same, within_limit), answered_here c.args.log.now.spare a b c.args.log.now.can_write c.args.log.now.consistent (inl done.1.1))

pub retire-requires-clause-within_limit : goal.retire-requires-clause-within_limit
retire-requires-clause-within_limit g c =
    let same = c.write_buffered.ensures.bad in
    let within_limit = c.requires.within_limit in
    omega (arith, same, within_limit)

pub retire-requires-clause-none : goal.retire-requires-clause-none
retire-requires-clause-none g c =
    let a : BufferedLog = held c.args.log.now c.args.buffer.now in
    let b : BufferedLog = in_parts g.N.Nand.state c.write_buffered.new.device c.write_buffered.new.blocks c.write_buffered.new.index c.write_buffered.new.buffer in
    let done = (rw c.in-Suspect.is at c.in_ok-write_buffered.ensures).attempts c.args.log.now.spare c.args.log.now.consistent c.requires.free in
    none_after a.log.device b.log.device a.log.table.checkpoint b.log.table.checkpoint done.0.log.numbers.truth (none_with_room (length a.pages) a.log.device a.log.table c.args.log.now.can_write c.requires.not_empty c.requires.fits)

pub retire-requires-clause-block : goal.retire-requires-clause-block
retire-requires-clause-block g c =
    let done = (rw c.in-Suspect.is at c.in_ok-write_buffered.ensures).attempts c.args.log.now.spare c.args.log.now.consistent c.requires.free in
    record { within = done.1.1.within; good = done.1.1.good }

pub returns-in_err-retire-in-Suspect-clause-leaves : goal.returns-in_err-retire-in-Suspect-clause-leaves
returns-in_err-retire-in-Suspect-clause-leaves g c =
    let a : BufferedLog = held c.args.log.now c.args.buffer.now in
    let b : BufferedLog = in_parts g.N.Nand.state c.write_buffered.new.device c.write_buffered.new.blocks c.write_buffered.new.index c.write_buffered.new.buffer in
    let d : BufferedLog = held c.retire.new.self c.write_buffered.new.buffer in
    let done = (rw c.in-Suspect.is at c.in_ok-write_buffered.ensures).attempts c.args.log.now.spare c.args.log.now.consistent c.requires.free in
    leaves_committed c.args.log.now.spare a d (commits_then c.args.log.now.spare a b d done.1.0.commits c.retire.ensures.step) done.1.0.empty

pub returns-in_ok-retire-in-Suspect-clause-leaves : goal.returns-in_ok-retire-in-Suspect-clause-leaves
returns-in_ok-retire-in-Suspect-clause-leaves g c =
    let a : BufferedLog = held c.args.log.now c.args.buffer.now in
    let b : BufferedLog = in_parts g.N.Nand.state c.write_buffered.new.device c.write_buffered.new.blocks c.write_buffered.new.index c.write_buffered.new.buffer in
    let d : BufferedLog = held c.retire.new.self c.write_buffered.new.buffer in
    let done = (rw c.in-Suspect.is at c.in_ok-write_buffered.ensures).attempts c.args.log.now.spare c.args.log.now.consistent c.requires.free in
    leaves_committed c.args.log.now.spare a d (commits_then c.args.log.now.spare a b d done.1.0.commits c.retire.ensures.step) done.1.0.empty

pub returns-in_ok-retire-in-Suspect-clause-ends : goal.returns-in_ok-retire-in-Suspect-clause-ends
returns-in_ok-retire-in-Suspect-clause-ends g c =
    let a : BufferedLog = held c.args.log.now c.args.buffer.now in
    let b : BufferedLog = in_parts g.N.Nand.state c.write_buffered.new.device c.write_buffered.new.blocks c.write_buffered.new.index c.write_buffered.new.buffer in
    let d : BufferedLog = held c.retire.new.self c.write_buffered.new.buffer in
    let done = (rw c.in-Suspect.is at c.in_ok-write_buffered.ensures).attempts c.args.log.now.spare c.args.log.now.consistent c.requires.free in
    let retired = c.in_ok-retire-in-Suspect.ensures.ends in (
      whole_then c.args.log.now.spare a b d done.1.0 c.retire.ensures.step refl refl retired.0.free retired.1,
      retired.0.within_limit,
      answered_here c.args.log.now.spare a d c.args.log.now.can_write c.args.log.now.consistent (inr (c.in-Suspect.block, done.1.1.was, retired.0.bad)),
    )

pub retire-requires-in-Failed-clause-within_limit : goal.retire-requires-in-Failed-clause-within_limit
retire-requires-in-Failed-clause-within_limit g c =
    let same = c.write_buffered.ensures.bad in
    let within_limit = c.requires.within_limit in
    omega (arith, same, within_limit)

pub retire-requires-in-Failed-clause-none : goal.retire-requires-in-Failed-clause-none
retire-requires-in-Failed-clause-none g c =
    let a : BufferedLog = held c.args.log.now c.args.buffer.now in
    let b : BufferedLog = in_parts g.N.Nand.state c.write_buffered.new.device c.write_buffered.new.blocks c.write_buffered.new.index c.write_buffered.new.buffer in
    let done = (rw c.in-Failed.is at c.in_ok-write_buffered.ensures).attempts c.args.log.now.spare c.args.log.now.consistent c.requires.free in
    none_after a.log.device b.log.device a.log.table.checkpoint b.log.table.checkpoint done.0.log.numbers.truth (none_with_room (length a.pages) a.log.device a.log.table c.args.log.now.can_write c.requires.not_empty c.requires.fits)

pub retire-requires-in-Failed-clause-block : goal.retire-requires-in-Failed-clause-block
retire-requires-in-Failed-clause-block g c =
    let done = (rw c.in-Failed.is at c.in_ok-write_buffered.ensures).attempts c.args.log.now.spare c.args.log.now.consistent c.requires.free in
    record { within = done.1.1.within; good = done.1.1.good }

pub returns-in_err-retire-in-Failed-clause-leaves : goal.returns-in_err-retire-in-Failed-clause-leaves
returns-in_err-retire-in-Failed-clause-leaves g c =
    let a : BufferedLog = held c.args.log.now c.args.buffer.now in
    let b : BufferedLog = in_parts g.N.Nand.state c.write_buffered.new.device c.write_buffered.new.blocks c.write_buffered.new.index c.write_buffered.new.buffer in
    let d : BufferedLog = held c.retire-in-Failed.new.self c.write_buffered.new.buffer in
    let done = (rw c.in-Failed.is at c.in_ok-write_buffered.ensures).attempts c.args.log.now.spare c.args.log.now.consistent c.requires.free in
    let waits : IsWaiting c.args.log.now.spare a b = done.1.0 in
    leaves_moved c.args.log.now.spare a d (step_on c.args.log.now.spare a.log b.log d.log a.index b.index d.index waits.step c.retire-in-Failed.ensures.step) waits.pages c.requires.buffers

pub returns-in_ok-retire-in-Failed-clause-leaves : goal.returns-in_ok-retire-in-Failed-clause-leaves
returns-in_ok-retire-in-Failed-clause-leaves g c =
    let a : BufferedLog = held c.args.log.now c.args.buffer.now in
    let b : BufferedLog = in_parts g.N.Nand.state c.write_buffered.new.device c.write_buffered.new.blocks c.write_buffered.new.index c.write_buffered.new.buffer in
    let d : BufferedLog = held c.retire-in-Failed.new.self c.write_buffered.new.buffer in
    let done = (rw c.in-Failed.is at c.in_ok-write_buffered.ensures).attempts c.args.log.now.spare c.args.log.now.consistent c.requires.free in
    let waits : IsWaiting c.args.log.now.spare a b = done.1.0 in
    leaves_moved c.args.log.now.spare a d (step_on c.args.log.now.spare a.log b.log d.log a.index b.index d.index waits.step c.retire-in-Failed.ensures.step) waits.pages c.requires.buffers

pub returns-in_ok-retire-in-Failed-clause-ends : goal.returns-in_ok-retire-in-Failed-clause-ends
returns-in_ok-retire-in-Failed-clause-ends g c =
    let a : BufferedLog = held c.args.log.now c.args.buffer.now in
    let b : BufferedLog = in_parts g.N.Nand.state c.write_buffered.new.device c.write_buffered.new.blocks c.write_buffered.new.index c.write_buffered.new.buffer in
    let d : BufferedLog = held c.retire-in-Failed.new.self c.write_buffered.new.buffer in
    let done = (rw c.in-Failed.is at c.in_ok-write_buffered.ensures).attempts c.args.log.now.spare c.args.log.now.consistent c.requires.free in
    let retired = c.in_ok-retire-in-Failed.ensures.ends in
    let same = c.write_buffered.ensures.bad in
    let more = retired.0.more in (
      waiting_then c.args.log.now.spare a b d done.1.0 c.retire-in-Failed.ensures.step refl retired.1,
      retired.0.free,
      omega (arith, same, more),
      retired.0.within_limit,
      fits_block (length a.pages) a.log d.log c.args.log.now.can_write (c.retire-in-Failed.ensures.step.lasts.geometry ∙ c.write_buffered.ensures.lasts.geometry) c.requires.fits,
    )
