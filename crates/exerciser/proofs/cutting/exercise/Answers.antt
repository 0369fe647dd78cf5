use Rattle.std.proofs.lemmas.Result.{err_from_is_err_and}
use Rattle.nand_model.specs.MemoryState.{device}
use Rattle.exerciser.proofs.Causes.{not_seen}
use Rattle.exerciser.proofs.cutting.exercise.Goals as goal

pub returns-in_err-seen-clause-fault : goal.returns-in_err-seen-clause-fault
returns-in_err-seen-clause-fault c =
    let p = err_from_is_err_and c.from_residual-in_err-seen.result c.from_residual-in_err-seen.ensures.1 in
    rw (p.1, p.2) (not_seen (device c.args.known_device.device) (device c.in_ok-device.device) c.args.session.now c.draw_fuse.new.session c.in_ok-device.end c.in_err-seen.field-0.0 c.draw_fuse.ensures.same
    c.in_ok-device.ensures.ended c.in_err-seen.ensures.fault)
