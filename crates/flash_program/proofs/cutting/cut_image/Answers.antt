use Rattle.std.proofs.Common.{Ok, refl}
use Rattle.std.proofs.lemmas.Result.{err_from_is_err_and}
use Rattle.nand_model.specs.MemoryState as memory
use Rattle.flash_program.proofs.CutEndings.{not_copied, no_script, script_done, script_stopped}
use Rattle.flash_program.specs.Sessions.{stream}
use Rattle.flash_program.proofs.cutting.cut_image.Goals as goal

pub returns-in_err-device : goal.returns-in_err-device
returns-in_err-device g c =
    let p = err_from_is_err_and c.from_residual.result c.from_residual.ensures.1 in
    let input = stream g.R.Read.remaining c.args.reader.now c.args.reader.now in
    let output = stream g.W.Write.contents c.args.writer.now c.args.writer.now in
    rw (p.1, p.2) (not_copied g.F.Read.remaining c.args.image c.args.seed c.args.sessions input output c.in_err-device.field-0.0 refl refl c.in_err-device.ensures.fault)

pub returns-in_err-script : goal.returns-in_err-script
returns-in_err-script g c =
    let r = c.from_residual-in_err-script in
    let p = err_from_is_err_and r.result r.ensures.1 in
    let output = stream g.W.Write.contents c.args.writer.now c.args.writer.now in
    rw (p.1, p.2) (no_script g.F.Read.remaining c.args.image c.args.seed c.args.sessions (memory.device c.in_ok-device.device) _ output c.in_ok-device.ensures.opens
    c.in_err-script.field-0.0 refl c.in_err-script.ensures)

pub returns-in-Ok : goal.returns-in-Ok
returns-in-Ok g c =
    script_done g.F.Read.remaining c.args.image c.args.seed c.args.sessions (memory.device c.in_ok-device.device) _ _ c.in_ok-device.ensures.opens c.in_ok-script.script (Ok tt) c.in_ok-script.ensures c.in-Ok.ensures.reports tt

pub returns-in-Err : goal.returns-in-Err
returns-in-Err g c =
    script_stopped g.F.Read.remaining c.args.image c.args.seed c.args.sessions (memory.device c.in_ok-device.device) _ _ c.in_ok-device.ensures.opens c.in_ok-script.script c.in-Err.fault c.fault_of.result
    c.fault_of.ensures c.in_ok-script.ensures c.in-Err.ensures.reports c.in-Err.ensures.fault
